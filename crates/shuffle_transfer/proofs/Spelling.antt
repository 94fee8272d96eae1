-- The tree of the shuffle form is the sorted spelling.
use Rattle.std.proofs.lemmas.Simd.{map-map}
use Rattle.std.proofs.Common.{◌≡◌, ℕ, ◌≤◌, List, [], ◌∷◌, map, length, refl, sym, ◌∙◌, ap, arith, subst}
use mathlib.Core.Path.{ap₂}
use Rattle.std.specs.List.{AllByRecursion}
use Rattle.labelled_trees.specs.Trees.{Tree, Row, leaf, node, none, more, row}
use Rattle.labelled_trees.specs.Leaves.{occurs, occurs_row}
use Rattle.labelled_trees.specs.Labelled.{Fits, FitsRow}
use Rattle.labelled_trees.specs.Insertions.{item}
use Rattle.labelled_trees.proofs.Rows.{inputs-row}
use Rattle.shuffle_insertions.specs.ShuffleTrees.{least, IsRising}
use Rattle.operad_ideals.specs.Spelling.{least_leaf}
use Rattle.operad_ideals.specs.Sorting.{sort_by, sort_parts, spelled, spelled_row}
use Rattle.operad_ideals.specs.Parts.{Part, parts_of}
use Rattle.operad_ideals.specs.Laws.{arity}
use Rattle.operad_ideals.proofs.SortedLists.{Apart, Ascends, every_sort_by, length-sort_by, sort_by-ascends}
use Rattle.operad_ideals.proofs.SortedParts.{map-sort_parts}
use Rattle.operad_ideals.proofs.SameOrder.{sort_parts-order}
use Rattle.shuffle_transfer.specs.Orderings.{IsOrdering}
use Rattle.shuffle_transfer.specs.ShuffleForms.{ranks, form_row}
use Rattle.shuffle_transfer.specs.Labels.{label, gen, word, inputs_of, shuffle_form, symmetric_tree}
use Rattle.shuffle_transfer.proofs.Ranks.{map_same, arranged_back, items_up, items_down, in_range, InRange}
use Rattle.shuffle_transfer.proofs.Words.{parts_plus}
use Rattle.shuffle_transfer.proofs.Labels.{sorted_word, label_gen, label_word, word_of_label, label_is}
use Rattle.shuffle_transfer.proofs.FormGrafts.{length-form_row}
use Rattle.shuffle_transfer.proofs.Forms.{forms_rise, forms_apart, forms_ordering, fits-form_row}
use Rattle.shuffle_transfer.proofs.TreesOfShuffleTrees.{AreLabelled, Back, back, occurs_back, item-map, every_item, to_symmetric_row-map}
use Rattle.shuffle_transfer.proofs.Signs.{turn_of, twist, least_leaf-is}

module _ (generators : List (List Part)) where
  -- the labels of generators meet what is asked
  pub labelled : AreLabelled (arity (parts_of generators)) (label generators) (twist (parts_of generators) (label generators)) (gen generators) (word generators)
  labelled = record {
    is_word = λ l h. (word_of_label generators l h).ordering;
    label_is = λ l h. label_is generators l h;
    no_turns = λ l h. ap turn_of (parts_plus (parts_of generators (gen generators l)) (word generators l) ((word_of_label generators l h).rises));
  }

  pub back_of : (s : Tree ℕ) → IsRising s → Fits (inputs_of generators) s → Back (arity (parts_of generators)) (label generators) (twist (parts_of generators) (label generators)) (gen generators) (word generators) labelled s
  back_of s h f = back (arity (parts_of generators)) (label generators) (twist (parts_of generators) (label generators)) (gen generators) (word generators) labelled s h f

  pub occurs_of : (s : Tree ℕ) → IsRising s → Fits (inputs_of generators) s → (i : ℕ) → occurs i (symmetric_tree generators s) ≡ occurs i s
  occurs_of s h f i = occurs_back (arity (parts_of generators)) (label generators) (twist (parts_of generators) (label generators)) (gen generators) (word generators) labelled s h f i

  record Fine (s : Tree ℕ) : Type 0 where
    rising : IsRising s
    fits : Fits (inputs_of generators) s

  least_leaf-back : (s : Tree ℕ) → Fine s → least_leaf (symmetric_tree generators s) ≡ least s
  least_leaf-back s h = least_leaf-is (arity (parts_of generators)) (symmetric_tree generators s) s (back_of s h.rising h.fits).fits h.rising (occurs_of s h.rising h.fits)

  fine_all : (ts : List (Tree ℕ)) → AllByRecursion IsRising ts → AllByRecursion (Fits (inputs_of generators)) ts → AllByRecursion Fine ts
  fine_all [] h k = tt
  fine_all (t ∷ ts) h k = (record { rising = h.0; fits = k.0 }, fine_all ts h.1 k.1)

  -- sorted trees ts, arranged by the word of a generator, sorted within its parts
  arranged_parts : (g : ℕ) (ts : List (Tree ℕ)) (w : List ℕ) → Ascends least ts → AllByRecursion Fine ts → IsOrdering (length ts) w
      → map (λ i. symmetric_tree generators (item ts i)) (sort_parts (λ n. n) (parts_of generators g) w) ≡ sort_parts least_leaf (parts_of generators g) (map (λ i. symmetric_tree generators (item ts i)) w)
  arranged_parts g ts w a h o =
      ap (map (λ i. symmetric_tree generators (item ts i)))
      (sort_parts-order (InRange (length ts)) (λ n. n) (λ i. least_leaf (symmetric_tree generators (item ts i)))
      (λ i j x y l. rw (low i, low j) (items_up least ts a i j x y l))
      (λ i j x y l. items_down least ts a i j x y (rw (low i, low j) at l))
      (parts_of generators g) w (in_range least ts a w o))
      ∙ map-sort_parts (λ i. symmetric_tree generators (item ts i)) (λ i. least_leaf (symmetric_tree generators (item ts i))) least_leaf (λ i. refl) (parts_of generators g) w
    where
      low : (i : ℕ) → least_leaf (symmetric_tree generators (item ts i)) ≡ least (item ts i)
      low i = least_leaf-back (item ts i) (every_item Fine record { rising = tt; fits = tt } ts h i)

  at_vertex : (g : ℕ) (r : Row ℕ) → Fits (arity (parts_of generators)) (node g r) → ((i : ℕ) → occurs_row i r ≤ 1)
      → map (symmetric_tree generators) (form_row (label generators) r) ≡ spelled_row (parts_of generators) r → symmetric_tree generators (shuffle_form generators (node g r)) ≡ spelled (parts_of generators) (node g r)
  at_vertex g r f d ih =
      ap₂ (λ h xs. node h (row xs)) (label_gen generators g w f.0 o)
      (ap₂ (λ us v. map (item us) v) (to_symmetric_row-map (gen generators) (word generators) (row ts) ∙ ap (map (symmetric_tree generators)) (inputs-row ts)) (label_word generators g w f.0 o)
      ∙ map_same (item (map (symmetric_tree generators) ts)) (λ i. symmetric_tree generators (item ts i)) (sorted_word generators g w) (λ i m. item-map (symmetric_tree generators) refl ts i)
      ∙ arranged_parts g ts w rising fine (subst (λ m. IsOrdering m w) (sym size) o)
      ∙ ap (sort_parts least_leaf (parts_of generators g)) (sym (map-map (symmetric_tree generators) (item ts) w) ∙ ap (map (symmetric_tree generators)) (arranged_back least xs apart) ∙ ih))
    where
      xs : List (Tree ℕ)
      xs = form_row (label generators) r

      ts : List (Tree ℕ)
      ts = sort_by least (form_row (label generators) r)

      w : List ℕ
      w = ranks (map least (form_row (label generators) r))

      o : IsOrdering (arity (parts_of generators) g) (ranks (map least (form_row (label generators) r)))
      o = forms_ordering (label generators) (arity (parts_of generators)) r (arity (parts_of generators) g) f.1 f.2 d

      apart : Apart least (form_row (label generators) r)
      apart = forms_apart (label generators) (arity (parts_of generators)) r f.2 d

      rising : Ascends least (sort_by least (form_row (label generators) r))
      rising = sort_by-ascends least (form_row (label generators) r) (forms_apart (label generators) (arity (parts_of generators)) r f.2 d)

      size : length (sort_by least (form_row (label generators) r)) ≡ arity (parts_of generators) g
      size = length-sort_by least (form_row (label generators) r) ∙ length-form_row (label generators) r ∙ f.1

      fine : AllByRecursion Fine (sort_by least (form_row (label generators) r))
      fine = every_sort_by least Fine (form_row (label generators) r) (fine_all (form_row (label generators) r) (forms_rise (label generators) (arity (parts_of generators)) r f.2 d) (fits-form_row (label generators) (arity (parts_of generators)) (gen generators) (label_gen generators) r f.2 d))

  mutual
    pub spelled_is : (t : Tree ℕ) → Fits (arity (parts_of generators)) t → ((i : ℕ) → occurs i t ≤ 1) → symmetric_tree generators (shuffle_form generators t) ≡ spelled (parts_of generators) t
    spelled_is (leaf n) f d = refl
    spelled_is (node g r) f d = at_vertex g r f d (spelled_row_is r f.2 d)

    spelled_row_is : (r : Row ℕ) → FitsRow (arity (parts_of generators)) r → ((i : ℕ) → occurs_row i r ≤ 1) → map (symmetric_tree generators) (form_row (label generators) r) ≡ spelled_row (parts_of generators) r
    spelled_row_is none f d = refl
    spelled_row_is (more t r) f d = ap₂ (λ x xs. x ∷ xs) (spelled_is t f.0 (λ i. omega (arith, d i))) (spelled_row_is r f.1 (λ i. omega (arith, d i)))
