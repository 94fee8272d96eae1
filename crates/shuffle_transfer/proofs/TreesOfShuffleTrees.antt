-- The tree of a shuffle tree has it as its shuffle form, and no turns.
use Rattle.std.proofs.lemmas.Simd.{map-map}
use Rattle.std.proofs.Common.{◌≡◌, ℕ, zero, suc, ◌≤◌, List, [], ◌∷◌, map, length, refl, sym, ◌∙◌, ap, arith, subst}
use mathlib.Core.Path.{ap₂}
use Rattle.std.specs.List.{AllByRecursion}
use Rattle.std.proofs.Math.ListN.{length-map}
use Rattle.labelled_trees.specs.Trees.{Tree, Row, leaf, node, none, more, row, width}
use Rattle.labelled_trees.specs.Leaves.{occurs}
use Rattle.labelled_trees.specs.Labelled.{Fits, FitsRow}
use Rattle.labelled_trees.specs.Insertions.{item}
use Rattle.labelled_trees.proofs.Rows.{row-inputs, width-row, length-inputs}
use Rattle.shuffle_insertions.specs.ShuffleTrees.{least, IsRising, IsRisingRow}
use Rattle.operad_ideals.specs.Sorting.{sort_by}
use Rattle.operad_ideals.proofs.SortedLists.{Ascends}
use Rattle.shuffle_transfer.specs.Orderings.{IsOrdering}
use Rattle.shuffle_transfer.specs.ShuffleForms.{ranks, form, form_row, to_symmetric, to_symmetric_row}
use Rattle.shuffle_transfer.proofs.Ranks.{map_same, ranks-arranged, sort-arranged}
use Rattle.shuffle_transfer.proofs.FormGrafts.{turns, turns_row}
use Rattle.shuffle_transfer.proofs.Forms.{row_ascends, occurs-form}
use Rattle.labelled_trees.proofs.Rows.{fits_row}

-- the inputs of a row, as a list
abbrev pub inputs_list : Row ℕ → List (Tree ℕ)
inputs_list r = Rattle.labelled_trees.specs.Trees.inputs r

pub item-map : (f : Tree ℕ → Tree ℕ) → f (leaf 0) ≡ leaf 0 → (ts : List (Tree ℕ)) (i : ℕ) → item (map f ts) i ≡ f (item ts i)
item-map f z [] i = sym z
item-map f z (t ∷ ts) zero = sym z
item-map f z (t ∷ ts) (suc zero) = refl
item-map f z (t ∷ ts) (suc (suc i)) = item-map f z ts (suc i)

pub every_item : (P : Tree ℕ → Type 0) → P (leaf 0) → (ts : List (Tree ℕ)) → AllByRecursion P ts → (i : ℕ) → P (item ts i)
every_item P z [] h i = z
every_item P z (t ∷ ts) h zero = z
every_item P z (t ∷ ts) h (suc zero) = h.0
every_item P z (t ∷ ts) h (suc (suc i)) = every_item P z ts h.1 (suc i)

pub every_map_of : {X Y : Type 0} (f : X → Y) (P : Y → Type 0) (xs : List X) → ((x : X) → P (f x)) → AllByRecursion P (map f xs)
every_map_of f P [] h = tt
every_map_of f P (x ∷ xs) h = (h x, every_map_of f P xs h)

pub form_row-row : (label : ℕ → List ℕ → ℕ) (ts : List (Tree ℕ)) → form_row label (row ts) ≡ map (form label) ts
form_row-row label [] = refl
form_row-row label (t ∷ ts) = ap (λ us. form label t ∷ us) (form_row-row label ts)

module _ (label twist : ℕ → List ℕ → ℕ) where
  turns_zero : (ts : List (Tree ℕ)) → AllByRecursion (λ t. turns label twist t ≡ 0) ts → turns_row label twist (row ts) ≡ 0
  turns_zero [] h = refl
  turns_zero (t ∷ ts) h = omega (arith, h.0, turns_zero ts h.1)

module _ (gen : ℕ → ℕ) (word : ℕ → List ℕ) where
  pub to_symmetric_row-map : (r : Row ℕ) → to_symmetric_row gen word r ≡ map (to_symmetric gen word) (inputs_list r)
  to_symmetric_row-map none = refl
  to_symmetric_row-map (more t r) = ap (λ us. to_symmetric gen word t ∷ us) (to_symmetric_row-map r)

-- what is asked of labels, with the generator and the word of each
pub record AreLabelled (arity : ℕ → ℕ) (label twist : ℕ → List ℕ → ℕ) (gen : ℕ → ℕ) (word : ℕ → List ℕ) : Type 0 where
  pub is_word : (l : ℕ) → 2 ≤ arity (gen l) → IsOrdering (arity (gen l)) (word l)
  pub label_is : (l : ℕ) → 2 ≤ arity (gen l) → label (gen l) (word l) ≡ l
  pub no_turns : (l : ℕ) → 2 ≤ arity (gen l) → twist (gen l) (word l) ≡ 0

module _ (arity : ℕ → ℕ) (label twist : ℕ → List ℕ → ℕ) (gen : ℕ → ℕ) (word : ℕ → List ℕ) (laws : AreLabelled arity label twist gen word) where
  abbrev inputs_of : ℕ → ℕ
  inputs_of l = arity (gen l)

  pub record Back (s : Tree ℕ) : Type 0 where
    pub fits : Fits arity (to_symmetric gen word s)
    pub form_is : form label (to_symmetric gen word s) ≡ s
    pub no_turns : turns label twist (to_symmetric gen word s) ≡ 0

  back_node : (l : ℕ) (r : Row ℕ) → IsRisingRow r → 2 ≤ arity (gen l) → width r ≡ arity (gen l) → AllByRecursion Back (inputs_list r) → Back (node l r)
  back_node l r h p e k = record {
    fits = (
      p,
      width-row (map (item us) w) ∙ length-map w (item us) ∙ o.length_is,
      fits_row arity (map (item us) w) (every_map_of (item us) (Fits arity) w (every_item (Fits arity) tt us (subst (AllByRecursion (Fits arity)) (sym us_are) (fitting ts k)))),
    );
    form_is =
        ap (λ xs. node (label (gen l) (ranks (map least xs))) (row (sort_by least xs))) forms_are
        ∙ ap₂ (λ v xs. node (label (gen l) v) (row xs)) (ranks-arranged least ts rising w o') (sort-arranged least ts rising w o')
        ∙ ap₂ node (laws.label_is l p) (row-inputs r);
    no_turns =
        let a : twist (gen l) (ranks (map least (form_row label (row (map (item us) w))))) ≡ 0
        = ap (λ xs. twist (gen l) (ranks (map least xs))) forms_are ∙ ap (twist (gen l)) (ranks-arranged least ts rising w o') ∙ laws.no_turns l p in
        let b : turns_row label twist (row (map (item us) w)) ≡ 0
        = turns_zero label twist (map (item us) w) (every_map_of (item us) (λ t. turns label twist t ≡ 0) w (every_item (λ t. turns label twist t ≡ 0) refl us (subst (AllByRecursion (λ t. turns label twist t ≡ 0)) (sym us_are) (unturned ts k)))) in
        omega (arith, a, b);
  }
    where
      ts : List (Tree ℕ)
      ts = inputs_list r

      w : List ℕ
      w = word l

      us : List (Tree ℕ)
      us = to_symmetric_row gen word r

      us_are : to_symmetric_row gen word r ≡ map (to_symmetric gen word) (inputs_list r)
      us_are = to_symmetric_row-map gen word r

      o : IsOrdering (arity (gen l)) (word l)
      o = laws.is_word l p

      o' : IsOrdering (length (inputs_list r)) (word l)
      o' = subst (λ m. IsOrdering m (word l)) (sym (length-inputs r ∙ e)) (laws.is_word l p)

      rising : Ascends least (inputs_list r)
      rising = row_ascends (inputs_list r) (subst IsRisingRow (sym (row-inputs r)) h)

      fitting : (xs : List (Tree ℕ)) → AllByRecursion Back xs → AllByRecursion (Fits arity) (map (to_symmetric gen word) xs)
      fitting [] g = tt
      fitting (x ∷ xs) g = (g.0.fits, fitting xs g.1)

      unturned : (xs : List (Tree ℕ)) → AllByRecursion Back xs → AllByRecursion (λ t. turns label twist t ≡ 0) (map (to_symmetric gen word) xs)
      unturned [] g = tt
      unturned (x ∷ xs) g = (g.0.no_turns, unturned xs g.1)

      formed : (xs : List (Tree ℕ)) → AllByRecursion Back xs → map (λ x. form label (to_symmetric gen word x)) xs ≡ xs
      formed [] g = refl
      formed (x ∷ xs) g = ap₂ (λ y ys. y ∷ ys) g.0.form_is (formed xs g.1)

      -- the shuffle forms of the arranged inputs are the arranged inputs
      forms_are : form_row label (row (map (item (to_symmetric_row gen word r)) (word l))) ≡ map (item (inputs_list r)) (word l)
      forms_are =
          form_row-row label (map (item (to_symmetric_row gen word r)) (word l))
          ∙ map-map (form label) (item (to_symmetric_row gen word r)) (word l)
          ∙ map_same (λ i. form label (item (to_symmetric_row gen word r) i)) (item (inputs_list r)) (word l)
          (λ i m.
          ap (λ xs. form label (item xs i)) (to_symmetric_row-map gen word r)
          ∙ sym (item-map (form label) refl (map (to_symmetric gen word) (inputs_list r)) i)
          ∙ ap (λ xs. item xs i) (map-map (form label) (to_symmetric gen word) (inputs_list r) ∙ formed (inputs_list r) k))

  mutual
    pub back : (s : Tree ℕ) → IsRising s → Fits inputs_of s → Back s
    back (leaf n) h f = record { fits = tt; form_is = refl; no_turns = refl }
    back (node l r) h f = back_node l r h.1 f.0 f.1 (back_row r h.1 f.2)

    back_row : (r : Row ℕ) → IsRisingRow r → FitsRow inputs_of r → AllByRecursion Back (inputs_list r)
    back_row none h f = tt
    back_row (more t r) h f = (back t h.0 f.0, back_row r h.2 f.1)

  pub occurs_back : (s : Tree ℕ) → IsRising s → Fits inputs_of s → (i : ℕ) → occurs i (to_symmetric gen word s) ≡ occurs i s
  occurs_back s h f i = sym (occurs-form label i (to_symmetric gen word s)) ∙ ap (occurs i) (back s h f).form_is
