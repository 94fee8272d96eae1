-- Shuffle forms of labelled trees, and the trees of shuffle trees.
use Rattle.std.proofs.Common.{◌≡◌, ℕ, ◌<◌, ◌≤◌, refl, sym, ap, ◌∙◌, subst, arith, List}
use Rattle.labelled_trees.specs.Trees.{Tree}
use Rattle.labelled_trees.specs.Leaves.{occurs}
use Rattle.labelled_trees.specs.Labelled.{Fits}
use Rattle.operad_ideals.specs.Spelling.{IsSorted}
use Rattle.operad_ideals.specs.Spelling as spelling
use Rattle.operad_ideals.specs.Sorting.{spelled, spelled_sign}
use Rattle.operad_ideals.proofs.Spellings.{one_spelling, is_sorted_spelled}
use Rattle.shuffle_insertions.specs.ShuffleTrees.{IsShuffle, IsShuffleTree}
use Rattle.shuffle_insertions.proofs.LabelSums.{once_of}
use Rattle.shuffle_transfer.specs.Labels.{inputs_of, shuffle_form, symmetric_tree}
use Rattle.shuffle_transfer.proofs.ShuffleFormsFit as passage
use Rattle.shuffle_transfer.proofs.Spelling.{back_of, occurs_of, spelled_is}
use Rattle.shuffle_trees.specs.ValidTrees.{IsValid}
use Rattle.symmetric_trees.specs.Generators.{parts_at, generators_of}
use Rattle.symmetric_trees.specs.Spelling.{meaning_of}
use Rattle.symmetric_trees.specs.Trees.{IsLabelled}
use Rattle.symmetric_trees.specs.declared.generators.Generator.{Generator}
use Rattle.symmetric_trees.specs.declared.spelling.Sign.{Sign}
use Rattle.symmetric_trees.specs.declared.spelling.Sign.TheVariants.{Plus, Minus}
use Rattle.shuffle_passage.specs.Passage.{IsFormOf, OneShuffleForm}
use Rattle.shuffle_trees.proofs.ListedTrees.{fits_wide}

-- the shuffle form of a labelled tree is a shuffle tree over the labels
pub form_shuffle : (gens : List Generator) (n : ℕ) (t : Tree ℕ) → IsLabelled gens n t → IsShuffleTree (inputs_of (generators_of gens)) n (shuffle_form (generators_of gens) t)
form_shuffle gens n t h = passage.forth (generators_of gens) n t record { fits = h.fits; each = h.each; only = h.only }

-- where its leaf numbers are below 256, it is valid
pub form_valid : (gens : List Generator) (n : ℕ) (t : Tree ℕ) → IsLabelled gens n t → ((k : ℕ) → 0 < occurs k (shuffle_form (generators_of gens) t) → k < 256) → IsValid (shuffle_form (generators_of gens) t)
form_valid gens n t h small =
    let k = form_shuffle gens n t h in
    let s = k.shuffle in
    record {
      wide = fits_wide (inputs_of (generators_of gens)) (shuffle_form (generators_of gens) t) k.fits;
      rising = s.rising;
      once = once_of n (shuffle_form (generators_of gens) t) s;
      only = λ i o. ((s.only i o).0, small i o);
    }

-- what is found is the shuffle form with its sign
pub form_of : (gens : List Generator) (n : ℕ) (t : Tree ℕ) (sign : Sign) (s : Tree ℕ) → IsLabelled gens n t → meaning_of sign ≡ spelled_sign (parts_at gens) t → s ≡ shuffle_form (generators_of gens) t → IsFormOf gens t sign s
form_of gens n t sign s h e f =
    let one = one_spelling (parts_at gens) n t h in
    let law = passage.spelling (generators_of gens) n t record { fits = h.fits; each = h.each; only = h.only } in
    record {
      sorted = spelled (parts_at gens) t;
      spelling = subst (λ q. spelling.IsSpelling (parts_at gens) t q (spelled (parts_at gens) t)) (sym e) one.0;
      form = f ∙ sym law.1;
      back = ap (symmetric_tree (generators_of gens)) f ∙ law.0;
    }

-- the tree of a shuffle tree is sorted
pub back_sorted : (gens : List Generator) (s : Tree ℕ) → IsValid s → Fits (inputs_of (generators_of gens)) s → IsSorted (parts_at gens) (symmetric_tree (generators_of gens) s)
back_sorted gens s v f =
    let generators = generators_of gens in
    let t = symmetric_tree generators s in
    let b = back_of generators s v.rising f in
    let once : (i : ℕ) → occurs i t ≤ 1 = λ i. omega (arith, occurs_of generators s v.rising f i, v.once i) in
    let same : t ≡ spelled (parts_at gens) t = ap (symmetric_tree generators) (sym b.form_is) ∙ spelled_is generators t b.fits once in
    subst (IsSorted (parts_at gens)) (sym same) (is_sorted_spelled (parts_at gens) t b.fits once)

-- and it has that shuffle form, with the sign plus
pub back_form : (gens : List Generator) (n : ℕ) (s : Tree ℕ) → IsShuffle n s → Fits (inputs_of (generators_of gens)) s → IsLabelled gens n (symmetric_tree (generators_of gens) s) × IsFormOf gens (symmetric_tree (generators_of gens) s) Plus s
back_form gens n s h f =
    let law = passage.back_law (generators_of gens) n s record { fits = f; shuffle = h } in
    (law.0, form_of gens n (symmetric_tree (generators_of gens) s) Plus s law.0 (sym law.2) (sym law.1))

signs_apart : (a b : Sign) → meaning_of a ≡ meaning_of b → a ≡ b
signs_apart Plus Plus e = refl
signs_apart Plus Minus e = absurd cc
signs_apart Minus Plus e = absurd cc
signs_apart Minus Minus e = refl

pub one_shuffle_form : OneShuffleForm
one_shuffle_form gens n t a b s r h x y =
    let one = one_spelling (parts_at gens) n t h in
    let first = one.1 (meaning_of a) x.sorted x.spelling in
    let second = one.1 (meaning_of b) y.sorted y.spelling in
    (signs_apart a b (first.0 ∙ sym second.0), x.form ∙ ap (shuffle_form (generators_of gens)) (first.1 ∙ sym second.1) ∙ sym y.form)
