-- The shuffle form keeps the leaves and rises.
use Rattle.std.proofs.Common.{◌≡◌, ◌≢◌, ⊎_elim, ℕ, ◌+◌, ◌<◌, ◌≤◌, List, [], ◌∷◌, map, length, refl, sym, ◌∙◌, ap, arith, subst}
use mathlib.Core.Path.{ap₂}
use native.Mathlib.Decide.{ℕ_discrete}
use Rattle.std.specs.List.{AllByRecursion}
use Rattle.labelled_trees.proofs.Rows.{fits_row}
use Rattle.labelled_trees.specs.Trees.{Tree, Row, leaf, node, none, more, row, width}
use Rattle.labelled_trees.specs.Leaves.{one_if, sum_leaves, sum_row, occurs, occurs_row}
use Rattle.labelled_trees.specs.Labelled.{Fits, FitsRow}
use Rattle.labelled_trees.proofs.Rows.{width-row}
use Rattle.shuffle_insertions.specs.ShuffleTrees.{least, IsBefore, HasInput, IsRising, IsRisingRow}
use Rattle.shuffle_insertions.proofs.Rising.{least-occurs}
use Rattle.operad_ideals.specs.Sorting.{put_by, sort_by}
use Rattle.operad_ideals.proofs.SortedLists.{Apart, Ascends, every_weaker, tested, put_past, put_before, every_sort_by, length-sort_by, sort_by-ascends}
use Rattle.shuffle_transfer.specs.Orderings.{IsOrdering}
use Rattle.shuffle_transfer.specs.ShuffleForms.{ranks, form, form_row}
use Rattle.shuffle_transfer.proofs.Ranks.{ranks_ordering}
use Rattle.shuffle_transfer.proofs.FormGrafts.{length-form_row}

sum-put : (x : Tree ℕ) (ts : List (Tree ℕ)) (f : ℕ → ℕ) → sum_row (row (put_by least x ts)) f ≡ sum_leaves x f + sum_row (row ts) f
sum-put x [] f = refl
sum-put x (t ∷ ts) f = ⊎_elim
    (λ l. ap (λ us. sum_row (row us) f) (put_past least x t ts l) ∙ (let k : sum_row (row (put_by least x ts)) f ≡ sum_leaves x f + sum_row (row ts) f = sum-put x ts f in omega (arith, k)))
    (λ l. ap (λ us. sum_row (row us) f) (put_before least x t ts l))
    (tested (least t) (least x))

pub sum-sort : (ts : List (Tree ℕ)) (f : ℕ → ℕ) → sum_row (row (sort_by least ts)) f ≡ sum_row (row ts) f
sum-sort [] f = refl
sum-sort (t ∷ ts) f = sum-put t (sort_by least ts) f ∙ ap (λ k. sum_leaves t f + k) (sum-sort ts f)

inputs_le : (ts : List (Tree ℕ)) → AllByRecursion (λ t. (i : ℕ) → occurs i t ≤ occurs_row i (row ts)) ts
inputs_le [] = tt
inputs_le (t ∷ ts) = (
  λ i. omega arith,
  every_weaker (λ u. (i : ℕ) → occurs i u ≤ occurs_row i (row ts)) (λ u. (i : ℕ) → occurs i u ≤ occurs i t + occurs_row i (row ts)) ts (λ u h i. omega (arith, h i)) (inputs_le ts),
)

pub every_both : {X : Type 0} (P Q : X → Type 0) (xs : List X) → AllByRecursion P xs → AllByRecursion Q xs → AllByRecursion (λ x. P x × Q x) xs
every_both P Q [] h k = tt
every_both P Q (x ∷ xs) h k = ((h.0, k.0), every_both P Q xs h.1 k.1)

-- rising trees without a common leaf have different least leaves
pub rising_apart : (ts : List (Tree ℕ)) → AllByRecursion IsRising ts → ((i : ℕ) → occurs_row i (row ts) ≤ 1) → Apart least ts
rising_apart [] h d = tt
rising_apart (t ∷ ts) h d = (
  every_weaker (λ u. IsRising u × ((i : ℕ) → occurs i u ≤ occurs_row i (row ts))) (λ u. least t ≢ least u) ts
      (λ u k e. clash u k.0 (k.1 (least u)) e)
      (every_both IsRising (λ u. (i : ℕ) → occurs i u ≤ occurs_row i (row ts)) ts h.1 (inputs_le ts)),
  rising_apart ts h.1 (λ i. omega (arith, d i)),
)
  where
    clash : (u : Tree ℕ) → IsRising u → occurs (least u) u ≤ occurs_row (least u) (row ts) → least t ≡ least u → ⊥
    clash u k le e =
        let a : 0 < occurs (least u) u = least-occurs u k in
        let b : 0 < occurs (least u) t = subst (λ n. 0 < occurs n t) e (least-occurs t h.0) in
        absurd (omega (arith, a, b, le, d (least u)))

pub rising_row : (ts : List (Tree ℕ)) → AllByRecursion IsRising ts → Ascends least ts → IsRisingRow (row ts)
rising_row [] h a = tt
rising_row (t ∷ []) h a = (h.0, tt, tt)
rising_row (t ∷ (u ∷ ts)) h a = (h.0, a.0.0, rising_row (u ∷ ts) h.1 a.1)

above : (t : Tree ℕ) (ts : List (Tree ℕ)) → IsBefore t (row ts) → Ascends least ts → AllByRecursion (λ u. least t < least u) ts
above t [] b a = tt
above t (u ∷ ts) b a = (b, every_weaker (λ v. least u < least v) (λ v. least t < least v) ts (λ v l. omega (arith, l, b)) a.0)

pub row_ascends : (ts : List (Tree ℕ)) → IsRisingRow (row ts) → Ascends least ts
row_ascends [] h = tt
row_ascends (t ∷ ts) h = (above t ts h.1 (row_ascends ts h.2), row_ascends ts h.2)

pub row_rises : (ts : List (Tree ℕ)) → IsRisingRow (row ts) → AllByRecursion IsRising ts
row_rises [] h = tt
row_rises (t ∷ ts) h = (h.0, row_rises ts h.2)

pub has_input : (ts : List (Tree ℕ)) → 0 < length ts → HasInput (row ts)
has_input [] h = absurd (omega (arith, h))
has_input (t ∷ ts) h = tt

module _ (label : ℕ → List ℕ → ℕ) where
  mutual
    pub sum-form : (t : Tree ℕ) (f : ℕ → ℕ) → sum_leaves (form label t) f ≡ sum_leaves t f
    sum-form (leaf n) f = refl
    sum-form (node g r) f = sum-sort (form_row label r) f ∙ sum-form_row r f

    pub sum-form_row : (r : Row ℕ) (f : ℕ → ℕ) → sum_row (row (form_row label r)) f ≡ sum_row r f
    sum-form_row none f = refl
    sum-form_row (more t r) f = ap₂ (λ m n. m + n) (sum-form t f) (sum-form_row r f)

  pub occurs-form : (i : ℕ) (t : Tree ℕ) → occurs i (form label t) ≡ occurs i t
  occurs-form i t = sum-form t (λ n. one_if (ℕ_discrete n i))

  module _ (arity : ℕ → ℕ) where
    once_forms : (r : Row ℕ) → ((i : ℕ) → occurs_row i r ≤ 1) → (i : ℕ) → occurs_row i (row (form_row label r)) ≤ 1
    once_forms r d i = omega (arith, d i, sum-form_row r (λ n. one_if (ℕ_discrete n i)))

    mutual
      pub form_rises : (t : Tree ℕ) → Fits arity t → ((i : ℕ) → occurs i t ≤ 1) → IsRising (form label t)
      form_rises (leaf n) h d = tt
      form_rises (node g r) h d =
          let k = forms_rise r h.2 d in (
            has_input (sort_by least (form_row label r)) (let e = length-sort_by least (form_row label r) in omega (arith, e, length-form_row label r, h.0, h.1)),
            rising_row (sort_by least (form_row label r)) (every_sort_by least IsRising (form_row label r) k) (sort_by-ascends least (form_row label r) (rising_apart (form_row label r) k (once_forms r d))),
          )

      pub forms_rise : (r : Row ℕ) → FitsRow arity r → ((i : ℕ) → occurs_row i r ≤ 1) → AllByRecursion IsRising (form_row label r)
      forms_rise none h d = tt
      forms_rise (more t r) h d = (form_rises t h.0 (λ i. omega (arith, d i)), forms_rise r h.1 (λ i. omega (arith, d i)))

    -- the inputs of a vertex have different least leaves
    pub forms_apart : (r : Row ℕ) → FitsRow arity r → ((i : ℕ) → occurs_row i r ≤ 1) → Apart least (form_row label r)
    forms_apart r h d = rising_apart (form_row label r) (forms_rise r h d) (once_forms r d)

    -- so their ranks are a permutation
    pub forms_ordering : (r : Row ℕ) (k : ℕ) → width r ≡ k → FitsRow arity r → ((i : ℕ) → occurs_row i r ≤ 1) → IsOrdering k (ranks (map least (form_row label r)))
    forms_ordering r k e h d = subst (λ m. IsOrdering m (ranks (map least (form_row label r)))) (length-form_row label r ∙ e) (ranks_ordering least (form_row label r) (forms_apart r h d))

    module _ (gen : ℕ → ℕ) (gen_is : (g : ℕ) (w : List ℕ) → 2 ≤ arity g → IsOrdering (arity g) w → gen (label g w) ≡ g) where
      mutual
        pub fits-form : (t : Tree ℕ) → Fits arity t → ((i : ℕ) → occurs i t ≤ 1) → Fits (λ l. arity (gen l)) (form label t)
        fits-form (leaf n) h d = tt
        fits-form (node g r) h d =
            let e : arity (gen (label g (ranks (map least (form_row label r))))) ≡ arity g
            = ap arity (gen_is g (ranks (map least (form_row label r))) h.0 (forms_ordering r (arity g) h.1 h.2 d)) in (
              omega (arith, e, h.0),
              width-row (sort_by least (form_row label r)) ∙ length-sort_by least (form_row label r) ∙ length-form_row label r ∙ h.1 ∙ sym e,
              fits_row (λ l. arity (gen l)) (sort_by least (form_row label r)) (every_sort_by least (Fits (λ l. arity (gen l))) (form_row label r) (fits-form_row r h.2 d)),
            )

        pub fits-form_row : (r : Row ℕ) → FitsRow arity r → ((i : ℕ) → occurs_row i r ≤ 1) → AllByRecursion (Fits (λ l. arity (gen l))) (form_row label r)
        fits-form_row none h d = tt
        fits-form_row (more t r) h d = (fits-form t h.0 (λ i. omega (arith, d i)), fits-form_row r h.1 (λ i. omega (arith, d i)))
