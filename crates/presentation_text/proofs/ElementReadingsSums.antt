-- The sum of the terms read so far, and what its terms say.
use Rattle.std.proofs.Common.{◌≡◌, ℕ, ◌<◌, Bool, true, false, List, [], ◌∷◌, ◌++◌, Err, refl, ap, sym, subst}
use Rattle.std.specs.Prelude.{if◌then◌else◌, ◌==◌}
use Rattle.std.proofs.lemmas.List.Elements.{All-push, All-weaker}
use Rattle.labelled_trees.specs.Labelled.{IsNumbered}
use Rattle.labelled_trees.specs.Meaning.{tree_of}
use Rattle.labelled_trees.specs.declared.Tree as program
use Rattle.labelled_trees.proofs.Numbered.{numbered_of_labelled}
use Rattle.symmetric_trees.specs.declared.generators.Generator.{Generator}
use Rattle.symmetric_trees.specs.Trees.{Fits, IsLabelled}
use Rattle.symmetric_sums.specs.Calls.{with_term, Joins, TermIsAdded}
use Rattle.symmetric_sums.specs.Terms.{FitsOver}
use Rattle.symmetric_sums.specs.declared.term.Term.{Term}
use Rattle.symmetric_sums.specs.declared.sum.SumFail.{SumFail}
use Rattle.symmetric_sums.specs.declared.sum.SumFail.TheVariants.{ArityDiffers}
use Rattle.presentation_text.specs.Elements.{Written, residue, written_sum}
use Rattle.presentation_text.specs.ElementReadings.{IsSumOver}

-- a sum with one more term
pub over-push : (p : ℕ) (generators : List Generator) (n : ℕ) (old new : List Term) (coef : ℕ) (tree : program.Tree) → IsSumOver p generators n old → IsLabelled generators n (tree_of tree)
    → coef < p → new ≡ with_term coef tree old → IsSumOver p generators n new
over-push p generators n old new coef tree over labelled small is = by_zero (coef == 0) is
  where
    by_zero : (b : Bool) → new ≡ (if b then old else old ++ record { coef = coef; tree = tree } ∷ []) → IsSumOver p generators n new
    by_zero true e = subst (IsSumOver p generators n) (sym e) over
    by_zero false e =
        let term : Term = record { coef = coef; tree = tree } in
        subst (IsSumOver p generators n) (sym e) (record {
          residues = All-push (λ (x : Term). x.coef < p) old term over.residues small;
          labelled = All-push (λ (x : Term). IsLabelled generators n (tree_of x.tree)) old term over.labelled labelled;
        })

-- a tree of the arity of a sum joins it
pub joins : (p : ℕ) (generators : List Generator) (n : ℕ) (old : List Term) (coef : ℕ) (tree : program.Tree) → IsSumOver p generators n old → IsLabelled generators n (tree_of tree) → Joins coef tree old
joins p generators n old coef tree over labelled = λ positive. (
  n,
  numbered_of_labelled labelled,
  All-weaker (λ (x : Term). IsLabelled generators n (tree_of x.tree)) (λ (x : Term). IsNumbered n (tree_of x.tree)) (λ x h. numbered_of_labelled h) old over.labelled,
)

pub never_differs : (coef : ℕ) (tree : program.Tree) (old new : List Term) (fail : SumFail) → fail ≡ ArityDiffers → TermIsAdded coef tree old (Err fail) new → Joins coef tree old → ⊥
never_differs coef tree old new fail is added j =
    let refused : (new ≡ old) × (Joins coef tree old → ⊥) = subst (λ f. TermIsAdded coef tree old (Err f) new) is added in refused.1 j

pub over-fits : (p : ℕ) (generators : List Generator) (n : ℕ) (sum : List Term) → IsSumOver p generators n sum → FitsOver p generators sum
over-fits p generators n sum over = record {
  residues = over.residues;
  trees = All-weaker (λ (x : Term). IsLabelled generators n (tree_of x.tree)) (λ (x : Term). Fits generators (tree_of x.tree)) (λ x h. h.fits) sum over.labelled;
}

pub said-append : (p : ℕ) (xs ys : List Written) → written_sum p (xs ++ ys) ≡ written_sum p xs ++ written_sum p ys
said-append p [] ys = refl
said-append p (x ∷ xs) ys = by_zero (residue p x == 0) (said-append p xs ys)
  where
    by_zero : (b : Bool) → written_sum p (xs ++ ys) ≡ written_sum p xs ++ written_sum p ys
        → (if b then written_sum p (xs ++ ys) else (residue p x, x.tree) ∷ written_sum p (xs ++ ys)) ≡ (if b then written_sum p xs else (residue p x, x.tree) ∷ written_sum p xs) ++ written_sum p ys
    by_zero true e = e
    by_zero false e = ap (λ r. (residue p x, x.tree) ∷ r) e
