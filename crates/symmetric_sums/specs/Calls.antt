-- The answers of the calls on sums, each with its cause.
use Rattle.std.specs.Prelude.{ℕ, ◌≡◌, ◌<◌, ◌==◌, List, [], ◌∷◌, ◌++◌, Result, Ok, Err, if◌then◌else◌}
use Rattle.labelled_trees.specs.Labelled.{IsNumbered}
use Rattle.labelled_trees.specs.Meaning.{tree_of}
use Rattle.labelled_trees.specs.declared.Tree as program
use Rattle.symmetric_sums.specs.Terms.{HaveArity, HaveOneArity, negated}
use Rattle.symmetric_sums.specs.declared.term.Term.{Term}
use Rattle.symmetric_sums.specs.declared.sum.SumFail.{SumFail}
use Rattle.symmetric_sums.specs.declared.sum.SumFail.TheVariants.{ArityDiffers, NoMemory}

-- a term with this number and tree behind the others; a number 0 adds nothing
abbrev pub with_term : ℕ → program.Tree → List Term → List Term
with_term coef tree terms = if coef == 0 then terms else terms ++ record { coef = coef; tree = tree } ∷ []

-- the number is 0, or the tree has an arity that all trees of the list have
abbrev pub Joins : ℕ → program.Tree → List Term → Type 0
Joins coef tree terms = 0 < coef → (n : ℕ) × IsNumbered n (tree_of tree) × HaveArity n terms

-- what `add_term` answers and leaves
abbrev pub TermIsAdded : ℕ → program.Tree → List Term → Result (Unit {0}) SumFail → List Term → Type 0
TermIsAdded coef tree old (Ok done) new = (new ≡ with_term coef tree old) × Joins coef tree old
TermIsAdded coef tree old (Err ArityDiffers) new = (new ≡ old) × (Joins coef tree old → ⊥)
TermIsAdded coef tree old (Err NoMemory) new = (new ≡ old) × (0 < coef) × Joins coef tree old

-- what `minus` answers
abbrev pub Subtracted : ℕ → List Term → List Term → Result (List Term) SumFail → Type 0
Subtracted p one other (Ok terms) = (terms ≡ one ++ negated p other) × HaveOneArity one other
Subtracted p one other (Err ArityDiffers) = HaveOneArity one other → ⊥
Subtracted p one other (Err NoMemory) = HaveOneArity one other
