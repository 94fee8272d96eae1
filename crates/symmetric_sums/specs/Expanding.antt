-- The steps on the way to the element of an instance.
use Rattle.std.specs.Prelude.{ℕ, ◌≡◌, ◌*◌, ◌%◌, ◌<◌, List, length, Result, Ok, Err}
use Rattle.std.specs.List.{All}
use Rattle.labelled_trees.specs.Insertions.{IsContext}
use Rattle.labelled_trees.specs.Leaves.{occurs}
use Rattle.labelled_trees.specs.Meaning.{tree_of}
use Rattle.symmetric_trees.specs.Trees.{IsLabelled}
use Rattle.symmetric_trees.specs.declared.generators.Generator.{Generator}
use Rattle.symmetric_sums.specs.Terms.{terms_of}
use Rattle.symmetric_sums.specs.Instances.{in_place, element_arity}
use Rattle.symmetric_sums.specs.declared.term.Term.{Term}
use Rattle.symmetric_sums.specs.declared.instance.Instance.{Instance}
use Rattle.symmetric_sums.specs.declared.expanding.ExpandFail.{ExpandFail}
use Rattle.symmetric_sums.specs.declared.expanding.ExpandFail.TheVariants.{Unfit, NoMemory}

-- the element has terms, there are as many inputs as its arity, and leaf 0 stands in the context once and in no input
pub record HasPlace (terms : List Term) (instance : Instance) : Type 0 where
  pub some : 0 < length terms
  pub as_many : length instance.inputs ≡ element_arity (terms_of terms)
  pub is_context : IsContext (tree_of instance.context)
  pub no_zero : All (λ t. occurs 0 (tree_of t) ≡ 0) instance.inputs

-- the product of the residues beside the filled tree, and the arity of that tree; no arity where it isn't labelled
abbrev pub IsFilled : ℕ → List Generator → Instance → Term → Result (Term × ℕ) ExpandFail → Type 0
IsFilled p generators instance term (Ok (filled, n)) =
    (filled.coef ≡ (instance.coef * term.coef) % p) × (tree_of filled.tree ≡ in_place instance (tree_of term.tree)) × IsLabelled generators n (tree_of filled.tree)
IsFilled p generators instance term (Err Unfit) = (n : ℕ) → IsLabelled generators n (in_place instance (tree_of term.tree)) → ⊥
IsFilled p generators instance term (Err NoMemory) = Unit {0}
