-- Instances with a built-in hole: a form that serves the proofs. The law `one_ideal` says that they give the same ideal.
use Rattle.std.specs.Prelude.{ℕ, List}
use Rattle.modular_sums.specs.Sums.{IsLinearCombination, moved, AllTerms}
use Rattle.labelled_trees.specs.Trees.{Tree, graft}
use Rattle.labelled_trees.specs.Contexts.{Ctx, fill}
use Rattle.labelled_trees.specs.Equality.{tree_discrete}
use Rattle.labelled_trees.specs.Labelled.{IsLabelled}
use Rattle.operad_ideals.specs.Presentations.{Presentation, arity_of}
use Rattle.operad_ideals.specs.Rules.{Rule, rule_terms}

-- a rule in a context with a hole, with a tree for each leaf
pub record HoleInstance (p : Presentation) (n : ℕ) : Type 0 where
  pub rule : Rule p
  pub context : Ctx ℕ
  pub inputs : ℕ → Tree ℕ
  pub labelled : AllTerms (moved (λ x. fill context (graft x inputs)) (rule_terms p rule)) (IsLabelled (arity_of p) n)

abbrev pub hole_element : (p : Presentation) (n : ℕ) → HoleInstance p n → List (ℕ × Tree ℕ)
hole_element p n i = moved (λ x. fill i.context (graft x i.inputs)) (rule_terms p i.rule)

-- a sum of numbers times these
abbrev pub InHoleIdeal : (p : Presentation) (n : ℕ) → List (ℕ × Tree ℕ) → Type 0
InHoleIdeal p n e = IsLinearCombination tree_discrete (hole_element p n) p.q e
