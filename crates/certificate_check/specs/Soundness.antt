-- What it says that a block holds.
use Rattle.std.specs.Prelude.{ℕ, ◌<◌, List}
use Rattle.std.specs.List.{All}
use Rattle.operad_ideals.specs.Ideals.{InIdeal}
use Rattle.symmetric_trees.specs.declared.generators.Generator.{Generator}
use Rattle.symmetric_sums.specs.Terms.{terms_of}
use Rattle.symmetric_sums.specs.Instances.{element_arity}
use Rattle.symmetric_sums.specs.Membership.{presentation_of, IsElement}
use Rattle.symmetric_sums.specs.declared.term.Term.{Term}
use Rattle.certificate_text.specs.declared.block.Step.{Step}
use Rattle.certificate_check.specs.Blocks.{BlockHolds}

-- each sum of the relations and of the block is an element of its arity
pub record AreElements (generators : List Generator) (rels : List (List Term)) (want : List Term) (steps : List Step) : Type 0 where
  pub rels_are : All (λ rel. IsElement generators (terms_of rel)) rels
  pub want_is : IsElement generators (terms_of want)
  pub steps_are : All (λ step. IsElement generators (terms_of step.element)) steps

-- The wanted element of a block that holds is in the ideal that the relations generate, in its arity.
abbrev pub HeldBlocksAreMembers : Type 0
HeldBlocksAreMembers = (p : ℕ) (generators : List Generator) (rels : List (List Term)) (want : List Term) (steps : List Step) → 0 < p
    → AreElements generators rels want steps → BlockHolds p generators rels want steps → InIdeal (presentation_of p generators rels) (element_arity (terms_of want)) (terms_of want)
