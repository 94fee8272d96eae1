-- When a block of steps holds.
use Rattle.std.specs.Prelude.{ℕ, ◌++◌, List, [], ◌∷◌, map}
use Rattle.std.specs.List.{All}
use Rattle.labelled_trees.specs.Trees.{Tree}
use Rattle.symmetric_trees.specs.Generators.{parts_at}
use Rattle.symmetric_trees.specs.declared.generators.Generator.{Generator}
use Rattle.symmetric_sums.specs.Terms.{terms_of}
use Rattle.operad_ideals.specs.Collected.{HaveOneForm}
use Rattle.symmetric_sums.specs.Uses.{AreGoodUses, sum_of}
use Rattle.symmetric_sums.specs.declared.term.Term.{Term}
use Rattle.certificate_text.specs.Tails.{IsCheckableStep}
use Rattle.certificate_text.specs.declared.block.Step.{Step}

-- ---- what the checker is given

abbrev pub AreCheckable : ℕ → List Generator → List Step → Type 0
AreCheckable p generators = All (IsCheckableStep p generators)

abbrev pub elements_of : List Step → List (List Term)
elements_of = map (λ step. step.element)

-- ---- steps and blocks

-- A step holds over the earlier ones: its uses are good, and its element and their sum collect to the same sum.
pub record StepHolds (p : ℕ) (generators : List Generator) (rels earlier : List (List Term)) (step : Step) : Type 0 where
  pub uses : AreGoodUses p generators rels earlier step.uses
  pub same : HaveOneForm p (parts_at generators) (terms_of step.element) (sum_of p generators rels earlier step.uses)

-- each step holds over the earlier ones and those before it
abbrev pub StepsHold : ℕ → List Generator → List (List Term) → List (List Term) → List Step → Type 0
StepsHold p generators rels earlier [] = Unit {0}
StepsHold p generators rels earlier (step ∷ steps) = StepHolds p generators rels earlier step × StepsHold p generators rels (earlier ++ step.element ∷ []) steps

-- the element of the last step; nothing where there are no steps
abbrev pub last_element : List Step → List (ℕ × Tree ℕ)
last_element [] = []
last_element (step ∷ []) = terms_of step.element
last_element (step ∷ (next ∷ steps)) = last_element (next ∷ steps)

-- the wanted element and the last step's element collect to the same sum
abbrev pub IsWanted : ℕ → List Generator → List Term → List Step → Type 0
IsWanted p generators want steps = HaveOneForm p (parts_at generators) (terms_of want) (last_element steps)

-- A block holds: each step holds over those before it, and the last one gives the wanted element.
pub record BlockHolds (p : ℕ) (generators : List Generator) (rels : List (List Term)) (want : List Term) (steps : List Step) : Type 0 where
  pub steps_hold : StepsHold p generators rels [] steps
  pub wanted : IsWanted p generators want steps
