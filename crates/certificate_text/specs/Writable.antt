-- Blocks that may be written and read back.
use Rattle.std.specs.Prelude.{ℕ, ◌<◌, ◌≤◌, true, List}
use Rattle.std.specs.List.{All}
use Rattle.labelled_trees.specs.Trees.{Tree}
use Rattle.symmetric_trees.specs.declared.generators.Generator.{Generator}
use Rattle.symmetric_sums.specs.declared.instance.Rule.{Rule}
use Rattle.symmetric_sums.specs.declared.instance.Rule.TheVariants.{Rel, Swap, Step}
use Rattle.presentation_text.specs.Accepted.{IsDemanded}
use Rattle.presentation_text.specs.PrintedElements.{IsWrittenOver}
use Rattle.presentation_text.specs.TreeReadings.{any_arity}
use Rattle.certificate_text.specs.Plain.{PlainUse, PlainStep, PlainBlock}
use Rattle.certificate_text.specs.UseText.{greatest_cited}

-- a sum that some element may say
abbrev pub IsWrittenSum : ℕ → List Generator → List (ℕ × Tree ℕ) → Type 0
IsWrittenSum p generators e = (n : ℕ) × IsWrittenOver p generators n e

-- a relation or a step is cited, by a number that may be read
abbrev pub IsCited : Rule → Type 0
IsCited (Rel k) = k ≤ greatest_cited
IsCited (Step k) = k ≤ greatest_cited
IsCited (Swap g at) = ⊥

-- a use: its coefficient is a residue, it cites a relation or a step, and its trees may be read where leaf numbers are free
pub record IsWritableUse (p : ℕ) (generators : List Generator) (item : PlainUse) : Type 0 where
  pub coef : item.coef < p
  pub rule : IsCited item.rule
  pub context : IsDemanded generators (any_arity true) item.context
  pub inputs : All (IsDemanded generators (any_arity true)) item.inputs

pub record IsWritableStep (p : ℕ) (generators : List Generator) (step : PlainStep) : Type 0 where
  pub element : IsWrittenSum p generators step.element
  pub uses : All (IsWritableUse p generators) step.uses

-- A block whose elements may be said, and whose uses may be written.
pub record IsWritableBlock (p : ℕ) (generators : List Generator) (block : PlainBlock) : Type 0 where
  pub want : IsWrittenSum p generators block.want
  pub steps : All (IsWritableStep p generators) block.steps
