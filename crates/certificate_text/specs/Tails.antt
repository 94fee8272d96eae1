-- What a tail is read as, and why it is refused.
use Rattle.std.specs.Prelude.{ℕ, ◌≡◌, ◌<◌, ◌-◌, ◌^◌, List, length, map, Ok, Err}
use Rattle.std.specs.List.{All}
use Rattle.symmetric_trees.specs.declared.generators.Generator.{Generator}
use Rattle.symmetric_sums.specs.Terms.{FitsOver}
use Rattle.presentation_text.specs.declared.document.Document.{Document}
use Rattle.certificate_text.specs.BlockReadings.{read_tail}
use Rattle.certificate_text.specs.Plain.{plain_block}
use Rattle.certificate_text.specs.declared.block.Block.{Block}
use Rattle.certificate_text.specs.declared.block.Step.{Step}
use Rattle.certificate_text.specs.declared.cert_fail.ReadCertFail.{ReadCertFail}
use Rattle.certificate_text.specs.declared.cert_fail.ReadCertFail.TheVariants.{At, NoMemory}

-- the tail is accepted, and the blocks are what it says
abbrev pub AreReadAs : List ℕ → Document → List Block → Type 0
AreReadAs bytes document blocks = read_tail bytes document document.tail ≡ Ok (map plain_block blocks)

-- why a tail is refused: its first fault, or memory ran out
abbrev pub IsTailRefused : List ℕ → Document → ReadCertFail → Type 0
IsTailRefused bytes document (At fail) = read_tail bytes document document.tail ≡ Err (fail.line, fail.kind)
IsTailRefused bytes document NoMemory = Unit {0}

-- ---- what a checker asks of blocks

-- the step's element fits the field and the table, and the coefficients of its uses are residues
pub record IsCheckableStep (p : ℕ) (generators : List Generator) (step : Step) : Type 0 where
  pub element : FitsOver p generators step.element
  pub coefs : All (λ item. item.coef < p) step.uses

-- The wanted element and the steps are so, and there are fewer than 2^32 - 1 steps.
pub record IsReadyBlock (p : ℕ) (generators : List Generator) (block : Block) : Type 0 where
  pub want : FitsOver p generators block.want
  pub few : length block.steps < 2 ^ 32 - 1
  pub steps : All (IsCheckableStep p generators) block.steps
