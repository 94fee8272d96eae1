-- Texts of presentations with blocks of certificates, and what the checker answers to them.
use Rattle.std.specs.Prelude.{ℕ, ◌≡◌, ◌+◌, ◌⊎◌, List, ◌∷◌, ◌++◌, length, codes, Err}
use Rattle.std.specs.List.{All}
use Rattle.std.specs.Fmt.{decimal}
use Rattle.symmetric_sums.specs.Terms.{terms_of}
use Rattle.symmetric_sums.specs.Instances.{element_arity}
use Rattle.presentation_text.specs.DocumentReadings.{read_text}
use Rattle.presentation_text.specs.Presentations.{IsReadAs}
use Rattle.presentation_text.specs.declared.document.Document.{Document}
use Rattle.presentation_text.specs.declared.kinds.DocKind.{DocKind}
use Rattle.certificate_text.specs.BlockReadings.{read_tail}
use Rattle.certificate_text.specs.Tails.{AreReadAs}
use Rattle.certificate_text.specs.declared.block.Block.{Block}
use Rattle.certificate_check.specs.Answers.{IsBlockVerdict}
use Rattle.certificate_check.specs.declared.answer.CheckAnswer.TheVariants.{Refused}
use Rattle.certificate_check.specs.declared.answer.CheckCause.{CheckCause}
use Rattle.certificate_check.specs.declared.answer.CheckCause.TheVariants.{Ahead, UseUnfit, Differs, NotWanted}
use Rattle.operad_answers.specs.Parts.{line}
use Rattle.operad_answers.specs.Verdicts.{Holds}
use Rattle.operad_answers.specs.Headline.{IsInIdeal}
use Rattle.operad_run.specs.Runs.{fault_text}
use Rattle.operad_run.specs.declared.checks.Refusal.{Refusal}
use Rattle.operad_run.specs.declared.status.Status.{Status}
use Rattle.operad_run.specs.declared.status.Status.TheVariants as status

-- the text is read as a presentation with these blocks behind it
pub record IsReadWithBlocks (bytes : List ℕ) (document : Document) (blocks : List Block) : Type 0 where
  pub document_is : IsReadAs bytes document
  pub blocks_are : AreReadAs bytes document blocks

-- The first line that is refused, and why: of the presentation, or of the blocks behind it.
abbrev pub IsFirstRefusedLine : List ℕ → ℕ → DocKind → Type 0
IsFirstRefusedLine bytes number kind =
    (read_text bytes ≡ Err (number, kind)) ⊎ ((document : Document) × IsReadAs bytes document × (read_tail bytes document document.tail ≡ Err (number, kind)))

-- the wanted element of the block is in the ideal of the presentation, in its arity
abbrev pub IsWantInIdeal : Document → Block → Type 0
IsWantInIdeal document block = IsInIdeal document (element_arity (terms_of block.want)) (terms_of block.want)

-- All blocks of the text hold, their wanted elements are in the ideal, and the line says how many there are.
pub record IsAccepted (bytes : List ℕ) (text : List ℕ) : Type 0 where
  pub document : Document
  pub blocks : List Block
  pub certified : IsReadWithBlocks bytes document blocks
  pub hold : All (Holds document) blocks
  pub members : All (IsWantInIdeal document) blocks
  pub text_is : text ≡ line (codes "accepted " ++ decimal (length blocks))

abbrev pub cause_name : CheckCause → List ℕ
cause_name Ahead = codes "Ahead"
cause_name UseUnfit = codes "UseUnfit"
cause_name Differs = codes "Differs"
cause_name NotWanted = codes "NotWanted"

-- Some block is the first that doesn't hold, and the line names it, its failing step and the cause.
pub record IsCheckRefusal (bytes : List ℕ) (text : List ℕ) : Type 0 where
  pub document : Document
  pub front : List Block
  pub block : Block
  pub others : List Block
  pub certified : IsReadWithBlocks bytes document (front ++ block ∷ others)
  pub hold : All (Holds document) front
  pub fails : Holds document block → ⊥
  pub step : ℕ
  pub cause : CheckCause
  pub answer : IsBlockVerdict document.field document.gens document.rels block.want block.steps (Refused step cause)
  pub text_is : text ≡ line (codes "refused " ++ (decimal (length front + 1) ++ 32 ∷ (decimal step ++ 32 ∷ cause_name cause)))

-- the status and the text that go with checked bytes; other statuses go with none
abbrev pub CheckTells : List ℕ → Status → List ℕ → Type 0
CheckTells bytes status.Document text = (number : ℕ) × (kind : DocKind) × IsFirstRefusedLine bytes number kind × (text ≡ fault_text number kind)
CheckTells bytes status.Done text = IsAccepted bytes text
CheckTells bytes status.Refused text = IsCheckRefusal bytes text
CheckTells bytes _ text = ⊥

-- what refuses a list of blocks: some block is the first that doesn't hold, with its number, its failing step and the cause
pub record IsRefusedBy (document : Document) (blocks : List Block) (refusal : Refusal) : Type 0 where
  pub front : List Block
  pub block : Block
  pub others : List Block
  pub blocks_are : blocks ≡ front ++ block ∷ others
  pub hold : All (Holds document) front
  pub answer : IsBlockVerdict document.field document.gens document.rels block.want block.steps (Refused refusal.step refusal.cause)
  pub number_is : refusal.block ≡ length front + 1
