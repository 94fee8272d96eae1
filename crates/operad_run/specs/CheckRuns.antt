-- What a run of `operad_check` does: its status, by the words, the source and the sink.
use Rattle.std.specs.Prelude.{ℕ, ◌≡◌, ◌≤◌, ◌⊎◌, List, [], ◌∷◌, length, codes, Some}
use Rattle.std.specs.List.{All}
use Rattle.outside_io.specs.Causes.{Rose}
use Rattle.presentation_text.specs.declared.document.Document as document_of
use Rattle.presentation_text.specs.declared.presentations.TheConstants.{MOST_BYTES}
use Rattle.certificate_text.specs.declared.block.Block.{Block}
use Rattle.operad_answers.specs.Verdicts.{Holds}
use Rattle.operad_run.specs.CheckedTexts.{IsReadWithBlocks, CheckTells}
use Rattle.operad_run.specs.Runs.{Outside, Came, IsMisused, IsUnreadable, IsTooLong, Ends}
use Rattle.operad_run.specs.declared.status.Status.{Status}
use Rattle.operad_run.specs.declared.status.Status.TheVariants.{Done, Refused, Usage, Document, Limit, ReadFault, NoMemory}

-- the one word `member`
abbrev pub IsMemberWord : List (List ℕ) → Type 0
IsMemberWord words = words ≡ codes "member" ∷ []

-- each status with its cause and the text that goes with it; the other statuses define no text
abbrev pub CheckSays : List (List ℕ) → Outside → Status → List ℕ → Type 0
CheckSays words o Usage text = IsMisused IsMemberWord words o text
CheckSays words o ReadFault text = IsUnreadable IsMemberWord words o text
CheckSays words o Limit text = IsTooLong IsMemberWord words o text
CheckSays words o Document text = IsMemberWord words × (bytes : List ℕ) × Came o bytes × CheckTells bytes Document text
CheckSays words o Done text = IsMemberWord words × (bytes : List ℕ) × Came o bytes × CheckTells bytes Done text
CheckSays words o Refused text = IsMemberWord words × (bytes : List ℕ) × Came o bytes × CheckTells bytes Refused text
CheckSays words o _ text = ⊥

-- Where the word is `member`, the bytes are a presentation with blocks and no count of faults rose, the run is done where all
-- blocks hold and refused where one doesn't, or memory ran out.
abbrev pub CheckRunIsComplete : Status → List (List ℕ) → Outside → Type 0
CheckRunIsComplete status words o = (bytes : List ℕ) (document : document_of.Document) (blocks : List Block) → IsMemberWord words
    → o.left ≡ Some bytes → length bytes ≤ MOST_BYTES → IsReadWithBlocks bytes document blocks
    → (Rose o.read_faults o.read_faults_now → ⊥) → (Rose o.write_faults o.write_faults_now → ⊥)
    → (All (Holds document) blocks → (status ≡ Done) ⊎ (status ≡ NoMemory))
    × ((All (Holds document) blocks → ⊥) → (status ≡ Refused) ⊎ (status ≡ NoMemory))

-- what is proved of a run
pub record IsCheckRun (status : Status) (words : List (List ℕ)) (o : Outside) : Type 0 where
  pub ends : Ends (IsMemberWord words) (CheckSays words o) status o
  pub complete : CheckRunIsComplete status words o
