-- What a run of `operad` does: its status, by the words, the source and the sink.
use Rattle.std.specs.Prelude.{ℕ, ◌≡◌, ◌≤◌, ◌⊎◌, List, length, Some}
use Rattle.std.specs.List.{All}
use Rattle.outside_io.specs.Causes.{Rose}
use Rattle.presentation_text.specs.declared.document.Document as document_of
use Rattle.presentation_text.specs.declared.presentations.TheConstants.{MOST_BYTES}
use Rattle.operad_run.specs.Commands.{IsForms, IsCommand}
use Rattle.operad_answers.specs.Limits.{IsAskWithin}
use Rattle.operad_run.specs.FormsAnswers.{IsFreeDocument, FormsTells}
use Rattle.operad_run.specs.Runs.{Outside, Came, IsMisused, IsUnreadable, IsTooLong, Ends}
use Rattle.operad_run.specs.declared.status.Status.{Status}
use Rattle.operad_run.specs.declared.status.Status.TheVariants.{Done, Usage, Document, Limit, ReadFault, NoMemory}

-- each status with its cause and the text that goes with it; the other statuses define no text
abbrev pub FormsSays : List (List ℕ) → Outside → Status → List ℕ → Type 0
FormsSays words o Usage text = IsMisused IsCommand words o text
FormsSays words o ReadFault text = IsUnreadable IsCommand words o text
FormsSays words o Limit text = IsTooLong IsCommand words o text ⊎ ((n : ℕ) × IsForms words n × (bytes : List ℕ) × Came o bytes × FormsTells bytes n Limit text)
FormsSays words o Document text = (n : ℕ) × IsForms words n × (bytes : List ℕ) × Came o bytes × FormsTells bytes n Document text
FormsSays words o Done text = (n : ℕ) × IsForms words n × (bytes : List ℕ) × Came o bytes × FormsTells bytes n Done text
FormsSays words o _ text = ⊥

-- Where the words are a command, the bytes are a document without a tail, without relations that have terms and without questions of a
-- greater arity, and no count of faults rose, the run is done, or memory ran out.
abbrev pub FormsRunIsComplete : Status → List (List ℕ) → Outside → Type 0
FormsRunIsComplete status words o = (n : ℕ) (bytes : List ℕ) (document : document_of.Document) → IsForms words n
    → o.left ≡ Some bytes → length bytes ≤ MOST_BYTES → IsFreeDocument bytes document → All (λ ask. IsAskWithin n ask.kind) document.asks
    → (Rose o.read_faults o.read_faults_now → ⊥) → (Rose o.write_faults o.write_faults_now → ⊥) → (status ≡ Done) ⊎ (status ≡ NoMemory)

-- what is proved of a run
pub record IsFormsRun (status : Status) (words : List (List ℕ)) (o : Outside) : Type 0 where
  pub ends : Ends (IsCommand words) (FormsSays words o) status o
  pub complete : FormsRunIsComplete status words o
