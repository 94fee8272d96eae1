-- Runs of a program: the source and the sink before and after it, and how it ends.
use Rattle.std.specs.Prelude.{ℕ, ◌≡◌, ◌<◌, ◌≤◌, ◌+◌, ◌⊎◌, List, [], ◌∷◌, ◌++◌, length, take, codes, Option}
use Rattle.std.specs.Fmt.{decimal}
use Rattle.std.specs.Io.KnownBytes.{Consumes, IsAtEnd}
use Rattle.outside_io.specs.Causes.{Rose}
use Rattle.outside_io.specs.Taken.{Takes}
use Rattle.presentation_text.specs.declared.kinds.DocKind.{DocKind}
use Rattle.presentation_text.specs.declared.presentations.TheConstants.{MOST_BYTES}
use Rattle.presentation_text.specs.declared.kinds.DocKind.TheVariants.{Header, Directive, Missing, FieldUnknown, OrderUnknown, NameBad, NameTaken, ArityOut, PartsOut, TooManyGens, Syntax, NameUnknown, InputCount, Labels, MixedArity, TooDeep, TooWide, NumberLong, TooManyRelations, Block, WeightTaken, WeightOut, NotBuilt}
use Rattle.operad_answers.specs.Parts.{line}
use Rattle.operad_run.specs.declared.status.Status.{Status}
use Rattle.operad_run.specs.declared.status.Status.TheVariants.{Done, Refused, Usage, Document, Limit, Budget, ReadFault, WriteFault, NoMemory}

-- the source and the sink before and after a run
pub record Outside : Type 0 where
  pub left : Option (List ℕ)
  pub left_now : Option (List ℕ)
  pub read_faults : ℕ
  pub read_faults_now : ℕ
  pub taken : Option (List ℕ)
  pub taken_now : Option (List ℕ)
  pub write_faults : ℕ
  pub write_faults_now : ℕ

-- ---- what came from the source

abbrev pub IsUnread : Outside → Type 0
IsUnread o = (o.left_now ≡ o.left) × (o.read_faults_now ≡ o.read_faults)

-- these bytes came, up to the end of the input
pub record Came (o : Outside) (bytes : List ℕ) : Type 0 where
  pub given : Consumes o.left o.left_now bytes
  pub all : IsAtEnd o.left_now
  pub few : length bytes ≤ MOST_BYTES
  pub sound : o.read_faults_now ≡ o.read_faults

-- more bytes came than a document may have
pub record CameTooMany (o : Outside) : Type 0 where
  pub bytes : List ℕ
  pub given : Consumes o.left o.left_now bytes
  pub many : length bytes ≡ MOST_BYTES + 1
  pub sound : o.read_faults_now ≡ o.read_faults

-- ---- what goes before an answer

-- the words are no command; nothing was read
abbrev pub IsMisused : (List (List ℕ) → Type 0) → List (List ℕ) → Outside → List ℕ → Type 0
IsMisused IsCommand words o text = (IsCommand words → ⊥) × IsUnread o × (text ≡ line (codes "fault usage"))

-- the source failed
abbrev pub IsUnreadable : (List (List ℕ) → Type 0) → List (List ℕ) → Outside → List ℕ → Type 0
IsUnreadable IsCommand words o text = IsCommand words × Rose o.read_faults o.read_faults_now × (text ≡ line (codes "fault read"))

-- more bytes came than a document may have
abbrev pub IsTooLong : (List (List ℕ) → Type 0) → List (List ℕ) → Outside → List ℕ → Type 0
IsTooLong IsCommand words o text = IsCommand words × CameTooMany o × (text ≡ line (codes "fault limit bytes"))

-- The source gave no bytes to answer: it failed, or it gave more than a document may have; and the text says so.
abbrev pub SaysUnread : Outside → Status → List ℕ → Type 0
SaysUnread o ReadFault text = Rose o.read_faults o.read_faults_now × (text ≡ line (codes "fault read"))
SaysUnread o Limit text = CameTooMany o × (text ≡ line (codes "fault limit bytes"))
SaysUnread o _ text = ⊥

-- nothing was written
abbrev pub IsUnwritten : Outside → Type 0
IsUnwritten o = (o.taken_now ≡ o.taken) × (o.write_faults_now ≡ o.write_faults)

-- the name of a kind
abbrev pub kind_name : DocKind → List ℕ
kind_name Header = codes "Header"
kind_name Directive = codes "Directive"
kind_name Missing = codes "Missing"
kind_name FieldUnknown = codes "FieldUnknown"
kind_name OrderUnknown = codes "OrderUnknown"
kind_name NameBad = codes "NameBad"
kind_name NameTaken = codes "NameTaken"
kind_name ArityOut = codes "ArityOut"
kind_name PartsOut = codes "PartsOut"
kind_name TooManyGens = codes "TooManyGens"
kind_name Syntax = codes "Syntax"
kind_name NameUnknown = codes "NameUnknown"
kind_name InputCount = codes "InputCount"
kind_name Labels = codes "Labels"
kind_name MixedArity = codes "MixedArity"
kind_name TooDeep = codes "TooDeep"
kind_name TooWide = codes "TooWide"
kind_name NumberLong = codes "NumberLong"
kind_name TooManyRelations = codes "TooManyRelations"
kind_name Block = codes "Block"
kind_name WeightTaken = codes "WeightTaken"
kind_name WeightOut = codes "WeightOut"
kind_name NotBuilt = codes "NotBuilt"

-- the text that names a line that is refused, and why
abbrev pub fault_text : ℕ → DocKind → List ℕ
fault_text number kind = line (codes "fault document " ++ (decimal number ++ 32 ∷ kind_name kind))

-- ---- how a run ends

-- the whole text was written
pub record Wrote (o : Outside) (text : List ℕ) : Type 0 where
  pub written : Takes o.taken o.taken_now text
  pub sound : o.write_faults_now ≡ o.write_faults

-- The whole text was written, and the status is as meant; or the sink failed, and has a first part of the text.
abbrev pub IsWrittenOut : Status → List ℕ → Status → Option (List ℕ) → Option (List ℕ) → ℕ → ℕ → Type 0
IsWrittenOut meant text status taken taken_now faults faults_now =
    ((status ≡ meant) × Takes taken taken_now text × (faults_now ≡ faults))
    ⊎ ((status ≡ WriteFault) × Rose faults faults_now × (n : ℕ) × (n < length text) × Takes taken taken_now (take n text))

-- `Says status text`: the words, the source and the sink lead to this status with this text.
-- The sink failed, and has a first part of such a text.
pub record WroteLess (Says : Status → List ℕ → Type 0) (o : Outside) : Type 0 where
  pub rose : Rose o.write_faults o.write_faults_now
  pub status : Status
  pub text : List ℕ
  pub says : Says status text
  pub part : ℕ
  pub less : part < length text
  pub written : Takes o.taken o.taken_now (take part text)

-- Every status has its cause. Memory may run out where the words are a command; then nothing was written.
abbrev pub Ends : Type 0 → (Status → List ℕ → Type 0) → Status → Outside → Type 0
Ends IsCommand Says WriteFault o = WroteLess Says o
Ends IsCommand Says NoMemory o = IsCommand × Wrote o []
Ends IsCommand Says status o = (text : List ℕ) × Says status text × Wrote o text

-- the number of a status, with which the program ends
abbrev pub code_of : Status → ℕ
code_of Done = 0
code_of Refused = 1
code_of Usage = 2
code_of Document = 3
code_of Limit = 4
code_of Budget = 5
code_of ReadFault = 6
code_of WriteFault = 7
code_of NoMemory = 8
