-- What the functions that read the lines of a document give.
use Rattle.std.specs.Prelude.{ℕ, suc, zero, ◌≡◌, ◌≤◌, ◌+◌, ◌-◌, IsTrue, List, ◌++◌, length, Option, Some, None, Result, Ok, Err}
use Rattle.std.specs.Option.{is_some}
use Rattle.presentation_text.specs.declared.document.Tail.{Tail}
use Rattle.presentation_text.specs.declared.draft.Draft.{Draft}
use Rattle.presentation_text.specs.declared.kinds.ReadDocFail.{ReadDocFail}
use Rattle.presentation_text.specs.declared.kinds.ReadDocFail.TheVariants.{At, NoMemory}
use Rattle.presentation_text.specs.declared.presentations.Behind as program
use Rattle.presentation_text.specs.declared.presentations.Behind.TheVariants.{GoesOn, TailBegins}
use Rattle.presentation_text.specs.declared.presentations.ReadPresentation.{ReadPresentation}
use Rattle.presentation_text.specs.DocumentReadings.{LineFault, Behind, Whole, goes_on, tail_begins}
use Rattle.presentation_text.specs.DraftReadings.{IsSoundDraft, contents_of}
use Rattle.presentation_text.specs.Lines.{EndsWith, lines}

-- The function stops at the line, and for the reason, for which reading stops.
abbrev pub StopsAtLine : {X : Type 0} → Result X LineFault → ReadDocFail → Type 0
StopsAtLine reading (At fail) = reading ≡ Err (fail.line, fail.kind)
StopsAtLine reading NoMemory = Unit {0}

-- a field and an order stand
pub record HasBoth (draft : Draft) : Type 0 where
  pub field : IsTrue (is_some draft.field)
  pub order : IsTrue (is_some draft.order)

-- behind a line the draft says what the lines say; a tail begins only where a field and an order stand, and adds nothing
abbrev pub IsBehind : Draft → Result Behind LineFault → program.Behind → Type 0
IsBehind before reading (GoesOn draft) = (reading ≡ Ok (goes_on (contents_of draft))) × IsSoundDraft draft
IsBehind before reading (TailBegins draft) = (reading ≡ Ok tail_begins) × (contents_of draft ≡ contents_of before) × IsSoundDraft draft × HasBoth draft

-- The lines of a text from this number on, where `first` is that of its first line, are those of the rest.
pub record IsRestFrom (text : List ℕ) (first number : ℕ) (rest : List ℕ) : Type 0 where
  pub before : List (List ℕ)
  pub lines_are : lines text ≡ before ++ lines rest
  pub number_is : number ≡ first + length before
  pub end : EndsWith text rest
  pub few : number + length rest ≤ first + length text

-- the number of the tail's first line, where so many bytes are left from it on
abbrev pub tail_number : ℕ → ℕ → Option ℕ
tail_number zero number = None
tail_number (suc left) number = Some number

-- the tail, where so many bytes of a text are left from it on
abbrev pub tail_of : ℕ → ℕ → ℕ → Option Tail
tail_of bytes zero number = None
tail_of bytes (suc left) number = Some (record { line = number; from = bytes - suc left })

-- A presentation that was read: its draft says what reading the lines gives, and the tail begins with the rest of the text.
pub record IsPresentationRead (text : List ℕ) (first : ℕ) (reading : Result Whole LineFault) (read : ReadPresentation) : Type 0 where
  pub rest : List ℕ
  pub left_is : read.left ≡ length rest
  pub stands : IsRestFrom text first read.number rest
  pub reading_is : reading ≡ Ok (record { contents = contents_of read.draft; tail = tail_number read.left read.number })
  pub sound : IsSoundDraft read.draft
  pub both : HasBoth read.draft
