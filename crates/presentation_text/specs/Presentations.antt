-- What a text is read as, and why it is refused.
use Rattle.std.specs.Prelude.{ℕ, ◌≡◌, ◌≤◌, ◌+◌, List, ◌++◌, length, map, drop, Option, Some, None, Ok, Err}
use Rattle.symmetric_sums.specs.Terms.{terms_of}
use Rattle.presentation_text.specs.declared.document.Document.{Document}
use Rattle.presentation_text.specs.declared.document.Tail.{Tail}
use Rattle.presentation_text.specs.declared.kinds.ReadDocFail.{ReadDocFail}
use Rattle.presentation_text.specs.declared.kinds.ReadDocFail.TheVariants.{At, NoMemory}
use Rattle.presentation_text.specs.DocumentReadings.{Whole, read_text}
use Rattle.presentation_text.specs.DraftReadings.{asked}
use Rattle.presentation_text.specs.LineReadings.{Contents}
use Rattle.presentation_text.specs.Lines.{lines}

-- a weight, which is 0 where none stands
abbrev pub weight_or_none : Option ℕ → ℕ
weight_or_none None = 0
weight_or_none (Some weight) = weight

-- The document says what lines say.
pub record HasContents (contents : Contents) (document : Document) : Type 0 where
  pub version_is : document.version ≡ contents.version
  pub field_is : contents.field ≡ Some document.field
  pub order_is : contents.order ≡ Some document.order
  pub generators_are : document.gens ≡ contents.generators
  pub weights_are : document.weights ≡ map weight_or_none contents.weights
  pub relations_are : map terms_of document.rels ≡ contents.relations
  pub asks_are : map asked document.asks ≡ contents.asks

-- The tail begins with the line of this number, and its first byte stands at its place: the lines from there on are those behind the ones before.
pub record IsTailAt (bytes : List ℕ) (number : ℕ) (tail : Tail) : Type 0 where
  pub line_is : tail.line ≡ number
  pub within : tail.from ≤ length bytes
  pub before : List (List ℕ)
  pub lines_are : lines bytes ≡ before ++ lines (drop tail.from bytes)
  pub number_is : number ≡ length before + 1

abbrev pub IsTailOfText : List ℕ → Option ℕ → Option Tail → Type 0
IsTailOfText bytes None tail = tail ≡ None
IsTailOfText bytes (Some number) None = ⊥
IsTailOfText bytes (Some number) (Some tail) = IsTailAt bytes number tail

-- The text is accepted, and the document is what it says.
pub record IsReadAs (bytes : List ℕ) (document : Document) : Type 0 where
  pub whole : Whole
  pub reading_is : read_text bytes ≡ Ok whole
  pub says : HasContents whole.contents document
  pub tail_is : IsTailOfText bytes whole.tail document.tail

-- why a text is refused: its first fault, or memory ran out
abbrev pub IsTextRefused : List ℕ → ReadDocFail → Type 0
IsTextRefused bytes (At fail) = read_text bytes ≡ Err (fail.line, fail.kind)
IsTextRefused bytes NoMemory = Unit {0}
