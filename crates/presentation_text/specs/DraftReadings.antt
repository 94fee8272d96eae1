-- What a draft says, and what functions on it give.
use Rattle.std.specs.Prelude.{ℕ, ◌≡◌, List, [], length, map, Result, Ok, Err, None}
use Rattle.std.specs.List.{All}
use Rattle.symmetric_trees.specs.Generators.{IsTable}
use Rattle.symmetric_trees.specs.declared.generators.Generator.{Generator}
use Rattle.symmetric_sums.specs.Terms.{FitsOver, terms_of}
use Rattle.presentation_text.specs.declared.document.Ask.{Ask}
use Rattle.presentation_text.specs.declared.document.AskKind.{AskKind}
use Rattle.presentation_text.specs.declared.document.AskKind.TheVariants.{Query, Same}
use Rattle.presentation_text.specs.declared.draft.Draft.{Draft}
use Rattle.presentation_text.specs.declared.kinds.PartFail.{PartFail}
use Rattle.presentation_text.specs.declared.lexing.Token.{Token}
use Rattle.presentation_text.specs.LineReadings.{Contents, Asked, query, same, prime_of}
use Rattle.presentation_text.specs.Readings.{Fault, StopsAs}

-- what is asked
abbrev pub asked_kind : AskKind → Asked
asked_kind (Query sum) = query (terms_of sum)
asked_kind (Same left right) = same (terms_of left) (terms_of right)

-- a question with the number of its line
abbrev pub asked : Ask → ℕ × Asked
asked ask = (ask.line, asked_kind ask.kind)

-- what the lines behind a draft say
abbrev pub contents_of : Draft → Contents
contents_of draft = record {
  version = draft.version;
  field = draft.field;
  order = draft.order;
  generators = draft.gens;
  weights = draft.weights;
  relations = map terms_of draft.rels;
  asks = map asked draft.asks;
  section = draft.section;
}

-- the sums of a question fit a field and a table
abbrev pub AskFits : ℕ → List Generator → AskKind → Type 0
AskFits p generators (Query sum) = FitsOver p generators sum
AskFits p generators (Same left right) = FitsOver p generators left × FitsOver p generators right

-- A draft holds together: its generators are a table, its sums fit its field and the table, it has none before it has a field,
-- and it has one place for a weight for each generator.
pub record IsSoundDraft (draft : Draft) : Type 0 where
  pub table : IsTable draft.gens
  pub no_sums : draft.field ≡ None → (draft.rels ≡ []) × (draft.asks ≡ [])
  pub relations : All (FitsOver (prime_of draft.field) draft.gens) draft.rels
  pub asks : All (λ ask. AskFits (prime_of draft.field) draft.gens ask.kind) draft.asks
  pub weights : length draft.weights ≡ length draft.gens

-- The draft that a function gave says what the line adds, or the function stops as reading the line does.
abbrev pub GivesDraft : List Token → Result Contents Fault → Result Draft PartFail → Type 0
GivesDraft tokens reading (Ok draft) = (reading ≡ Ok (contents_of draft)) × IsSoundDraft draft
GivesDraft tokens reading (Err fail) = StopsAs tokens reading fail

-- the question that a function gave is as reading gives it, and its sums fit; or the function stops as reading does
abbrev pub GivesAsk : ℕ → List Generator → List Token → Result Asked Fault → Result AskKind PartFail → Type 0
GivesAsk p generators tokens reading (Ok kind) = (reading ≡ Ok (asked_kind kind)) × AskFits p generators kind
GivesAsk p generators tokens reading (Err fail) = StopsAs tokens reading fail
