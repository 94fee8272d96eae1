-- What `forms` tells of a text: its answers, or why there are none.
use Rattle.std.specs.Prelude.{ℕ, ◌≡◌, List, [], Some, None, Err}
use Rattle.std.specs.List.{All}
use Rattle.symmetric_trees.specs.declared.generators.Generator.{Generator}
use Rattle.symmetric_sums.specs.Terms.{terms_of}
use Rattle.presentation_text.specs.DocumentReadings.{read_text}
use Rattle.presentation_text.specs.Presentations.{IsReadAs}
use Rattle.presentation_text.specs.declared.document.AskKind.{AskKind}
use Rattle.presentation_text.specs.declared.document.AskKind.TheVariants.{Query, Same}
use Rattle.presentation_text.specs.declared.document.Document as document_of
use Rattle.presentation_text.specs.declared.document.Tail.{Tail}
use Rattle.presentation_text.specs.declared.kinds.DocKind.{DocKind}
use Rattle.presentation_text.specs.declared.kinds.DocKind.TheVariants.{Block, NotBuilt}
use Rattle.operad_answers.specs.OrderedPresentations.{asks_of}
use Rattle.operad_answers.specs.Texts.{queries}
use Rattle.operad_answers.specs.Commands.{query_fault}
use Rattle.operad_answers.specs.Limits.{IsAskWithin, IsFirstOfGreaterArity}
use Rattle.operad_run.specs.Answers.{AddsAnswer, AreAnswered, CollectedAnswersDecide}
use Rattle.operad_run.specs.Runs.{fault_text}
use Rattle.operad_run.specs.declared.status.Status.{Status}
use Rattle.operad_run.specs.declared.status.Status.TheVariants.{Done, Document, Limit}

-- ---- questions

-- the line of the answer joins a text where the question is a query
abbrev pub AnswersAsk : ℕ → List Generator → AskKind → List ℕ → List ℕ → Type 0
AnswersAsk p generators (Query sum) old new = AddsAnswer p generators (terms_of sum) old new
AnswersAsk p generators (Same left right) old new = new ≡ old

-- ---- documents

-- the relations have no terms
abbrev pub DocumentHasNoRelations : document_of.Document → Type 0
DocumentHasNoRelations document = All (λ sum. sum ≡ []) document.rels

-- The text is a document without a tail and without relations that have terms.
pub record IsFreeDocument (bytes : List ℕ) (document : document_of.Document) : Type 0 where
  pub read : IsReadAs bytes document
  pub no_tail : document.tail ≡ None
  pub no_relations : DocumentHasNoRelations document

-- The text that says why a text is refused: for a line of its presentation; for the first line of its tail, which has no place here; or,
-- so far, for a relation that has terms, as line 0.
pub data IsFormsRefusal (bytes : List ℕ) : List ℕ → Type 0 where
  by_line : (number : ℕ) (kind : DocKind) → read_text bytes ≡ Err (number, kind) → IsFormsRefusal bytes (fault_text number kind)
  by_tail : (document : document_of.Document) (tail : Tail) → IsReadAs bytes document → document.tail ≡ Some tail → IsFormsRefusal bytes (fault_text tail.line Block)
  by_relation : (document : document_of.Document) → IsReadAs bytes document → document.tail ≡ None → (DocumentHasNoRelations document → ⊥) → IsFormsRefusal bytes (fault_text 0 NotBuilt)

-- A question of the text has an arity above n, and the line names the first one.
pub record HasGreaterArity (bytes : List ℕ) (n : ℕ) (text : List ℕ) : Type 0 where
  pub document : document_of.Document
  pub free : IsFreeDocument bytes document
  pub number : ℕ
  pub wide : IsFirstOfGreaterArity n document.asks number
  pub text_is : text ≡ query_fault number

-- The text is the lines of the answers to the queries, which tell these apart modulo symmetry.
pub record IsAnswered (bytes : List ℕ) (n : ℕ) (text : List ℕ) : Type 0 where
  pub document : document_of.Document
  pub free : IsFreeDocument bytes document
  pub within : All (λ ask. IsAskWithin n ask.kind) document.asks
  pub answered : AreAnswered document.field document.gens (queries (asks_of document)) text
  pub decide : CollectedAnswersDecide document.field document.gens

-- the status and the text that go with bytes and a greatest arity; other statuses go with none
abbrev pub FormsTells : List ℕ → ℕ → Status → List ℕ → Type 0
FormsTells bytes n Document text = IsFormsRefusal bytes text
FormsTells bytes n Limit text = HasGreaterArity bytes n text
FormsTells bytes n Done text = IsAnswered bytes n text
FormsTells bytes n _ text = ⊥
