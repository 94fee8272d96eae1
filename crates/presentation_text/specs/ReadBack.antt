-- What is printed of a document is read back.
use Rattle.std.specs.Prelude.{ℕ, ◌≡◌, ◌≢◌, ◌≤◌, ◌⊎◌, List, length, map, Some, None, Ok}
use Rattle.std.specs.List.{All}
use Rattle.prime_field.specs.Primes.{IsFieldPrime}
use Rattle.labelled_trees.specs.Trees.{Tree}
use Rattle.symmetric_trees.specs.Generators.{IsTable}
use Rattle.symmetric_trees.specs.declared.generators.Generator.{Generator}
use Rattle.symmetric_sums.specs.Terms.{terms_of}
use Rattle.presentation_text.specs.declared.document.AskKind.{AskKind}
use Rattle.presentation_text.specs.declared.document.AskKind.TheVariants.{Query, Same}
use Rattle.presentation_text.specs.declared.document.Document.{Document}
use Rattle.presentation_text.specs.declared.document.OrderName.TheVariants.{WeightPath}
use Rattle.presentation_text.specs.DocumentReadings.{read_text}
use Rattle.presentation_text.specs.DocumentText.{document_text}
use Rattle.presentation_text.specs.DraftReadings.{asked_kind}
use Rattle.presentation_text.specs.PrintedElements.{IsWrittenOver}
use Rattle.presentation_text.specs.LineReadings.{Contents}
use Rattle.presentation_text.specs.Presentations.{IsReadAs, weight_or_none}
use Rattle.presentation_text.specs.TreeText.{HasWords}

-- ---- what may stand in a document

-- a sum that a relation may say
abbrev pub IsWrittenRelation : ℕ → List Generator → List (ℕ × Tree ℕ) → Type 0
IsWrittenRelation p generators e = (n : ℕ) × (2 ≤ n) × IsWrittenOver p generators n e

-- what a question may say: its elements have one arity
abbrev pub IsWrittenAsk : ℕ → List Generator → AskKind → Type 0
IsWrittenAsk p generators (Query sum) = (n : ℕ) × IsWrittenOver p generators n (terms_of sum)
IsWrittenAsk p generators (Same left right) = (n : ℕ) × IsWrittenOver p generators n (terms_of left) × IsWrittenOver p generators n (terms_of right)

-- what only version 2 may have isn't there: generators with several parts, weights, and their order
pub record IsOfVersionOne (document : Document) : Type 0 where
  pub one_part : All (λ generator. length generator.parts ≡ 1) document.gens
  pub no_weights : All (λ weight. weight ≡ 0) document.weights
  pub no_weight_order : document.order ≢ WeightPath

-- A document that may be written and read back: it is as one that is read.
pub record IsWritable (document : Document) : Type 0 where
  pub version : (document.version ≡ 2) ⊎ ((document.version ≡ 1) × IsOfVersionOne document)
  pub field : IsFieldPrime document.field
  pub table : IsTable document.gens
  pub words : HasWords document.gens
  pub short : All (λ generator. length generator.name ≤ 16) document.gens
  pub weights : length document.weights ≡ length document.gens
  pub small : All (λ weight. weight ≤ 1000000) document.weights
  pub few : length document.rels ≤ 1000
  pub relations : All (λ sum. IsWrittenRelation document.field document.gens (terms_of sum)) document.rels
  pub asks : All (λ ask. IsWrittenAsk document.field document.gens ask.kind) document.asks

-- Lines say what a document does, but for the numbers of lines.
pub record HaveSameContents (contents : Contents) (document : Document) : Type 0 where
  pub version_is : contents.version ≡ document.version
  pub field_is : contents.field ≡ Some document.field
  pub order_is : contents.order ≡ Some document.order
  pub generators_are : contents.generators ≡ document.gens
  pub weights_are : map weight_or_none contents.weights ≡ document.weights
  pub relations_are : contents.relations ≡ map terms_of document.rels
  pub asks_are : map (λ ask. ask.1) contents.asks ≡ map (λ ask. asked_kind ask.kind) document.asks

-- The text of the document is accepted, without a tail, and says the same.
pub record IsReadBack (document : Document) : Type 0 where
  pub contents : Contents
  pub reading_is : read_text (document_text document) ≡ Ok (record { contents = contents; tail = None })
  pub again : HaveSameContents contents document

-- A document that was read may be written.
abbrev pub ReadDocumentsAreWritable : Type 0
ReadDocumentsAreWritable = (bytes : List ℕ) (document : Document) → IsReadAs bytes document → IsWritable document

-- The text of a writable document is read back to the same, whatever its length.
abbrev pub PrintedDocumentsAreReadBack : Type 0
PrintedDocumentsAreReadBack = (document : Document) → IsWritable document → IsReadBack document
