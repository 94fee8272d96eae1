-- What is known of a presentation that was read.
use Rattle.std.specs.Prelude.{ℕ, ◌≡◌, ◌<◌, ◌≤◌, ◌⊎◌, IsTrue, List, [], length, Option, Some, None, Ok}
use Rattle.std.specs.List.{All, AllPairs}
use Rattle.std.specs.Option.{is_some}
use Rattle.labelled_trees.specs.Trees.{Tree}
use Rattle.prime_field.specs.Primes.{IsFieldPrime}
use Rattle.symmetric_trees.specs.Generators.{IsTable}
use Rattle.symmetric_trees.specs.declared.generators.Generator.{Generator}
use Rattle.presentation_text.specs.Accepted.{AreDemanded}
use Rattle.presentation_text.specs.DocumentReadings.{Whole, read_text}
use Rattle.presentation_text.specs.ElementReadings.{arity_of_first}
use Rattle.presentation_text.specs.Elements.{Written, written_sum}
use Rattle.presentation_text.specs.LineReadings.{Asked, Contents, prime_of, query, same}
use Rattle.presentation_text.specs.Tokens.{IsWord}
use Rattle.presentation_text.specs.declared.document.OrderName.TheVariants.{WeightPath}

-- ---- generators and weights

-- The name of a generator is a word of at most 16 bytes.
pub record IsGeneratorName (name : List ℕ) : Type 0 where
  pub word : IsWord name
  pub short : length name ≤ 16

-- The generators are a table with such names, and in version 1 each has one part.
pub record AreGenerators (version : ℕ) (generators : List Generator) : Type 0 where
  pub table : IsTable generators
  pub names : All (λ generator. IsGeneratorName generator.name) generators
  pub one_part : version ≡ 1 → All (λ generator. length generator.parts ≡ 1) generators

-- Each generator has a place for its weight, which is at most 1,000,000; in version 1 none has a weight.
pub record AreWeights (version : ℕ) (generators : List Generator) (weights : List (Option ℕ)) : Type 0 where
  pub places : length weights ≡ length generators
  pub small : All (λ weight. (n : ℕ) → weight ≡ Some n → n ≤ 1000000) weights
  pub unweighed : version ≡ 1 → All (λ weight. weight ≡ None) weights

-- ---- relations and questions

-- Written terms say the sum modulo p, and their trees may be read and have one arity.
pub record IsWrittenAs (p : ℕ) (generators : List Generator) (least : ℕ) (arity : Option ℕ) (sum : List (ℕ × Tree ℕ)) : Type 0 where
  pub terms : List Written
  pub sum_is : sum ≡ written_sum p terms
  pub demanded : AreDemanded generators least arity terms

-- at most 1,000 relations, whose trees have at least two leaves
pub record AreRelations (p : ℕ) (generators : List Generator) (relations : List (List (ℕ × Tree ℕ))) : Type 0 where
  pub few : length relations ≤ 1000
  pub written_so : All (IsWrittenAs p generators 2 None) relations

-- The two sides of a question: the trees of the second have the arity that those of the first have.
pub record AreSides (p : ℕ) (generators : List Generator) (left right : List (ℕ × Tree ℕ)) : Type 0 where
  pub first : IsWrittenAs p generators 1 None left
  pub second : IsWrittenAs p generators 1 (arity_of_first first.terms) right

abbrev pub IsAsked : ℕ → List Generator → Asked → Type 0
IsAsked p generators (query sum) = IsWrittenAs p generators 1 None sum
IsAsked p generators (same left right) = AreSides p generators left right

-- the questions, with rising numbers of lines
pub record AreAsks (p : ℕ) (generators : List Generator) (asks : List (ℕ × Asked)) : Type 0 where
  pub asked_so : All (λ ask. IsAsked p generators ask.1) asks
  pub rising : AllPairs (λ one other. one.0 < other.0) asks

-- ---- the whole

-- What stands in a section stands in no earlier one.
pub record SectionsAreInOrder (contents : Contents) : Type 0 where
  pub last : contents.section ≤ 6
  pub no_field : contents.section < 2 → contents.field ≡ None
  pub no_order : contents.section < 3 → contents.order ≡ None
  pub no_generators : contents.section < 4 → contents.generators ≡ []
  pub no_relations : contents.section < 5 → contents.relations ≡ []
  pub no_asks : contents.section < 6 → contents.asks ≡ []

-- A presentation that may be read: the version is 1 or 2, and the field, the order and all that follows are as they must be.
pub record AreWellFormed (contents : Contents) : Type 0 where
  pub version_is : (contents.version ≡ 1) ⊎ (contents.version ≡ 2)
  pub field_is : (p : ℕ) → contents.field ≡ Some p → IsFieldPrime p
  pub order_is : contents.order ≡ Some WeightPath → contents.version ≡ 2
  pub generators : AreGenerators contents.version contents.generators
  pub weights : AreWeights contents.version contents.generators contents.weights
  pub relations : AreRelations (prime_of contents.field) contents.generators contents.relations
  pub asks : AreAsks (prime_of contents.field) contents.generators contents.asks
  pub sections : SectionsAreInOrder contents

-- The same for a whole presentation, in which a field and an order stand.
pub record IsWholeWellFormed (contents : Contents) : Type 0 where
  pub well : AreWellFormed contents
  pub field : IsTrue (is_some contents.field)
  pub order : IsTrue (is_some contents.order)

-- What a text that is accepted says may be read.
abbrev pub AcceptedTextsAreWellFormed : Type 0
AcceptedTextsAreWellFormed = (bytes : List ℕ) (whole : Whole) → read_text bytes ≡ Ok whole → IsWholeWellFormed whole.contents
