-- The lines of a document: their tokens, and what each adds to what the lines before it say.
use Rattle.std.specs.Prelude.{ℕ, suc, ◌≡◌, ◌<◌, ◌≤◌, ◌⊎◌, ◌↔◌, IsTrue, false, List, [], ◌∷◌, ◌++◌, length, map, filter, codes, if◌then◌else◌, Option, Some, None, Ok}
use Rattle.std.specs.List.{sum_by}
use Rattle.std.specs.Option.{is_some}
use Rattle.symmetric_trees.specs.Generators.{IsArity}
use Rattle.symmetric_trees.specs.declared.generators.Generator.{Generator}
use Rattle.symmetric_trees.specs.declared.generators.Part.{Part}
use Rattle.symmetric_trees.specs.declared.generators.PartKind.{PartKind}
use Rattle.presentation_text.specs.declared.document.OrderName.{OrderName}
use Rattle.presentation_text.specs.declared.lexing.Token.{Token}
use Rattle.presentation_text.specs.declared.lexing.Token.TheVariants.{Word, Number, Byte}
use Rattle.presentation_text.specs.Accepted.{AreDemanded}
use Rattle.presentation_text.specs.DocumentReadings.{Whole, read_text}
use Rattle.presentation_text.specs.Elements.{Written, element_tokens, written_sum}
use Rattle.presentation_text.specs.ElementReadings.{arity_of_first}
use Rattle.presentation_text.specs.LineReadings.{Contents, contents_by_header, query, same, section_of, word_fault, is_prime, order_named, symmetry_named, part_named, is_weighed, weighed, prime_of, with_ask}
use Rattle.presentation_text.specs.Lines.{counts, lines}
use Rattle.presentation_text.specs.Tokens.{tokens}
use Rattle.presentation_text.specs.TreeReadings.{index_of}

-- ---- the lines that count

-- the tokens of the lines that count
abbrev pub counted_tokens : List (List ℕ) → List (List Token)
counted_tokens lines = map tokens (filter counts lines)

-- the same with their numbers, which go from `number` on over all lines
abbrev pub numbered_tokens : ℕ → List (List ℕ) → List (ℕ × List Token)
numbered_tokens number [] = []
numbered_tokens number (line ∷ others) =
    if counts line then (number, tokens line) ∷ numbered_tokens (suc number) others else numbered_tokens (suc number) others

-- ---- parts

-- tokens of parts, each a kind's word and a size of one or more
pub data ArePartTokens : List Token → List Part → Type 0 where
  no_parts : ArePartTokens [] []
  one_part : (word : List ℕ) (kind : PartKind) (size : ℕ) (ts : List Token) (parts : List Part) → part_named word ≡ Some kind → 0 < size
      → ArePartTokens ts parts → ArePartTokens (Word word ∷ (Number size ∷ ts)) (record { kind = kind; size = size } ∷ parts)

-- The tokens behind a generator's arity: in version 1 the word of a symmetry, for one part of all inputs.
pub record IsSymmetry (arity : ℕ) (ts : List Token) (parts : List Part) : Type 0 where
  pub word : List ℕ
  pub kind : PartKind
  pub named : symmetry_named word ≡ Some kind
  pub tokens_are : ts ≡ Word word ∷ []
  pub parts_are : parts ≡ record { kind = kind; size = arity } ∷ []

-- In version 2 they are those of parts whose sizes add up to the arity.
pub record ArePartsOf (arity : ℕ) (ts : List Token) (parts : List Part) : Type 0 where
  pub tokens_are : ArePartTokens ts parts
  pub sizes : sum_by (λ part. part.size) parts ≡ arity

-- ---- a line

-- the line of a generator whose name is new, with at most 16 bytes, among fewer than 12
pub record IsGeneratorLine (contents : Contents) (ts : List Token) (generator : Generator) : Type 0 where
  pub behind : List Token
  pub few : length contents.generators < 12
  pub short : length generator.name ≤ 16
  pub new_name : index_of generator.name contents.generators ≡ None
  pub arity : IsArity generator.arity
  pub tokens_are : ts ≡ Word generator.name ∷ (Number generator.arity ∷ behind)
  pub parts_are : ((contents.version ≡ 2) × ArePartsOf generator.arity behind generator.parts) ⊎ ((contents.version ≡ 2 → ⊥) × IsSymmetry generator.arity behind generator.parts)

-- What a line adds to what the lines before it say, by its number and its tokens, of which the first is a word.
pub data LineAdds (contents : Contents) (number : ℕ) : List Token → Contents → Type 0 where
  a_field : (p : ℕ) → IsTrue (is_prime p) → LineAdds contents number (Word (codes "field") ∷ (Number p ∷ [])) (record contents { field = Some p; section = 2 })
  an_order : (word : List ℕ) (order : OrderName) → order_named contents.version word ≡ Some order
      → LineAdds contents number (Word (codes "order") ∷ (Word word ∷ [])) (record contents { order = Some order; section = 3 })
  a_generator : (ts : List Token) (generator : Generator) → IsGeneratorLine contents ts generator
      → LineAdds contents number (Word (codes "gen") ∷ ts) (record contents { generators = contents.generators ++ generator ∷ []; weights = contents.weights ++ None ∷ []; section = 4 })
  a_weight : (name : List ℕ) (g weight : ℕ) → index_of name contents.generators ≡ Some g → is_weighed g contents.weights ≡ false → weight ≤ 1000000
      → LineAdds contents number (Word (codes "weight") ∷ (Word name ∷ (Number weight ∷ []))) (record contents { weights = weighed g weight contents.weights; section = 4 })
  a_relation : (terms : List Written) → length contents.relations < 1000 → AreDemanded contents.generators 2 None terms
      → LineAdds contents number (Word (codes "rel") ∷ element_tokens contents.generators terms)
      (record contents { relations = contents.relations ++ written_sum (prime_of contents.field) terms ∷ []; section = 5 })
  a_query : (terms : List Written) → AreDemanded contents.generators 1 None terms
      → LineAdds contents number (Word (codes "query") ∷ element_tokens contents.generators terms) (with_ask contents number (query (written_sum (prime_of contents.field) terms)))
  a_comparison : (terms others : List Written) → AreDemanded contents.generators 1 None terms → AreDemanded contents.generators 1 (arity_of_first terms) others
      → LineAdds contents number (Word (codes "same") ∷ (element_tokens contents.generators terms ++ Byte 61 ∷ element_tokens contents.generators others))
      (with_ask contents number (same (written_sum (prime_of contents.field) terms) (written_sum (prime_of contents.field) others)))

-- nothing stands against the word of the line
abbrev pub MayStand : Contents → List Token → Type 0
MayStand contents ts = (word : List ℕ) × (rest : List Token) × (ts ≡ Word word ∷ rest) × (word_fault contents word ≡ None)

-- ---- all lines

-- lines of a presentation one after the other, and what they say together
pub data Say : Contents → List (ℕ × List Token) → Contents → Type 0 where
  no_line : (contents : Contents) → Say contents [] contents
  one_line : (contents now end : Contents) (number : ℕ) (ts : List Token) (others : List (ℕ × List Token)) → MayStand contents ts → LineAdds contents number ts now
      → Say now others end → Say contents ((number, ts) ∷ others) end

-- At the end of the lines a field and an order stand, or the first line behind them begins a tail with `want` or `cert`.
abbrev pub EndsWell : Contents → List (ℕ × List Token) → Option ℕ → Type 0
EndsWell contents [] tail = IsTrue (is_some contents.field) × IsTrue (is_some contents.order) × (tail ≡ None)
EndsWell contents (first ∷ others) tail =
    (word : List ℕ) × (rest : List Token) × (first.1 ≡ Word word ∷ rest) × (word_fault contents word ≡ None) × (section_of contents.version word ≡ 7) × (tail ≡ Some first.0)

-- A document: the header `operad 1` or `operad 2`, the lines of a presentation, and a tail or none.
pub record IsDocument (lines : List (ℕ × List Token)) (whole : Whole) : Type 0 where
  pub first : ℕ
  pub version : ℕ
  pub presentation : List (ℕ × List Token)
  pub behind : List (ℕ × List Token)
  pub lines_are : lines ≡ (first, Word (codes "operad") ∷ (Number version ∷ [])) ∷ (presentation ++ behind)
  pub version_is : (version ≡ 1) ⊎ (version ≡ 2)
  pub say : Say (contents_by_header version) presentation whole.contents
  pub ends : EndsWell whole.contents behind whole.tail

-- Reading accepts exactly the texts whose lines that count are those of a document, and gives what these say.
abbrev pub DocumentsAreAccepted : Type 0
DocumentsAreAccepted = (bytes : List ℕ) (whole : Whole) → (read_text bytes ≡ Ok whole) ↔ IsDocument (numbered_tokens 1 (lines bytes)) whole
