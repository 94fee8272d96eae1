-- What holds of lines, tokens and the tokens of trees.
use Rattle.std.specs.Prelude.{ℕ, ◌≡◌, ◌<◌, ◌^◌, ◌↔◌, ◌⊎◌, List, ◌++◌, map, Option, Ok}
use Rattle.modular_sums.specs.Lists.{Mem}
use Rattle.prime_field.specs.Primes.{IsFieldPrime}
use Rattle.labelled_trees.specs.Trees.{Tree}
use Rattle.labelled_trees.specs.Leaves.{AllLeaves}
use Rattle.symmetric_trees.specs.Generators.{IsTable}
use Rattle.symmetric_trees.specs.Trees.{Fits}
use Rattle.symmetric_trees.specs.declared.generators.Generator.{Generator}
use Rattle.symmetric_sums.specs.Terms.{terms_of}
use Rattle.presentation_text.specs.declared.document.Document.{Document}
use Rattle.presentation_text.specs.declared.kinds.DocFail.{DocFail}
use Rattle.presentation_text.specs.declared.kinds.ReadDocFail.TheVariants.{At}
use Rattle.presentation_text.specs.declared.lexing.Token.{Token}
use Rattle.presentation_text.specs.DocumentReadings.{Whole, read_text}
use Rattle.presentation_text.specs.DraftReadings.{asked}
use Rattle.presentation_text.specs.Presentations.{IsReadAs, IsTextRefused}
use Rattle.presentation_text.specs.Lines.{AreLines, lines}
use Rattle.presentation_text.specs.declared.lexing.Token.TheVariants.{Word}
use Rattle.presentation_text.specs.Tokens.{AreTokens, IsWord, tokens}
use Rattle.presentation_text.specs.TreeText.{HasWords, tree_tokens, tree_text}
use Rattle.presentation_text.specs.Elements.{Written, AreElementTokens, element_tokens, written_sum}
use Rattle.presentation_text.specs.SumText.{IsPrintable, sum_text}

-- Each text has exactly one list of lines, the one that `lines` gives.
abbrev pub LinesAreDefined : Type 0
LinesAreDefined = (bytes : List ℕ) (found : List (List ℕ)) → AreLines bytes found ↔ (found ≡ lines bytes)

-- Each line has exactly one list of tokens, the one that `tokens` gives.
abbrev pub TokensAreDefined : Type 0
TokensAreDefined = (line : List ℕ) (found : List Token) → AreTokens line found ↔ (found ≡ tokens line)

-- Over a table, tokens begin with those of at most one tree that fits, and so go on in one way.
abbrev pub TreesAreReadOnce : Type 0
TreesAreReadOnce = (generators : List Generator) → IsTable generators → (t u : Tree ℕ) (r s : List Token) → Fits generators t → Fits generators u
    → tree_tokens generators t ++ r ≡ tree_tokens generators u ++ s → (t ≡ u) × (r ≡ s)

-- The text of a tree over a table whose names are words has the tree's tokens, where the leaf numbers have at most 18 digits.
abbrev pub PrintedTreesAreReadBack : Type 0
PrintedTreesAreReadBack = (generators : List Generator) → HasWords generators → (t : Tree ℕ) → Fits generators t → AllLeaves t (λ n. n < 10 ^ 18) → tokens (tree_text generators t) ≡ tree_tokens generators t

-- The word of a token is a word.
abbrev pub WordsAreWords : Type 0
WordsAreWords = (line name : List ℕ) → Mem (Word name) (tokens line) → IsWord name

-- Tokens are those of at most one element: they have one list of terms, and so one arity.
abbrev pub ElementsAreReadOnce : Type 0
ElementsAreReadOnce = (generators : List Generator) → IsTable generators → (line : List Token) (terms others : List Written) (arity other : Option ℕ)
    → AreElementTokens generators line terms arity → AreElementTokens generators line others other → (terms ≡ others) × (arity ≡ other)

-- what reading the text of a sum gives: the tokens of an element that says the sum, with the same trees
pub record IsSumReadBack (p : ℕ) (generators : List Generator) (e : List (ℕ × Tree ℕ)) : Type 0 where
  pub terms : List Written
  pub read : tokens (sum_text p generators e) ≡ element_tokens generators terms
  pub same : written_sum p terms ≡ e
  pub trees : map (λ term. term.tree) terms ≡ map (λ x. x.1) e

-- The text of a sum over a table whose names are words is read back to the sum, and two sums with one text are equal.
pub record PrintedSumsLaw (p : ℕ) (generators : List Generator) : Type 0 where
  pub read_back : (e : List (ℕ × Tree ℕ)) → IsPrintable p generators e → IsSumReadBack p generators e
  pub apart : (e f : List (ℕ × Tree ℕ)) → IsPrintable p generators e → IsPrintable p generators f → sum_text p generators e ≡ sum_text p generators f → e ≡ f

abbrev pub PrintedSumsAreReadBack : Type 0
PrintedSumsAreReadBack = (p : ℕ) (generators : List Generator) → IsFieldPrime p → IsTable generators → HasWords generators → PrintedSumsLaw p generators

-- The documents say the same, and their tails begin at the same place of the text.
pub record SayTheSame (document other : Document) : Type 0 where
  pub version : document.version ≡ other.version
  pub field : document.field ≡ other.field
  pub order : document.order ≡ other.order
  pub generators : document.gens ≡ other.gens
  pub weights : document.weights ≡ other.weights
  pub relations : map terms_of document.rels ≡ map terms_of other.rels
  pub asks : map asked document.asks ≡ map asked other.asks
  pub tail : document.tail ≡ other.tail

-- A text is accepted, and then all documents as which it may be read say the same; or it is refused, for one line and one kind; and never both.
pub record DocumentsLaw (bytes : List ℕ) : Type 0 where
  pub either : ((whole : Whole) × (read_text bytes ≡ Ok whole)) ⊎ ((fail : DocFail) × IsTextRefused bytes (At fail))
  pub one_document : (document other : Document) → IsReadAs bytes document → IsReadAs bytes other → SayTheSame document other
  pub one_fault : (fail other : DocFail) → IsTextRefused bytes (At fail) → IsTextRefused bytes (At other) → fail ≡ other
  pub never_both : (document : Document) (fail : DocFail) → IsReadAs bytes document → IsTextRefused bytes (At fail) → ⊥

abbrev pub DocumentsAreDetermined : Type 0
DocumentsAreDetermined = (bytes : List ℕ) → DocumentsLaw bytes
