-- What is printed of an element is read back.
use Rattle.std.specs.Prelude.{ℕ, ◌≡◌, ◌<◌, ◌≤◌, List, ◌++◌, Option, Some, Ok}
use Rattle.std.specs.List.{All}
use Rattle.labelled_trees.specs.Trees.{Tree}
use Rattle.prime_field.specs.Primes.{IsFieldPrime}
use Rattle.symmetric_trees.specs.Generators.{IsTable}
use Rattle.symmetric_trees.specs.declared.generators.Generator.{Generator}
use Rattle.presentation_text.specs.declared.lexing.Token.{Token}
use Rattle.presentation_text.specs.declared.trees.Demands.{Demands}
use Rattle.presentation_text.specs.Tokens.{tokens}
use Rattle.presentation_text.specs.TreeReadings.{demands_of}
use Rattle.presentation_text.specs.TreeText.{HasWords}
use Rattle.presentation_text.specs.Elements.{Written, IsElementTree, written_sum}
use Rattle.presentation_text.specs.ElementReadings.{element_in}
use Rattle.presentation_text.specs.SumText.{sum_text}
use Rattle.presentation_text.specs.Accepted.{NotMarked}

-- a term that an element of arity n may say: a residue modulo p other than 0, and a tree that may be read
pub record IsWrittenTerm (p : ℕ) (generators : List Generator) (n : ℕ) (term : ℕ × Tree ℕ) : Type 0 where
  pub nonzero : 0 < term.0
  pub residue : term.0 < p
  pub tree : IsElementTree generators n term.1

-- a sum that an element of arity n may say
abbrev pub IsWrittenOver : ℕ → List Generator → ℕ → List (ℕ × Tree ℕ) → Type 0
IsWrittenOver p generators n = All (IsWrittenTerm p generators n)

-- no element goes on with these tokens: they don't begin with '*', '+' or '-'
abbrev pub EndsElements : List Token → Type 0
EndsElements rest = NotMarked 42 rest × NotMarked 43 rest × NotMarked 45 rest

-- reading leaves these tokens, and what is read says the sum
pub record IsReadFrom (p : ℕ) (generators : List Generator) (demands : Demands) (ts rest : List Token) (e : List (ℕ × Tree ℕ)) : Type 0 where
  pub terms : List Written
  pub reading_is : element_in generators demands ts ≡ Ok (terms, rest)
  pub says : written_sum p terms ≡ e

-- The text of a sum, with any tokens behind it that end an element, is read back to the sum, where the names are words.
abbrev pub PrintedElementsAreRead : Type 0
PrintedElementsAreRead = (p : ℕ) (generators : List Generator) → IsFieldPrime p → IsTable generators → HasWords generators
    → (least n : ℕ) (arity : Option ℕ) → least ≤ n → ((m : ℕ) → arity ≡ Some m → n ≡ m)
    → (e : List (ℕ × Tree ℕ)) → IsWrittenOver p generators n e → (rest : List Token) → EndsElements rest
    → IsReadFrom p generators (demands_of least arity) (tokens (sum_text p generators e) ++ rest) rest e
