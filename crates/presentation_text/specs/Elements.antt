-- Elements as they are written: their tokens, and what these say.
use Rattle.std.specs.Prelude.{ℕ, ◌≡◌, ◌<◌, ◌≤◌, ◌-◌, ◌%◌, ◌==◌, Bool, if◌then◌else◌, List, [], ◌∷◌, ◌++◌, length, Option, Some, None}
use Rattle.std.specs.List.{All}
use Rattle.labelled_trees.specs.Trees.{Tree}
use Rattle.symmetric_trees.specs.Trees.{IsLabelled}
use Rattle.symmetric_trees.specs.declared.generators.Generator.{Generator}
use Rattle.presentation_text.specs.declared.lexing.Token.{Token}
use Rattle.presentation_text.specs.declared.lexing.Token.TheVariants.{Number, Byte}
use Rattle.presentation_text.specs.TreeText.{tree_tokens, nested}

-- ---- the grammar

-- A term as it is written: whether '-' stands before it, its coefficient if there is one, and its tree.
pub record Written : Type 0 where
  pub negative : Bool
  pub coefficient : Option ℕ
  pub tree : Tree ℕ

abbrev pub coefficient_tokens : Option ℕ → List Token
coefficient_tokens None = []
coefficient_tokens (Some c) = Number c ∷ (Byte 42 ∷ [])

-- A term is `number *`, which may be left out, and a tree.
abbrev pub term_tokens : List Generator → Written → List Token
term_tokens generators term = coefficient_tokens term.coefficient ++ tree_tokens generators term.tree

-- '-' or '+'
abbrev pub mark : Bool → Token
mark negative = Byte (if negative then 45 else 43)

-- terms with '+' or '-' before each
abbrev pub further_tokens : List Generator → List Written → List Token
further_tokens generators [] = []
further_tokens generators (term ∷ terms) = mark term.negative ∷ (term_tokens generators term ++ further_tokens generators terms)

-- An element without terms is the number 0; else '-' or nothing, a term, and further terms with '+' or '-' before each.
abbrev pub element_tokens : List Generator → List Written → List Token
element_tokens generators [] = Number 0 ∷ []
element_tokens generators (term ∷ terms) =
    (if term.negative then Byte 45 ∷ [] else []) ++ (term_tokens generators term ++ further_tokens generators terms)

-- ---- which trees may stand in it

-- A tree of an element of arity n: it carries each of 1 to n once, with at most 9 leaves, and at most 8 generators
-- one inside the other.
pub record IsElementTree (generators : List Generator) (n : ℕ) (t : Tree ℕ) : Type 0 where
  pub labelled : IsLabelled generators n t
  pub narrow : n ≤ 9
  pub shallow : nested t ≤ 8

-- the arity of all written trees, also of those with a coefficient 0; none where there are no terms
abbrev pub WrittenHaveArity : List Generator → Option ℕ → List Written → Type 0
WrittenHaveArity generators None terms = terms ≡ []
WrittenHaveArity generators (Some n) terms = (0 < length terms) × All (λ term. IsElementTree generators n term.tree) terms

-- The tokens are those of an element with these terms, whose trees have this arity.
pub record AreElementTokens (generators : List Generator) (tokens : List Token) (terms : List Written) (arity : Option ℕ) : Type 0 where
  pub spelled : tokens ≡ element_tokens generators terms
  pub arity_is : WrittenHaveArity generators arity terms

-- ---- what it says

abbrev pub number_of : Option ℕ → ℕ
number_of None = 1
number_of (Some c) = c

-- the residue of a written term modulo p: its coefficient, or 1, and the negative of it after '-'
abbrev pub residue : ℕ → Written → ℕ
residue p term = if term.negative then (p - number_of term.coefficient % p) % p else number_of term.coefficient % p

-- The sum that is written: each tree beside its residue, in the order of the terms, without those of residue 0.
abbrev pub written_sum : ℕ → List Written → List (ℕ × Tree ℕ)
written_sum p [] = []
written_sum p (term ∷ terms) = if residue p term == 0 then written_sum p terms else (residue p term, term.tree) ∷ written_sum p terms
