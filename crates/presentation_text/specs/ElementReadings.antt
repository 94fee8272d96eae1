-- Reading an element: what may stand at each token, and what is refused.
use Rattle.std.specs.Prelude.{ℕ, zero, suc, ◌≡◌, ◌≤◌, Bool, true, false, not, ◌&&◌, ◌==◌, if◌then◌else◌, List, [], ◌∷◌, ◌++◌, length, drop, Option, Some, None, Result, Ok, Err}
use Rattle.std.specs.List.{All}
use Rattle.labelled_trees.specs.Leaves.{leaf_count}
use Rattle.labelled_trees.specs.Meaning.{tree_of}
use Rattle.symmetric_trees.specs.Trees.{IsLabelled}
use Rattle.symmetric_trees.specs.declared.generators.Generator.{Generator}
use Rattle.symmetric_sums.specs.Terms.{HaveResidues, terms_of}
use Rattle.symmetric_sums.specs.declared.term.Term.{Term}
use Rattle.presentation_text.specs.declared.kinds.PartFail.{PartFail}
use Rattle.presentation_text.specs.declared.lexing.Token.{Token}
use Rattle.presentation_text.specs.declared.lexing.Token.TheVariants.{Number, Byte}
use Rattle.presentation_text.specs.declared.terms.ElementAt.{ElementAt}
use Rattle.presentation_text.specs.declared.terms.TermRead.{TermRead}
use Rattle.presentation_text.specs.declared.trees.Demands.{Demands}
use Rattle.presentation_text.specs.Elements.{Written, written_sum}
use Rattle.presentation_text.specs.Readings.{Reading, ◌>>=◌, StopsAs}
use Rattle.presentation_text.specs.TreeReadings.{begins_with, whole_tree_in}

-- ---- the front of tokens

-- the tokens behind the first one
abbrev pub behind_one : List Token → List Token
behind_one [] = []
behind_one (token ∷ rest) = rest

-- a number of value 0
abbrev pub is_zero : Token → Bool
is_zero (Number n) = n == 0
is_zero token = false

-- the number 0, which isn't followed by '*'
abbrev pub is_nothing : List Token → Bool
is_nothing [] = false
is_nothing (token ∷ rest) = is_zero token && not (begins_with 42 rest)

-- ---- a term

-- a number that begins the tokens, where '*' comes next
abbrev pub coefficient_of : Token → List Token → Option ℕ
coefficient_of (Number n) rest = if begins_with 42 rest then Some n else None
coefficient_of token rest = None

-- the coefficient: a number that is followed by '*'
abbrev pub coefficient : List Token → Option ℕ
coefficient [] = None
coefficient (token ∷ rest) = coefficient_of token rest

-- the tokens behind a coefficient and its '*'
abbrev pub behind_coefficient : Option ℕ → List Token → List Token
behind_coefficient None ts = ts
behind_coefficient (Some n) ts = behind_one (behind_one ts)

-- a term without its sign, which is known: a coefficient or nothing, and a tree
unfoldable pub term_in : List Generator → Demands → Bool → List Token → Reading Written
term_in generators demands negative ts = do
  found ← whole_tree_in generators demands (behind_coefficient (coefficient ts) ts)
  Ok (record { negative = negative; coefficient = coefficient ts; tree = found.0 }, found.1)

-- ---- an element

-- whether a sign is '-'; nothing for any other token
abbrev pub sign_of : Token → Option Bool
sign_of (Byte c) = if c == 43 then Some false else (if c == 45 then Some true else None)
sign_of token = None

-- the sign before a further term: whether it is '-'
abbrev pub sign : List Token → Option Bool
sign [] = None
sign (token ∷ rest) = sign_of token

-- one answer where no sign stands, and one for each sign
abbrev pub if_signed : {X : Type 0} → Option Bool → X → (Bool → X) → X
if_signed None none signed = none
if_signed (Some negative) none signed = signed negative

-- any number of '+ TERM' or '- TERM', but no more than are given
unfoldable pub further_in : ℕ → List Generator → Demands → List Token → Reading (List Written)
further_in zero generators demands ts = Ok ([], ts)
further_in (suc most) generators demands ts = if_signed (sign ts) (Ok ([], ts)) (λ negative. do
  first ← term_in generators demands negative (behind_one ts)
  others ← further_in most generators demands first.1
  Ok (first.0 ∷ others.0, others.1))

-- the same demands, with the arity known
abbrev pub of_arity : Demands → ℕ → Demands
of_arity demands n = record { loose = demands.loose; least = demands.least; arity = Some n }

-- An element: the number 0 alone, or '-' or nothing, a term, and further terms, of which there are no more than tokens.
unfoldable pub element_in : List Generator → Demands → List Token → Reading (List Written)
element_in generators demands ts =
    if is_nothing ts then Ok ([], behind_one ts)
    else (do
      first ← term_in generators demands (begins_with 45 ts) (if begins_with 45 ts then behind_one ts else ts)
      others ← further_in (length first.1) generators (of_arity demands (leaf_count (first.0).tree)) first.1
      Ok (first.0 ∷ others.0, others.1))

-- the arity of the first tree that is written, if one is
abbrev pub arity_of_first : List Written → Option ℕ
arity_of_first [] = None
arity_of_first (term ∷ terms) = Some (leaf_count term.tree)

-- ---- what functions give

-- a term that was read, as a written one
abbrev pub written : TermRead → Written
written term = record { negative = term.negative; coefficient = term.coefficient; tree = tree_of term.tree.tree }

-- A term that was read for the tokens from a place on, and the place behind it, are as reading gives them.
pub record IsTermRead (tokens : List Token) (reading : Reading Written) (found : TermRead) : Type 0 where
  pub reading_is : reading ≡ Ok (written found, drop found.tree.end tokens)
  pub within : found.tree.end ≤ length tokens
  pub leaves_are : found.tree.leaves ≡ leaf_count (tree_of found.tree.tree)

-- a function gave the term that reading gives, or it stops as reading does
abbrev pub GivesTerm : List Token → Reading Written → Result TermRead PartFail → Type 0
GivesTerm tokens reading (Ok found) = IsTermRead tokens reading found
GivesTerm tokens reading (Err fail) = StopsAs tokens reading fail

-- the numbers are residues, and the trees have the arity n
pub record IsSumOver (p : ℕ) (generators : List Generator) (n : ℕ) (sum : List Term) : Type 0 where
  pub residues : HaveResidues p sum
  pub labelled : All (λ term. IsLabelled generators n (tree_of term.tree)) sum

-- the terms read so far fit the field and the table, and have one arity
pub record IsUnderWay (p : ℕ) (generators : List Generator) (element : ElementAt) : Type 0 where
  pub n : ℕ
  pub arity_is : element.arity ≡ Some n
  pub over : IsSumOver p generators n element.sum

-- The element goes on behind another one: it says that one's sum and then the written terms.
pub record GoesOn (p : ℕ) (tokens : List Token) (reading : Reading (List Written)) (before found : ElementAt) : Type 0 where
  pub terms : List Written
  pub reading_is : reading ≡ Ok (terms, drop found.next tokens)
  pub within : found.next ≤ length tokens
  pub sum_is : terms_of found.sum ≡ terms_of before.sum ++ written_sum p terms
  pub arity_is : found.arity ≡ before.arity

-- a function went on with the element as reading does, or it stops as reading does
abbrev pub GivesFurther : ℕ → List Token → Reading (List Written) → ElementAt → Result ElementAt PartFail → Type 0
GivesFurther p tokens reading before (Ok found) = GoesOn p tokens reading before found
GivesFurther p tokens reading before (Err fail) = StopsAs tokens reading fail

-- The element says the written terms modulo p, and has the arity of the first one.
pub record IsElementAsRead (p : ℕ) (tokens : List Token) (reading : Reading (List Written)) (found : ElementAt) : Type 0 where
  pub terms : List Written
  pub reading_is : reading ≡ Ok (terms, drop found.next tokens)
  pub within : found.next ≤ length tokens
  pub sum_is : terms_of found.sum ≡ written_sum p terms
  pub arity_is : found.arity ≡ arity_of_first terms

-- The element that a function gave for the tokens from a place on is as reading gives it, or it stops as reading does.
abbrev pub GivesElement : ℕ → List Token → Reading (List Written) → Result ElementAt PartFail → Type 0
GivesElement p tokens reading (Ok found) = IsElementAsRead p tokens reading found
GivesElement p tokens reading (Err fail) = StopsAs tokens reading fail
