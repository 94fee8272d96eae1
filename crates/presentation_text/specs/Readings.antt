-- Reading tokens from the front: what is read and the tokens behind it, or the token that is refused, and why.
use Rattle.std.specs.Prelude.{ℕ, ◌≡◌, ◌≤◌, ◌-◌, ◌==◌, Bool, true, false, if◌then◌else◌, List, [], ◌∷◌, length, drop, Option, Some, None, Result, Ok, Err}
use Rattle.presentation_text.specs.declared.kinds.DocKind.{DocKind}
use Rattle.presentation_text.specs.declared.kinds.DocKind.TheVariants.{NumberLong, Syntax}
use Rattle.presentation_text.specs.declared.kinds.PartFail.{PartFail}
use Rattle.presentation_text.specs.declared.kinds.PartFail.TheVariants.{At, NoMemory}
use Rattle.presentation_text.specs.declared.lexing.Token.{Token}
use Rattle.presentation_text.specs.declared.lexing.Token.TheVariants.{Word, Number, Long, Byte}

-- The token that is refused, by how many tokens are left from it on (none at the end of the line), and the kind.
abbrev pub Fault : Type 0
Fault = ℕ × DocKind

-- something that is read from the front of tokens, and the tokens behind it; or the first fault
abbrev pub Reading : Type 0 → Type 0
Reading X = Result (X × List Token) Fault

infixl 10 ◌>>=◌
-- one thing is read, and then another, unless a fault comes first
abbrev pub ◌>>=◌ : {A B : Type 0} → Result A Fault → (A → Result B Fault) → Result B Fault
(Ok x) >>= f = f x
(Err e) >>= f = Err e

-- the kind of the first row that holds
abbrev pub first_row : List (Bool × DocKind) → Option DocKind
first_row [] = None
first_row (row ∷ rows) = if row.0 then Some row.1 else first_row rows

-- refused for this kind, where so many tokens are left; else what is read on
abbrev pub refused : {X : Type 0} → ℕ → Option DocKind → Result X Fault → Result X Fault
refused left None reading = reading
refused left (Some kind) reading = Err (left, kind)

-- ---- single tokens

abbrev pub is_mark : ℕ → Token → Bool
is_mark c (Byte d) = d == c
is_mark c token = false

abbrev pub is_long : Token → Bool
is_long Long = true
is_long token = false

-- why a token is refused that can't stand where it does
abbrev pub misplaced : Token → DocKind
misplaced token = if is_long token then NumberLong else Syntax

abbrev pub misplaced_in : List Token → DocKind
misplaced_in [] = Syntax
misplaced_in (token ∷ rest) = misplaced token

-- refused at the first token, which can't stand there, or at the end of the line before it is whole
abbrev pub misfit : {X : Type 0} → List Token → Result X Fault
misfit ts = Err (length ts, misplaced_in ts)

-- this single byte
abbrev pub mark_in : ℕ → List Token → Result (List Token) Fault
mark_in c [] = misfit []
mark_in c (token ∷ rest) = if is_mark c token then Ok rest else misfit (token ∷ rest)

-- the end of the line
abbrev pub end_in : List Token → Result (Unit {0}) Fault
end_in [] = Ok tt
end_in (token ∷ rest) = misfit (token ∷ rest)

abbrev pub number_of : Token → List Token → Reading ℕ
number_of (Number n) rest = Ok (n, rest)
number_of token rest = misfit (token ∷ rest)

-- a number
abbrev pub number_in : List Token → Reading ℕ
number_in [] = misfit []
number_in (token ∷ rest) = number_of token rest

abbrev pub word_of : Token → List Token → Reading (List ℕ)
word_of (Word w) rest = Ok (w, rest)
word_of token rest = misfit (token ∷ rest)

-- a word
abbrev pub word_in : List Token → Reading (List ℕ)
word_in [] = misfit []
word_in (token ∷ rest) = word_of token rest

-- ---- what functions give

-- The function stops as reading does: it numbers the tokens from 0, and the end of the line counts as the token behind the last.
abbrev pub StopsAs : {X : Type 0} → List Token → Result X Fault → PartFail → Type 0
StopsAs tokens reading (At token kind) = (reading ≡ Err (length tokens - token, kind)) × (token ≤ length tokens)
StopsAs tokens reading NoMemory = Unit {0}

-- the place that a function gave among tokens is behind what reading leaves, or it stops as reading does
abbrev pub GivesBehind : List Token → Result (List Token) Fault → Result ℕ PartFail → Type 0
GivesBehind tokens reading (Ok at) = (reading ≡ Ok (drop at tokens)) × (at ≤ length tokens)
GivesBehind tokens reading (Err fail) = StopsAs tokens reading fail
