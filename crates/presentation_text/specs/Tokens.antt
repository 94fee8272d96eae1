-- The tokens of a line.
use Rattle.std.specs.Prelude.{ℕ, zero, suc, ◌≡◌, ◌+◌, ◌-◌, ◌*◌, Bool, false, IsTrue, ◌&&◌, ◌||◌, if◌then◌else◌, ◌==◌, nat_le, List, [], ◌∷◌, ◌++◌, length, take_while}
use Rattle.std.specs.List.{list_all}
use Rattle.presentation_text.specs.Lines.{is_blank}
use Rattle.presentation_text.specs.declared.lexing.Token.{Token}
use Rattle.presentation_text.specs.declared.lexing.Token.TheVariants.{Word, Number, Long, Byte, Bad}

-- ---- bytes

-- a to z and A to Z
abbrev pub is_letter : ℕ → Bool
is_letter c = (nat_le 97 c && nat_le c 122) || (nat_le 65 c && nat_le c 90)

-- 0 to 9
abbrev pub is_digit : ℕ → Bool
is_digit c = nat_le 48 c && nat_le c 57

-- what goes on with a word: a letter, a digit or '_'
abbrev pub is_word_byte : ℕ → Bool
is_word_byte c = is_letter c || is_digit c || c == 95

-- a word: a letter, and behind it letters, digits and '_'
abbrev pub IsWord : List ℕ → Type 0
IsWord [] = ⊥
IsWord (c ∷ cs) = IsTrue (is_letter c) × IsTrue (list_all is_word_byte cs)

-- + - * ( ) , ; =
abbrev pub is_single : ℕ → Bool
is_single c = c == 43 || c == 45 || c == 42 || c == 40 || c == 41 || c == 44 || c == 59 || c == 61

-- ---- numbers

-- the number that digits spell behind the ones that spell n
abbrev pub value_behind : ℕ → List ℕ → ℕ
value_behind n [] = n
value_behind n (d ∷ ds) = value_behind (n * 10 + (d - 48)) ds

-- the token of a number: its value if it has at most 18 digits
abbrev pub numeral : List ℕ → Token
numeral digits = if nat_le (length digits) 18 then Number (value_behind 0 digits) else Long

-- ---- tokens

-- the bytes don't begin with one that passes
abbrev pub StartsOtherwise : (ℕ → Bool) → List ℕ → Type 0
StartsOtherwise p [] = Unit {0}
StartsOtherwise p (c ∷ cs) = p c ≡ false

-- a byte that begins no token
pub record IsStray (c : ℕ) : Type 0 where
  pub blank : is_blank c ≡ false
  pub letter : is_letter c ≡ false
  pub digit : is_digit c ≡ false
  pub single : is_single c ≡ false

-- The tokens of a line: blanks are passed over, words and numbers are as long as possible, and a byte that begins no token is `Bad`.
pub data AreTokens : List ℕ → List Token → Type 0 where
  no_bytes : AreTokens [] []
  blank : (c : ℕ) (rest : List ℕ) (ts : List Token) → IsTrue (is_blank c) → AreTokens rest ts → AreTokens (c ∷ rest) ts
  word : (c : ℕ) (cs rest : List ℕ) (ts : List Token) → IsTrue (is_letter c) → IsTrue (list_all is_word_byte cs) → StartsOtherwise is_word_byte rest
      → AreTokens rest ts → AreTokens (c ∷ (cs ++ rest)) (Word (c ∷ cs) ∷ ts)
  number : (c : ℕ) (cs rest : List ℕ) (ts : List Token) → IsTrue (is_digit c) → IsTrue (list_all is_digit cs) → StartsOtherwise is_digit rest
      → AreTokens rest ts → AreTokens (c ∷ (cs ++ rest)) (numeral (c ∷ cs) ∷ ts)
  single : (c : ℕ) (rest : List ℕ) (ts : List Token) → IsTrue (is_single c) → AreTokens rest ts → AreTokens (c ∷ rest) (Byte c ∷ ts)
  stray : (c : ℕ) (rest : List ℕ) (ts : List Token) → IsStray c → AreTokens rest ts → AreTokens (c ∷ rest) (Bad ∷ ts)

-- the tokens behind the first k bytes, which belong to the token before
abbrev pub tokens_behind : ℕ → List ℕ → List Token
tokens_behind k [] = []
tokens_behind (suc k) (c ∷ cs) = tokens_behind k cs
tokens_behind zero (c ∷ cs) =
    if is_blank c then tokens_behind 0 cs
    else (if is_letter c then Word (c ∷ take_while is_word_byte cs) ∷ tokens_behind (length (take_while is_word_byte cs)) cs
    else (if is_digit c then numeral (c ∷ take_while is_digit cs) ∷ tokens_behind (length (take_while is_digit cs)) cs
    else (if is_single c then Byte c ∷ tokens_behind 0 cs
    else Bad ∷ tokens_behind 0 cs)))

-- the tokens of a line, byte by byte
abbrev pub tokens : List ℕ → List Token
tokens = tokens_behind 0
