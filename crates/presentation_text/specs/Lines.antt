-- The lines of a text, and which of them count.
use Rattle.std.specs.Prelude.{ℕ, ◌≡◌, ◌≢◌, ◌⊎◌, ◌==◌, Bool, false, not, ◌||◌, if◌then◌else◌, List, [], ◌∷◌, ◌++◌}
use Rattle.std.specs.List.{AllByRecursion}

-- space, tab and carriage return
abbrev pub is_blank : ℕ → Bool
is_blank c = c == 32 || c == 9 || c == 13

-- no byte is a line feed
abbrev pub HasNoFeed : List ℕ → Type 0
HasNoFeed bytes = AllByRecursion (λ c. c ≢ 10) bytes

-- The lines of a text: no bytes have none; a line ends with a line feed, which the last line may lack if it isn't empty.
pub data AreLines : List ℕ → List (List ℕ) → Type 0 where
  no_lines : AreLines [] []
  last_line : (c : ℕ) (cs : List ℕ) → HasNoFeed (c ∷ cs) → AreLines (c ∷ cs) ((c ∷ cs) ∷ [])
  ended_line : (line rest : List ℕ) (others : List (List ℕ)) → HasNoFeed line → AreLines rest others → AreLines (line ++ 10 ∷ rest) (line ∷ others)

-- a byte in front of the first line
abbrev pub in_front : ℕ → List (List ℕ) → List (List ℕ)
in_front c [] = (c ∷ []) ∷ []
in_front c (line ∷ others) = (c ∷ line) ∷ others

-- the lines of a text, byte by byte
abbrev pub lines : List ℕ → List (List ℕ)
lines [] = []
lines (c ∷ cs) = if c == 10 then [] ∷ lines cs else in_front c (lines cs)

-- The first line of a text and the text behind it: a line feed ends the line, or the text does.
pub record IsFirstLine (text line rest : List ℕ) : Type 0 where
  pub unbroken : HasNoFeed line
  pub parts : (text ≡ line ++ 10 ∷ rest) ⊎ ((text ≡ line) × (rest ≡ []))

-- A line of blanks alone, and a line whose first byte that isn't a blank is '#', don't count; all others do.
abbrev pub counts : List ℕ → Bool
counts [] = false
counts (c ∷ cs) = if is_blank c then counts cs else not (c == 35)

-- The text ends with these bytes.
pub record EndsWith (text end : List ℕ) : Type 0 where
  pub before : List ℕ
  pub text_is : text ≡ before ++ end
