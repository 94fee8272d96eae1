-- The words of the command line.
use Rattle.std.specs.Prelude.{ℕ, ◌≡◌, ◌<◌, ◌≤◌, ◌+◌, List, [], ◌∷◌, length, codes}
use Rattle.std.specs.List.{AllByRecursion}

abbrev pub IsDigit : ℕ → Type 0
IsDigit c = (48 ≤ c) × (c ≤ 57)

-- a bound on counted steps: 1 to 19 digits
pub record IsBound (word : List ℕ) : Type 0 where
  pub digits : AllByRecursion IsDigit word
  pub some : 0 < length word
  pub short : length word ≤ 19

-- The words `forms N B`: N is one digit from 1 to 9, the greatest arity; B is a bound on counted steps.
pub record IsForms (words : List (List ℕ)) (n : ℕ) : Type 0 where
  pub bound : List ℕ
  pub words_are : words ≡ codes "forms" ∷ (((48 + n) ∷ []) ∷ (bound ∷ []))
  pub low : 1 ≤ n
  pub high : n ≤ 9
  pub bound_is : IsBound bound

-- the words of a command
abbrev pub IsCommand : List (List ℕ) → Type 0
IsCommand words = (n : ℕ) × IsForms words n
