-- A sink in memory that never fails, and tells its bytes as long as they fit.
use Rattle.std.specs.Prelude.{ℕ, List, ◌++◌, length, nat_le, if◌then◌else◌, Option, Some, None}

-- the bytes taken, as long as all of them fitted, and how many there is room for in all
pub record SureSinkState : Type 0 where
  pub taken : Option (List ℕ)
  pub room : ℕ

-- the bytes, if there is room for them
abbrev pub fitting : ℕ → List ℕ → Option (List ℕ)
fitting room bytes = if nat_le (length bytes) room then Some bytes else None

-- the bytes taken together with those of the piece, as long as all of them fitted
abbrev pub taken_with : ℕ → Option (List ℕ) → List ℕ → Option (List ℕ)
taken_with room None piece = None
taken_with room (Some bytes) piece = fitting room (bytes ++ piece)
