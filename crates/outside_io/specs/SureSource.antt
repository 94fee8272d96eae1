-- A source in memory that never fails.
use Rattle.std.specs.Prelude.{ℕ, List, ◌≡◌, ◌++◌, length, take, drop, min, Result, Ok}

-- the bytes to come, and the most that a call gives
pub record SureSourceState : Type 0 where
  pub left : List ℕ
  pub chunk : ℕ

-- how many bytes a call gives, into a buffer of that length
abbrev pub count_sure : SureSourceState → ℕ → ℕ
count_sure state room = min state.chunk (min room (length state.left))

-- A read puts the next bytes at the front of the buffer, and takes them from those to come.
pub record SurelyReads {E : Type 0} (old : SureSourceState) (buffer : List ℕ) (result : Result ℕ E) (new : SureSourceState) (filled : List ℕ) : Type 0 where
  pub count : result ≡ Ok (count_sure old (length buffer))
  pub left : new ≡ record old { left = drop (count_sure old (length buffer)) old.left }
  pub front : filled ≡ take (count_sure old (length buffer)) old.left ++ drop (count_sure old (length buffer)) buffer
