-- A source in memory.
use Rattle.std.specs.Prelude.{ℕ, List, ◌≡◌, ◌<◌, ◌++◌, length, take, drop, min, IsTrue, not, Result, Ok, IsErr}
use Rattle.outside_io.specs.Calls.{CallLog, fails_next, after_call, after_fault}

-- the bytes to come, the most that a call gives, and the calls
pub record SourceState : Type 0 where
  pub left : List ℕ
  pub chunk : ℕ
  pub calls : CallLog

-- how many bytes a call gives, into a buffer of that length
abbrev pub count_given : SourceState → ℕ → ℕ
count_given state room = min state.chunk (min room (length state.left))

-- A read with an empty buffer does nothing. Any other is the next call: where that is to fail it
-- fails, and nothing else happens; else it puts the next bytes at the front of the buffer.
pub record Reads {E : Type 0} (old : SourceState) (buffer : List ℕ) (result : Result ℕ E) (new : SourceState) (filled : List ℕ) : Type 0 where
  pub empty : length buffer ≡ 0 → (result ≡ Ok 0) × (new ≡ old)
  pub failing : 0 < length buffer → IsTrue (fails_next old.calls)
      → IsErr result × (new ≡ record old { calls = after_fault (after_call old.calls) }) × (filled ≡ buffer)
  pub giving : 0 < length buffer → IsTrue (not (fails_next old.calls)) → let count = count_given old (length buffer) in
      (result ≡ Ok count) × (new ≡ record old { left = drop count old.left; calls = after_call old.calls })
      × (filled ≡ take count old.left ++ drop count buffer)
