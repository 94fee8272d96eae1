-- A sink in memory.
use Rattle.std.specs.Prelude.{ℕ, List, ◌≡◌, ◌<◌, ◌-◌, ◌++◌, ◌⊎◌, length, take, min, IsTrue, not, Result, Ok, IsErr}
use Rattle.outside_io.specs.Calls.{CallLog, fails_next, after_call, after_fault}

-- the bytes taken, how many there is room for in all, the most that a call takes, and the calls
pub record SinkState : Type 0 where
  pub taken : List ℕ
  pub room : ℕ
  pub chunk : ℕ
  pub calls : CallLog

-- how many more bytes there is room for
abbrev pub room_left : SinkState → ℕ
room_left state = state.room - length state.taken

-- how many bytes of a piece of that length a call takes
abbrev pub count_taken : SinkState → ℕ → ℕ
count_taken state size = min state.chunk (min size (room_left state))

-- A write of an empty piece does nothing. Any other is the next call: where that is to fail, or no
-- room is left, it fails, and nothing else happens; else it takes the first bytes of the piece.
pub record Writes {E : Type 0} (old : SinkState) (piece : List ℕ) (result : Result ℕ E) (new : SinkState) : Type 0 where
  pub empty : length piece ≡ 0 → (result ≡ Ok 0) × (new ≡ old)
  pub failing : 0 < length piece → IsTrue (fails_next old.calls) ⊎ (room_left old ≡ 0)
      → IsErr result × (new ≡ record old { calls = after_fault (after_call old.calls) })
  pub taking : 0 < length piece → IsTrue (not (fails_next old.calls)) → 0 < room_left old → let count = count_taken old (length piece) in
      (result ≡ Ok count) × (new ≡ record old { taken = old.taken ++ take count piece; calls = after_call old.calls })
