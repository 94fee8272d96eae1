-- A count of faults, and the answers that it stands behind.
use Rattle.std.specs.Prelude.{ℕ, ◌≡◌, ◌≤◌, ◌+◌, ◌-◌, ◌^◌, min, Result}
use Rattle.std.specs.Result.{OnErr, OnOk}

-- the count after one more fault, which stays at its last value
abbrev pub next_count : ℕ → ℕ
next_count before = min (before + 1) (2 ^ 64 - 1)

-- the count is greater than before, or stands at its last value
abbrev pub Rose : ℕ → ℕ → Type 0
Rose before now = next_count before ≤ now

-- the count doesn't fall, rises at a refusal, and stands at Ok
pub record HasCause {T E : Type 0} (before now : ℕ) (result : Result T E) : Type 0 where
  pub later : before ≤ now
  pub failed : OnErr result (Rose before now)
  pub kept : OnOk result (now ≡ before)

-- the count stands at Ok, and is one greater at a refusal, unless it is at its last value
abbrev pub CountsOne : {T E : Type 0} → ℕ → ℕ → Result T E → Type 0
CountsOne before now result = OnOk result (now ≡ before) × OnErr result (now ≡ next_count before)
