-- The calls of a device in memory, by their numbers.
use Rattle.std.specs.Prelude.{ℕ, Bool, List, ◌+◌, ◌-◌, ◌^◌, ◌&&◌, ◌==◌, min, nat_lt}
use Rattle.std.specs.List.{list_any}
use Rattle.outside_io.specs.Causes.{next_count}

-- how many calls have a number, which numbers are to fail, and how many calls failed
pub record CallLog : Type 0 where
  pub made : ℕ
  pub fail_at : List ℕ
  pub faults : ℕ

-- the last number that a call can have
abbrev pub last_number : ℕ
last_number = 2 ^ 32 - 1

-- whether the next call has a number and is to fail
abbrev pub fails_next : CallLog → Bool
fails_next log = nat_lt log.made last_number && list_any (λ number. number == log.made + 1) log.fail_at

-- the log once the next call has its number, if one is left
abbrev pub after_call : CallLog → CallLog
after_call log = record log { made = min (log.made + 1) last_number }

-- the log once that call failed
abbrev pub after_fault : CallLog → CallLog
after_fault log = record log { faults = next_count log.faults }

-- the log of a new device
abbrev pub new_log : List ℕ → CallLog
new_log fail_at = record { made = 0; fail_at = fail_at; faults = 0 }
