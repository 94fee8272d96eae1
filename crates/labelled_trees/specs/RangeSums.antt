-- Sums over a range of numbers.
use Rattle.std.specs.Prelude.{ℕ, ◌+◌}
use Rattle.std.proofs.Common.{zero, suc}

-- f 0 + f 1 + .. + f (b - 1)
abbrev pub range_sum : ℕ → (ℕ → ℕ) → ℕ
range_sum zero f = 0
range_sum (suc b) f = range_sum b f + f b
