use Rattle.std.proofs.Common.{◌≡◌, ℕ, ◌<◌, get_or, length}
use Rattle.common_multiples.proofs.families.same_numbers.Given as goal

abbrev pub invariant-loop-i : goal.invariant-loop-i
invariant-loop-i l = (length l.numbers ≡ 256) × ((k : ℕ) → k < l.i → get_or l.numbers k 0 ≡ k)
