use Rattle.std.proofs.Common.{◌≡◌, ℕ, ◌<◌, get_or, length}
use Rattle.normal_listing.proofs.tables.same_symbols.Given as goal

abbrev pub invariant-loop-s : goal.invariant-loop-s
invariant-loop-s l = (length l.symbols ≡ 32) × ((k : ℕ) → k < l.s → get_or l.symbols k 0 ≡ k)
