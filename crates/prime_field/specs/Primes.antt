-- Prime numbers, and those that a field may have.
use Rattle.std.specs.Prelude.{ℕ, ◌≡◌, ◌<◌, ◌⊎◌, [], ◌∷◌}
use Rattle.std.specs.Int.{◌∣◌}
use Rattle.modular_sums.specs.Lists.{Mem}

-- a number above 1 that only 1 and itself divide
pub record IsPrime (p : ℕ) : Type 0 where
  pub above_one : 1 < p
  pub divisors : (d : ℕ) → d ∣ p → (d ≡ 1) ⊎ (d ≡ p)

-- the primes that a field may have
abbrev pub IsFieldPrime : ℕ → Type 0
IsFieldPrime p = Mem p (3 ∷ 5 ∷ 7 ∷ 101 ∷ 32003 ∷ 65537 ∷ [])
