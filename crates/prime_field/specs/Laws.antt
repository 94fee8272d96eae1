-- The laws of a field of residues.
use Rattle.std.specs.Prelude.{ℕ, ℤ, ◌≡◌, ◌+◌, ◌-◌, ◌*◌, ◌<◌, ◌⊎◌}
use Rattle.prime_field.specs.Primes.{IsPrime, IsFieldPrime}
use Rattle.prime_field.specs.Residues.{Congruent, CongruentSigned}

-- The modulus is prime, residues that are alike are equal, what is alike one integer is alike,
-- each residue but 0 has one inverse, a product is 0 only where a factor is, and p - 1 times a number is its negative.
pub record FieldLaw (p : ℕ) : Type 0 where
  pub prime : IsPrime p
  pub residues : (a b : ℕ) → a < p → b < p → Congruent p a b → a ≡ b
  pub integers : (z : ℤ) (a b : ℕ) → CongruentSigned p z a → CongruentSigned p z b → Congruent p a b
  pub inverse : (a : ℕ) → 0 < a → a < p → (b : ℕ) × (0 < b) × (b < p) × Congruent p (a * b) 1
  pub one_inverse : (a b c : ℕ) → Congruent p (a * b) 1 → Congruent p (a * c) 1 → Congruent p b c
  pub product : (a b : ℕ) → Congruent p (a * b) 0 → Congruent p a 0 ⊎ Congruent p b 0
  pub negative : (a b : ℕ) → Congruent p (a + b) 0 → Congruent p b ((p - 1) * a)
  pub difference : (a b c : ℕ) → Congruent p (c + b) a → Congruent p c (a + (p - 1) * b)

abbrev pub Fields : Type 0
Fields = (p : ℕ) → IsFieldPrime p → FieldLaw p
