-- Numbers modulo a prime p, as the crate of formal sums has them modulo suc (p - 1).
use Rattle.std.specs.Prelude.{ℕ, ◌+◌, ◌-◌, ℤ, pos, negsuc}
use Rattle.std.proofs.Common.{suc}
use Rattle.modular_sums.specs.Residues.{IsCongruent}

-- a and b are alike modulo p
abbrev pub Congruent : ℕ → ℕ → ℕ → Type 0
Congruent p a b = IsCongruent (p - 1) a b

-- the integer z and the number a are alike modulo p: where z is -n, the sum of a and n is alike 0
abbrev pub CongruentSigned : ℕ → ℤ → ℕ → Type 0
CongruentSigned p (pos n) a = Congruent p n a
CongruentSigned p (negsuc n) a = Congruent p (a + suc n) 0
