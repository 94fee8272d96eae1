-- Multiples of sums of ids.
use Rattle.std.specs.Prelude.{ℕ, ◌≡◌, ◌*◌, ◌%◌, List, [], ◌∷◌, map}
use Rattle.prime_field.specs.Residues.{Congruent}
use Rattle.modular_sums.specs.Falling.{AreNonzeroResidues}

-- each number times c, as a residue modulo p
abbrev pub times : ℕ → ℕ → List (ℕ × ℕ) → List (ℕ × ℕ)
times p c sum = map (λ term. ((c * term.0) % p, term.1)) sum

-- the first number; 0 where there is no term
abbrev pub first_number : List (ℕ × ℕ) → ℕ
first_number [] = 0
first_number (term ∷ sum) = term.0

-- A sum was divided by its leading coefficient: each residue was multiplied by the inverse of the first, which is 1 now.
pub record IsMadeMonic (p : ℕ) (before after : List (ℕ × ℕ)) : Type 0 where
  pub inverse : ℕ
  pub is_inverse : Congruent p (first_number before * inverse) 1
  pub multiplied : after ≡ times p inverse before
  pub residues : AreNonzeroResidues p after
  pub first : first_number after ≡ 1
