-- Finitely many labels.
use Rattle.std.specs.Prelude.{ℕ, ◌≡◌, ◌<◌, ◌≤◌}

-- There are so many labels, from 0 on, each with two or more inputs; the other numbers are no labels.
pub record AreLabels (labels : ℕ) (arity : ℕ → ℕ) : Type 0 where
  pub wide : (l : ℕ) → l < labels → 2 ≤ arity l
  pub none : (l : ℕ) → labels ≤ l → arity l ≡ 0
