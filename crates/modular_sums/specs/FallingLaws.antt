-- The laws of falling sums.
use Rattle.std.specs.Prelude.{ℕ, ◌≡◌, ◌-◌, ◌<◌, List}
use Rattle.std.specs.declared.cmp.Ordering.{Ordering}
use Rattle.modular_sums.specs.Sums.{Same}
use Rattle.modular_sums.specs.Falling.{IsFalling, IsStrict}

-- Two falling sums with the same coefficients are one list.
abbrev pub FallingSums : Type 0 → Type 0
FallingSums M = (compare : M → M → Ordering) (dec : Discrete M) (p : ℕ) (k l : List (ℕ × M)) → 0 < p
    → IsStrict compare → IsFalling compare p k → IsFalling compare p l → Same dec (p - 1) k l → k ≡ l
