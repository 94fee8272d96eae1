-- What a table of rules shows.
use Rattle.std.specs.Prelude.{ℕ, List, [], ◌∷◌, None}
use Rattle.std.proofs.Common.{zero, suc}
use Rattle.modular_sums.specs.RuleTables.{Table}

-- q, where suc q is the prime, the coefficients that rules may share, and the tail of each position's rule
pub record Rules : Type 0 where
  pub q : ℕ
  pub coefs : List ℕ
  pub rules : Table

-- so many positions without a rule
abbrev pub unruled : ℕ → Table
unruled zero = []
unruled (suc n) = None ∷ unruled n
