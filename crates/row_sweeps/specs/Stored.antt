-- How a table keeps its rules: their tails and coefficients lie in two lists.
use Rattle.std.specs.Prelude.{ℕ, ◌≡◌, ◌<◌, ◌≤◌, ◌+◌, ◌-◌, ◌^◌, List, [], ◌∷◌, Option, Some, None, length, slice_get, slice_range, map}
use Rattle.std.proofs.Common.{zero, suc}
use Rattle.std.specs.List.{zip}
use Rattle.std.specs.Option.{option_map}
use Rattle.modular_sums.specs.RuleTables.{Table, AreTails}
use Rattle.row_sweeps.specs.Rules.{Rules}
use Rattle.row_sweeps.specs.declared.table.Stored.{Stored}
use Rattle.row_sweeps.specs.declared.table.RuleTable.TheInside.{Inside}

-- the tail that is stored there
abbrev pub tail_in : List ℕ → List ℕ → Stored → List (ℕ × ℕ)
tail_in coefs tails r = zip (slice_range coefs r.from (r.from + r.len)) (slice_range tails r.at (r.at + r.len))

-- the tail of each position's rule
abbrev pub tails_of : List ℕ → List ℕ → List (Option Stored) → Table
tails_of coefs tails rules = map (option_map (tail_in coefs tails)) rules

-- the tail lies in the two lists
pub record LiesIn (coefs tails : List ℕ) (r : Stored) : Type 0 where
  pub from : r.from + r.len ≤ length coefs
  pub at : r.at + r.len ≤ length tails

-- the modulus and the number of positions are as small as sums of 64 bits need, and each rule has its tail in the two lists
pub record IsKeptTable (p : ℕ) (rules : List (Option Stored)) (tails coefs : List ℕ) : Type 0 where
  pub positive : 0 < p
  pub small : p ≤ 65537
  pub few : length rules ≤ 2 ^ 30
  pub lies : (at : ℕ) (r : Stored) → slice_get rules at ≡ Some (Some r) → LiesIn coefs tails r
  pub valid : AreTails (p - 1) (tails_of coefs tails rules)

abbrev pub shown : Inside → Rules
shown t = record { q = t.prime - 1; coefs = t.coefs.items; rules = tails_of t.coefs.items t.tails.items t.rules.items }

abbrev pub IsStored : Inside → Type 0
IsStored t = IsKeptTable t.prime t.rules.items t.tails.items t.coefs.items

-- so many positions without a rule
abbrev pub nothing_stored : ℕ → List (Option Stored)
nothing_stored zero = []
nothing_stored (suc n) = None ∷ nothing_stored n
