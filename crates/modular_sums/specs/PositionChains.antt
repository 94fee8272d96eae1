-- Chains of reductions over positions: a sum is cancelled by the rules of a table, the greatest position first.
use Rattle.std.specs.Prelude.{ℕ, ◌*◌, ◌≤◌, List, [], ◌∷◌, ◌++◌}
use native.Mathlib.Decide.{ℕ_discrete}
use Rattle.modular_sums.specs.Residues.{IsCongruent}
use Rattle.modular_sums.specs.Sums.{coef, scale, AllTerms, Same}
use Rattle.modular_sums.specs.RuleTables.{Table, IsRuled, rule_at}

-- The position stands in the sum: its coefficient isn't 0.
abbrev pub HasPosition : ℕ → List (ℕ × ℕ) → ℕ → Type 0
HasPosition q e t = IsCongruent q (coef ℕ_discrete e t) 0 → ⊥

-- No term of the sum has a position with coefficient 0.
abbrev pub HasNoZeroPositions : ℕ → List (ℕ × ℕ) → Type 0
HasNoZeroPositions q e = AllTerms e (HasPosition q e)

-- A step from the sum e: the position is the greatest of e that has a rule, and c is its coefficient.
pub record IsPositionStep (q : ℕ) (table : Table) (e : List (ℕ × ℕ)) (c at : ℕ) : Type 0 where
  pub there : HasPosition q e at
  pub ruled : IsRuled table at
  pub greatest : (t : ℕ) → HasPosition q e t → IsRuled table t → t ≤ at
  pub coefficient : IsCongruent q c (coef ℕ_discrete e at)

-- A chain from the sum e to the sum f: steps one after the other, each of which subtracts its coefficient times the rule of its position.
abbrev pub IsPositionChain : ℕ → Table → List (ℕ × ℕ) → List (ℕ × ℕ) → List (ℕ × ℕ) → Type 0
IsPositionChain q table e [] f = Same ℕ_discrete q e f
IsPositionChain q table e (x ∷ steps) f = IsPositionStep q table e x.0 x.1 × IsPositionChain q table (e ++ scale (q * x.0) (rule_at table x.1)) steps f

-- A chain that ends in f is finished: no position of f has a rule.
abbrev pub HasNoRuledPosition : ℕ → Table → List (ℕ × ℕ) → Type 0
HasNoRuledPosition q table f = (t : ℕ) → HasPosition q f t → IsRuled table t → ⊥

-- A chain that ends in f is stopped: some position of f has a rule.
pub record HasRuledPosition (q : ℕ) (table : Table) (f : List (ℕ × ℕ)) : Type 0 where
  pub at : ℕ
  pub there : HasPosition q f at
  pub ruled : IsRuled table at
