-- The laws of chains over positions.
use Rattle.std.specs.Prelude.{ℕ, List, ◌++◌}
use native.Mathlib.Decide.{ℕ_discrete}
use Rattle.modular_sums.specs.Sums.{Same}
use Rattle.modular_sums.specs.RuleTables.{Table}
use Rattle.modular_sums.specs.PositionChains.{IsPositionChain}

-- A chain is one between any sums that are the same as its first and its last, and chains are joined where one ends in what the next begins with.
abbrev pub PositionChainsJoin : Type 0
PositionChainsJoin = (q : ℕ) (table : Table)
    → ((d e steps f g : List (ℕ × ℕ)) → Same ℕ_discrete q d e → Same ℕ_discrete q f g → IsPositionChain q table e steps f → IsPositionChain q table d steps g)
    × ((e first f second g : List (ℕ × ℕ)) → IsPositionChain q table e first f → IsPositionChain q table f second g → IsPositionChain q table e (first ++ second) g)
