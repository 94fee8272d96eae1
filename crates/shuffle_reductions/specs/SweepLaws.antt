-- The law of swept chains.
use Rattle.std.specs.Prelude.{ℕ, List, Option}
use Rattle.labelled_trees.specs.Trees.{Tree}
use Rattle.shuffle_insertions.specs.Orders.{IsTreeOrder}
use Rattle.shuffle_bases.specs.Elements.{Setting, Insertion}
use Rattle.shuffle_reductions.specs.Chains.{HasNoZeros, IsChain, IsFinished, IsStopped}
use Rattle.modular_sums.specs.RuleTables.{Table}
use Rattle.modular_sums.specs.PositionChains.{HasNoZeroPositions as HasNoZerosThere, IsPositionChain as IsChainThere, HasNoRuledPosition as IsFinishedThere, HasRuledPosition as IsStoppedThere}
use Rattle.shuffle_reductions.specs.Swept.{on_trees, IsOnPositions, IsTableOver, AreUses}

-- A chain over positions is, through the list of trees, one of insertions, with the insertions of its positions as cofactors;
-- finished, stopped and without zeros where that one is.
pub record SweptLaw (s : Setting) (n : ℕ) (trees : List (Tree ℕ)) (insertions : List (Option (Insertion s n))) (table : Table) : Type 0 where
  pub chain : (e steps f : List (ℕ × ℕ)) → IsOnPositions trees e → IsChainThere s.q table e steps f
      → (uses : List (ℕ × Insertion s n)) × AreUses insertions steps uses × IsChain s n (on_trees trees e) uses (on_trees trees f)
  pub finished : (f : List (ℕ × ℕ)) → IsOnPositions trees f → IsFinishedThere s.q table f → IsFinished s (on_trees trees f)
  pub stopped : (f : List (ℕ × ℕ)) → IsOnPositions trees f → IsStoppedThere s.q table f → IsStopped s (on_trees trees f)
  pub no_zeros : (f : List (ℕ × ℕ)) → IsOnPositions trees f → HasNoZerosThere s.q f → HasNoZeros s.q (on_trees trees f)

-- the same, for all tables over sorted trees
abbrev pub SweptChains : Type 0
SweptChains = (s : Setting) → IsTreeOrder s.arity s.compare → (n : ℕ) (trees : List (Tree ℕ)) (insertions : List (Option (Insertion s n))) (table : Table)
    → IsTableOver s n trees insertions table → SweptLaw s n trees insertions table
