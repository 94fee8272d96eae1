use Rattle.std.proofs.Common.{ℕ, ◌<◌, get_or}
use Rattle.tree_store.specs.Stores.{tree_at}
use Rattle.division.specs.Dividers.{DividesAtRoot}
use Rattle.division.proofs.dividing.first_at_root.Given as goal

abbrev pub invariant-loop-candidate : goal.invariant-loop-candidate
invariant-loop-candidate l = (j : ℕ) → j < l.candidate-index → DividesAtRoot l.store l.reducers (tree_at l.store l.id) (get_or l.candidates j 0) → ⊥
