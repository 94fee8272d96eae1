use Rattle.std.proofs.Common.{◌≡◌, ℕ, ◌+◌, ◌<◌, ◌≤◌, take, drop}
use Rattle.std.specs.Prelude.{slice_index}
use Rattle.std.specs.List.{AllByRecursion}
use Rattle.shuffle_trees.specs.ValidTrees.{IsValid}
use Rattle.shuffle_trees.proofs.Inputs.{occurs_in}
use Rattle.shuffle_trees.proofs.frame.count_inputs.Given as goal

abbrev pub invariant-loop-input : goal.invariant-loop-input
invariant-loop-input l = record {
  counts : (k : ℕ) → k < 256 → slice_index l.times k + occurs_in k (drop l.input-index l.inputs) ≡ slice_index l.fn.times k + occurs_in k l.inputs;
  valid : AllByRecursion IsValid (take l.input-index l.inputs);
  once : (k : ℕ) → slice_index l.times k ≤ 1;
}
