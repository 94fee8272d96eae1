use Rattle.std.proofs.Common.{drop}
use Rattle.shuffle_trees.proofs.Vertices.{RisesFrom}
use Rattle.shuffle_trees.proofs.frame.inputs_rise.Given as goal

abbrev pub invariant-loop-input : goal.invariant-loop-input
invariant-loop-input l = record {
  rest_of : RisesFrom 0 l.inputs → RisesFrom l.floor (drop l.input-index l.inputs);
  whole_of : RisesFrom l.floor (drop l.input-index l.inputs) → RisesFrom 0 l.inputs;
}
