use Rattle.std.proofs.Common.{◌≡◌, map}
use Rattle.symmetric_trees.specs.Spelling.{least_leaves}
use Rattle.symmetric_trees.proofs.LeastOf.{least_from}
use Rattle.symmetric_trees.proofs.spelling.vertex.Given as goal

abbrev pub invariant-loop-branch : goal.invariant-loop-branch
invariant-loop-branch l = record {
  least : l.least ≡ least_from 255 (least_leaves l.yielded);
  inputs : l.inputs ≡ map (λ branch. branch.tree) l.yielded;
}
