use Rattle.std.proofs.Common.{◌≡◌, ◌+◌, ◌<◌, take}
use Rattle.std.specs.List.{All, sum_by}
use Rattle.symmetric_trees.proofs.generators.Generator.sizes_fit.Given as goal

abbrev pub invariant-loop-part : goal.invariant-loop-part
invariant-loop-part l = record {
  positive : All (λ part. 0 < part.size) (take l.part-index l.part-items);
  used : l.left + sum_by (λ part. part.size) (take l.part-index l.part-items) ≡ l.self.arity;
}
