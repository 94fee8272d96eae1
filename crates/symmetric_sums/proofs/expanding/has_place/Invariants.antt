use Rattle.std.proofs.Common.{◌≡◌, take}
use Rattle.std.specs.List.{All}
use Rattle.labelled_trees.specs.Leaves.{occurs}
use Rattle.labelled_trees.specs.Meaning.{tree_of}
use Rattle.symmetric_sums.proofs.expanding.has_place.Given as goal

abbrev pub invariant-loop-input : goal.invariant-loop-input
invariant-loop-input l = All (λ t. occurs 0 (tree_of t) ≡ 0) (take l.input-index l.input-items)
