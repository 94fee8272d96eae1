use Rattle.std.proofs.Common.{◌≡◌, map, take}
use Rattle.labelled_trees.specs.Meaning.{tree_of}
use Rattle.shuffle_transfer.specs.Labels.{symmetric_tree}
use Rattle.shuffle_passage.proofs.framing.spell_all.Given as goal
use Rattle.symmetric_trees.specs.Generators.{generators_of}

abbrev pub invariant-loop-tree : goal.invariant-loop-tree
invariant-loop-tree l = map tree_of l.made ≡ map (symmetric_tree (generators_of l.table)) (take l.tree-index l.trees)
