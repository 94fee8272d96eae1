use Rattle.std.proofs.Common.{◌≡◌, map, take}
use Rattle.labelled_trees.specs.Meaning.{tree_of}
use Rattle.shuffle_transfer.specs.Labels.{symmetric_tree}
use Rattle.shuffle_passage.proofs.spelling_back.+spell_back.Given as goal
use Rattle.symmetric_trees.specs.Generators.{generators_of}

abbrev pub decreases-spell_back : goal.decreases-spell_back
decreases-spell_back l = goal.size-spell_back l

abbrev pub invariant-loop-input : goal.invariant-loop-input
invariant-loop-input l = map tree_of l.made ≡ map (λ t. symmetric_tree (generators_of l.table) (tree_of t)) (take l.input-index l.input-items)
