use Rattle.std.proofs.Common.{◌≡◌, suc}
use Rattle.labelled_trees.specs.Meaning.{tree_of}
use Rattle.shuffle_insertions.specs.Keys.{words_below}
use Rattle.path_orders.proofs.words.compare_paths.Given as goal

abbrev pub invariant-loop-below : goal.invariant-loop-below
invariant-loop-below l = words_below (suc l.below) (tree_of l.one) ≡ words_below (suc l.below) (tree_of l.other)
