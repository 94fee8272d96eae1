use Rattle.std.specs.Prelude.{◌≡◌}
use Rattle.std.proofs.Common.{suc}
use Rattle.labelled_trees.specs.Meaning.{tree_of}
use Rattle.shuffle_insertions.specs.Keys.{words_below}
use Rattle.shuffle_trees.proofs.keys.words.Given as goal

abbrev pub invariant-loop-below : goal.invariant-loop-below
invariant-loop-below l = l.words ≡ words_below (suc l.below) (tree_of l.shape)
