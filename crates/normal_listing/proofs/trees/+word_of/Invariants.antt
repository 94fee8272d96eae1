use Rattle.std.proofs.Common.{◌≡◌}
use mathlib.Core.List.{◌++◌}
use Rattle.labelled_trees.specs.Meaning.{tree_of}
use Rattle.normal_listing.specs.Words.{symbols}
use Rattle.normal_listing.proofs.Combining.{symbols_from}
use Rattle.normal_listing.proofs.trees.+word_of.Given as goal

abbrev pub decreases-word_of : goal.decreases-word_of
decreases-word_of l = goal.size-word_of l

-- the word, and those of the inputs that are left
abbrev pub invariant-loop-input : goal.invariant-loop-input
invariant-loop-input l = l.word ++ symbols_from l.input-index l.input-items ≡ symbols (tree_of l.tree)
