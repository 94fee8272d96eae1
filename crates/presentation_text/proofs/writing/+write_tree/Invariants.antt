use Rattle.std.proofs.Common.{◌≡◌, ◌++◌, ◌∷◌, [], map, drop}
use Rattle.labelled_trees.specs.Meaning.{tree_of}
use Rattle.presentation_text.specs.TreeText.{tree_text}
use Rattle.presentation_text.proofs.TreePrinting.{marked_text}
use Rattle.presentation_text.proofs.writing.+write_tree.Given as goal

abbrev pub decreases-write_tree : goal.decreases-write_tree
decreases-write_tree l = goal.size-write_tree l

abbrev pub invariant-loop-input : goal.invariant-loop-input
invariant-loop-input l =
    l.out.items ++ (marked_text l.table l.mark (map tree_of (drop l.input-index l.input-items)) ++ 41 ∷ [])
    ≡ l.fn.out.items ++ tree_text l.table (tree_of l.tree)
