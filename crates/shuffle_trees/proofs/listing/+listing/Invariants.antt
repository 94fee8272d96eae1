use Rattle.std.proofs.Common.{◌≡◌, ◌+◌, ◌-◌, ◌*◌, ◌++◌, length, map}
use Rattle.std.specs.Prelude.{◌^◌}
use Rattle.labelled_trees.specs.Meaning.{tree_of}
use Rattle.labelled_trees.specs.Trees.{node}
use Rattle.shuffle_insertions.specs.Listing.{joined_below, lone, rows, shuffles}
use Rattle.shuffle_trees.specs.LabelLists.{arity_in}
use Rattle.shuffle_trees.proofs.listing.+listing.Given as goal

abbrev pub decreases-list_trees : goal.decreases-list_trees
decreases-list_trees l = l.levels * 2 ^ 80

abbrev pub decreases-list_rows : goal.decreases-list_rows
decreases-list_rows l = l.levels * 2 ^ 80 + 1 + l.inputs * 2 ^ 66

abbrev pub decreases-split_rows : goal.decreases-split_rows
decreases-split_rows l = l.levels * 2 ^ 80 + 2 + l.inputs * 2 ^ 66 + length l.numbers.now

abbrev pub invariant-list_trees-loop-label : goal.invariant-list_trees-loop-label
invariant-list_trees-loop-label l =
    map tree_of l.made.items ≡ lone l.leaves ++ joined_below l.label (λ g. map (λ r. node g r) (rows (shuffles (length l.labels) (arity_in l.labels) (l.levels - 1)) (arity_in l.labels g) l.leaves))
