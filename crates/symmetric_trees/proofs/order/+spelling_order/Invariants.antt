use Rattle.std.proofs.Common.{◌≡◌, map, drop}
use Rattle.labelled_trees.specs.Meaning.{tree_of}
use Rattle.labelled_trees.specs.Trees.{row}
use Rattle.operad_ideals.specs.SpellingOrder.{order_row}
use Rattle.symmetric_trees.proofs.order.+spelling_order.Given as goal

abbrev pub decreases-spelling_order : goal.decreases-spelling_order
decreases-spelling_order l = goal.size-spelling_order l

-- what is left of the inputs decides
abbrev pub invariant-loop-at : goal.invariant-loop-at
invariant-loop-at l =
    order_row (row (map tree_of (drop l.at l.input-items))) (row (map tree_of (drop l.at l.others)))
    ≡ order_row (row (map tree_of l.input-items)) (row (map tree_of l.others))
