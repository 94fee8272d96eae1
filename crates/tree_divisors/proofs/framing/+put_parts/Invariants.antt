use Rattle.std.proofs.Common.{drop, ◌+◌}
use Rattle.labelled_trees.specs.Meaning.{tree_of}
use Rattle.labelled_trees.specs.Trees.{leaves, vertices}
use Rattle.shuffle_places.specs.Places.{cut}
use Rattle.tree_divisors.specs.Cutting.{has_marks}
use Rattle.tree_divisors.specs.Framing.{lent_trees, put_by_rank}
use Rattle.tree_divisors.proofs.FrameParts.{PutLeft}
use Rattle.tree_divisors.proofs.framing.+put_parts.Given as goal

abbrev pub decreases-put_parts : goal.decreases-put_parts
decreases-put_parts l = goal.size-put_parts l

abbrev pub invariant-loop-input : goal.invariant-loop-input
invariant-loop-input l =
    PutLeft (has_marks l.marks) l.ranks (lent_trees l.slots) (put_by_rank l.ranks (lent_trees l.fn.slots) (leaves (cut (has_marks l.marks) l.fn.from (tree_of l.tree)))) l.next (l.fn.from + vertices (tree_of l.tree)) (drop l.input-index l.input-items)
