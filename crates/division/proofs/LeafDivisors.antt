-- A leaf divides no tree.
use Rattle.std.proofs.Common.{◌≡◌, ℕ, Some, None}
use Rattle.labelled_trees.specs.Trees.{Tree, leaf, node, IsNode}
use Rattle.shuffle_places.specs.Places.{divisor_of}
use Rattle.shuffle_places.proofs.Places.{cut_of_place}
use Rattle.tree_divisors.specs.Finding.{HasNoPlace}
use Rattle.division.specs.Roots.{root_label}

no_leaf : (q : Tree (Tree ℕ)) (i : ℕ) → IsNode q → leaf i ≡ divisor_of q → ⊥
no_leaf (leaf t) i n e = n
no_leaf (node l r) i n e = cc e

-- where the root has no label, the tree is a leaf
pub leaf_divides_none : (d t : Tree ℕ) → root_label d ≡ None → HasNoPlace d t
leaf_divides_none (leaf i) t e set place = let c = cut_of_place t set (leaf i) place in no_leaf c.pattern_at i c.is_node c.divisor_is
leaf_divides_none (node l r) t e set place = absurd (cc e)

pub label_is_node : (d : Tree ℕ) (l : ℕ) → root_label d ≡ Some l → IsNode d
label_is_node (leaf i) l e = absurd (cc e)
label_is_node (node m r) l e = tt
