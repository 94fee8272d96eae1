-- What the program's trees mean.
use Rattle.std.specs.Prelude.{ℕ, ◌≡◌}
use Rattle.labelled_trees.specs.Trees.{Tree, leaf, node, row}
use Rattle.labelled_trees.specs.declared.Tree as program
use Rattle.labelled_trees.specs.declared.Tree.TheOpen.{Tree-F}
use Rattle.labelled_trees.specs.declared.Tree.TheFolds.{fold-Tree}

-- the meaning of one vertex or leaf, given those of its inputs
abbrev pub tree_step : Tree-F (Tree ℕ) → Tree ℕ
tree_step (Tree-F.Leaf i) = leaf i
tree_step (Tree-F.Node g ts) = node g (row ts)

-- the tree that a value of the program stands for
abbrev pub tree_of : program.Tree → Tree ℕ
tree_of = fold-Tree (Tree ℕ) tree_step

-- Values of the program that stand for one tree are equal.
abbrev pub OneToOne : Type 0
OneToOne = (t u : program.Tree) → tree_of t ≡ tree_of u → t ≡ u
