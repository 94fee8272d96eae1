-- A tree of the program for each tree.
use Rattle.std.proofs.Common.{◌≡◌, ℕ, List, [], ◌∷◌, map, refl, ◌∙◌, ap, ap₂}
use Rattle.labelled_trees.specs.Trees.{Tree, Row, leaf, node, none, more, row}
use Rattle.labelled_trees.specs.Meaning.{tree_of}
use Rattle.labelled_trees.specs.declared.Tree.{Tree as ProgramTree}
use Rattle.labelled_trees.specs.declared.Tree.TheVariants.{Leaf, Node}
use Rattle.labelled_trees.proofs.ProgramTrees.{tree_of-leaf, tree_of-node}

abbrev mutual
  pub program_tree : Tree ℕ → ProgramTree
  program_tree (leaf i) = Leaf i
  program_tree (node g r) = Node g (program_row r)

  pub program_row : Row ℕ → List ProgramTree
  program_row none = []
  program_row (more t r) = program_tree t ∷ program_row r

mutual
  pub made_tree : (t : Tree ℕ) → tree_of (program_tree t) ≡ t
  made_tree (leaf i) = tree_of-leaf i
  made_tree (node g r) = tree_of-node g (program_row r) ∙ ap (node g) (made_row r)

  made_row : (r : Row ℕ) → row (map tree_of (program_row r)) ≡ r
  made_row none = refl
  made_row (more t r) = ap₂ more (made_tree t) (made_row r)

pub made_trees : (ts : List (Tree ℕ)) → map tree_of (map program_tree ts) ≡ ts
made_trees [] = refl
made_trees (t ∷ ts) = ap₂ (λ u us. u ∷ us) (made_tree t) (made_trees ts)
