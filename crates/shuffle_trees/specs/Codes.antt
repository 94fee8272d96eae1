-- How trees and frames are stored: a tree as the program's tree that stands for it.
use Rattle.std.specs.Prelude.{ℕ, ◌≡◌, List, [], ◌∷◌}
use Rattle.std.specs.Coded.{Coded, code_by, coded×, coded_list}
use Rattle.std.proofs.Common.{refl, ap, ◌∙◌}
use mathlib.Core.Path.{ap₂}
use Rattle.std.specs.Prelude.{map}
use Rattle.labelled_trees.specs.Trees.{Tree, Row, leaf, node, none, more, row}
use Rattle.labelled_trees.specs.Meaning.{tree_of}
use Rattle.labelled_trees.specs.declared.Tree as program
use Rattle.labelled_trees.specs.contracts.Tree as stored
use Rattle.labelled_trees.specs.declared.Tree.TheVariants.{Leaf, Node}
use Rattle.labelled_trees.proofs.ProgramTrees.{tree_of-leaf, tree_of-node}
use Rattle.shuffle_insertions.specs.Frames.{Frame}

-- the program's tree that stands for a tree
abbrev mutual
  pub written : Tree ℕ → program.Tree
  written (leaf i) = Leaf i
  written (node l r) = Node l (written_row r)

  pub written_row : Row ℕ → List program.Tree
  written_row none = []
  written_row (more t r) = written t ∷ written_row r

-- it stands for that tree
mutual
  pub written_is : (t : Tree ℕ) → tree_of (written t) ≡ t
  written_is (leaf i) = tree_of-leaf i
  written_is (node l r) = tree_of-node l (written_row r) ∙ ap (node l) (written_row_is r)

  pub written_row_is : (r : Row ℕ) → row (map tree_of (written_row r)) ≡ r
  written_row_is none = refl
  written_row_is (more t r) = ap₂ more (written_is t) (written_row_is r)

-- a tree is stored as the program's tree
abbrev pub tree_code : Coded (Tree ℕ)
tree_code = code_by program.Tree stored.the_row.coded written tree_of written_is

-- a frame is stored as its hole and its inputs
abbrev pub frame_code : Coded Frame
frame_code = code_by (Tree ℕ × List (Tree ℕ)) (coded× tree_code (coded_list tree_code))
    (λ f. (f.hole, f.inputs)) (λ p. record { hole = p.0; inputs = p.1 }) (λ _. refl)
