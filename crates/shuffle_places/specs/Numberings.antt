-- The shuffle trees of one shape.
use Rattle.std.specs.Prelude.{ℕ, List, [], ◌∷◌, map}
use Rattle.labelled_trees.specs.Trees.{Tree, Row, leaf, node, none, more}
use Rattle.shuffle_insertions.specs.Listing.{joined_splits, each_with_each, lone}

-- the shuffle trees of the shape over the leaf numbers, which rise
abbrev mutual
  pub numberings : Tree (Unit {0}) → List ℕ → List (Tree ℕ)
  numberings (leaf u) l = lone l
  numberings (node g none) l = []
  numberings (node g (more t r)) l = map (λ s. node g s) (numberings_row (more t r) l)

  pub numberings_row : Row (Unit {0}) → List ℕ → List (Row ℕ)
  numberings_row none [] = none ∷ []
  numberings_row none (a ∷ l) = []
  numberings_row (more t r) [] = []
  numberings_row (more t r) (a ∷ l) = joined_splits l (λ b c. each_with_each (numberings t (a ∷ b)) (numberings_row r c))
