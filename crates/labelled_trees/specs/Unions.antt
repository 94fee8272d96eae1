-- Two patterns that lie in one tree from its root on: a form that serves the proofs.
use Rattle.labelled_trees.specs.Trees.{Tree, Row, leaf, node, none, more, graft_row, map_tree}

-- the pattern with the vertices of both
abbrev mutual
  pub union : {X : Type 0} → Tree X → Tree X → Tree X
  union (leaf t) q = q
  union (node l r) (leaf u) = node l r
  union (node l r) (node m s) = node l (union_row r s)

  pub union_row : {X : Type 0} → Row X → Row X → Row X
  union_row none s = none
  union_row (more t r) none = more t r
  union_row (more t r) (more u s) = more (union t u) (union_row r s)

-- the union as the first pattern with a pattern in place of each of its hanging parts
abbrev mutual
  pub over_first : {X : Type 0} → Tree X → Tree X → Tree (Tree X)
  over_first (leaf t) q = leaf q
  over_first (node l r) (leaf u) = map_tree leaf (node l r)
  over_first (node l r) (node m s) = node l (over_first_row r s)

  pub over_first_row : {X : Type 0} → Row X → Row X → Row (Tree X)
  over_first_row none s = none
  over_first_row (more t r) none = graft_row (more t r) (λ a. leaf (leaf a))
  over_first_row (more t r) (more u s) = more (over_first t u) (over_first_row r s)
