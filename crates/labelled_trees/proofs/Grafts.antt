-- Grafting is associative, and a leaf for each leaf changes nothing.
use Rattle.std.proofs.Common.{◌≡◌, List, [], ◌∷◌, map, refl, ap}
use mathlib.Core.Path.{ap₂}
use Rattle.labelled_trees.specs.Trees.{Tree, Row, leaf, node, none, more, row, graft, graft_row}

mutual
  pub graft_assoc : {A B C : Type 0} (t : Tree A) (s : A → Tree B) (u : B → Tree C) → graft (graft t s) u ≡ graft t (λ a. graft (s a) u)
  graft_assoc (leaf a) s u = refl
  graft_assoc (node l r) s u = ap (node l) (graft_row_assoc r s u)

  pub graft_row_assoc : {A B C : Type 0} (r : Row A) (s : A → Tree B) (u : B → Tree C) → graft_row (graft_row r s) u ≡ graft_row r (λ a. graft (s a) u)
  graft_row_assoc none s u = refl
  graft_row_assoc (more t r) s u = ap₂ more (graft_assoc t s u) (graft_row_assoc r s u)

mutual
  pub graft_leaf : {A : Type 0} (t : Tree A) → graft t leaf ≡ t
  graft_leaf (leaf a) = refl
  graft_leaf (node l r) = ap (node l) (graft_row_leaf r)

  pub graft_row_leaf : {A : Type 0} (r : Row A) → graft_row r leaf ≡ r
  graft_row_leaf none = refl
  graft_row_leaf (more t r) = ap₂ more (graft_leaf t) (graft_row_leaf r)

pub graft_row-row : {A B : Type 0} (ts : List (Tree A)) (s : A → Tree B) → graft_row (row ts) s ≡ row (map (λ t. graft t s) ts)
graft_row-row [] s = refl
graft_row-row (t ∷ ts) s = ap (more (graft t s)) (graft_row-row ts s)
