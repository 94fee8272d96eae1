-- Planar rooted trees.
use Rattle.std.specs.Prelude.{ℕ, ◌+◌, List, [], ◌∷◌, ◌++◌}
use Rattle.std.proofs.Common.{suc}

-- A tree is a leaf with a value, or a vertex with a number (a generator or a label) and its inputs from left to right
-- (Bremner and Dotsenko 2016, tree monomials; Dotsenko and Khoroshkin 2010, decorated trees).
mutual
  pub data Tree (A : Type 0) : Type 0 where
    leaf : A → Tree A
    node : ℕ → Row A → Tree A

  pub data Row (A : Type 0) : Type 0 where
    none : Row A
    more : Tree A → Row A → Row A

-- the inputs of a row, as many as there are
abbrev pub width : {A : Type 0} → Row A → ℕ
width none = 0
width (more t r) = suc (width r)

-- the row with these inputs
abbrev pub row : {A : Type 0} → List (Tree A) → Row A
row [] = none
row (t ∷ ts) = more t (row ts)

-- the inputs of a row as a list
abbrev pub inputs : {A : Type 0} → Row A → List (Tree A)
inputs none = []
inputs (more t r) = t ∷ inputs r

-- the values at the leaves, from left to right
abbrev mutual
  pub leaves : {A : Type 0} → Tree A → List A
  leaves (leaf a) = a ∷ []
  leaves (node l r) = leaves_row r

  pub leaves_row : {A : Type 0} → Row A → List A
  leaves_row none = []
  leaves_row (more t r) = leaves t ++ leaves_row r

-- Grafting: each leaf is replaced by the tree that stands for its value
-- (Bremner and Dotsenko 2016, composition of tree monomials).
abbrev mutual
  pub graft : {A B : Type 0} → Tree A → (A → Tree B) → Tree B
  graft (leaf a) s = s a
  graft (node l r) s = node l (graft_row r s)

  pub graft_row : {A B : Type 0} → Row A → (A → Tree B) → Row B
  graft_row none s = none
  graft_row (more t r) s = more (graft t s) (graft_row r s)

-- a tree whose leaves carry trees, with these trees in place of the leaves
abbrev pub join : {A : Type 0} → Tree (Tree A) → Tree A
join t = graft t (λ s. s)

-- the same tree with f of each leaf's value
abbrev pub map_tree : {A B : Type 0} → (A → B) → Tree A → Tree B
map_tree f t = graft t (λ a. leaf (f a))

-- the tree is a vertex with its inputs, and no leaf alone
abbrev pub IsNode : {A : Type 0} → Tree A → Type 0
IsNode (leaf a) = ⊥
IsNode (node l r) = Unit {0}

-- the tree is a leaf alone
abbrev pub IsLeaf : {A : Type 0} → Tree A → Type 0
IsLeaf (leaf a) = Unit {0}
IsLeaf (node l r) = ⊥

-- how many vertices there are
abbrev mutual
  pub vertices : {A : Type 0} → Tree A → ℕ
  vertices (leaf a) = 0
  vertices (node l r) = suc (vertices_row r)

  pub vertices_row : {A : Type 0} → Row A → ℕ
  vertices_row none = 0
  vertices_row (more t r) = vertices t + vertices_row r
