-- Places in a tree, their divisors and their frames.
use Rattle.std.specs.Prelude.{ℕ, ◌+◌, ◌≡◌, List, [], ◌∷◌, ◌++◌}
use Rattle.std.proofs.Common.{Bool, true, false, suc, cond}
use native.Mathlib.Decide.{ℕ_discrete}
use Rattle.modular_sums.specs.Lists.{has, choose}
use Rattle.labelled_trees.specs.Trees.{Tree, Row, leaf, node, none, more, graft, leaves, vertices}
use Rattle.labelled_trees.specs.Leaves.{leaf_count}
use Rattle.labelled_trees.specs.Insertions.{listed}
use Rattle.labelled_trees.specs.Ranks.{below, standard}
use Rattle.shuffle_insertions.specs.ShuffleTrees.{least}
use Rattle.shuffle_insertions.specs.Frames.{Frame}
use Rattle.shuffle_places.specs.Connected.{IsConnected}

-- the vertices of a tree, whose root has number k, that pass the test and are reached from the root through such vertices:
-- a tree of them, with what hangs below them at its leaves
abbrev mutual
  pub cut : {A : Type 0} → (ℕ → Bool) → ℕ → Tree A → Tree (Tree A)
  cut b k (leaf a) = leaf (leaf a)
  cut b k (node l r) = elim (b k) [ true ↦ node l (cut_row b (suc k) r) | false ↦ leaf (node l r) ]

  pub cut_row : {A : Type 0} → (ℕ → Bool) → ℕ → Row A → Row (Tree A)
  cut_row b k none = none
  cut_row b k (more t r) = more (cut b k t) (cut_row b (k + vertices t) r)

-- What a set of vertices cuts from a tree whose root has number k: a tree of the vertices of the set, with the trees
-- that hang below them at its leaves; a connected set cuts one.
abbrev mutual
  pub cut_out : List ℕ → ℕ → Tree ℕ → List (Tree (Tree ℕ))
  cut_out set k (leaf n) = []
  cut_out set k (node l r) = cond (has set k) (cut (has set) k (node l r) ∷ []) (cut_out_row set (suc k) r)

  pub cut_out_row : List ℕ → ℕ → Row ℕ → List (Tree (Tree ℕ))
  cut_out_row set k none = []
  cut_out_row set k (more t r) = cut_out set k t ++ cut_out_row set (k + vertices t) r

-- the first of a list, or else the leaf 0
abbrev pub first_or_leaf : List (Tree (Tree ℕ)) → Tree (Tree ℕ)
first_or_leaf [] = leaf (leaf 0)
first_or_leaf (q ∷ l) = q

-- the vertices of a place as a tree, with the trees that hang below them at its leaves
abbrev pub at_place : List ℕ → Tree ℕ → Tree (Tree ℕ)
at_place set t = first_or_leaf (cut_out set 1 t)

-- each tree at a leaf replaced by a leaf, whose number is the rank of the tree's least leaf
abbrev pub divisor_of : Tree (Tree ℕ) → Tree ℕ
divisor_of q = standard (graft q (λ v. leaf (least v)))

-- The divisor at a place: each tree that hangs below it is replaced by a leaf, whose number is the rank of the tree's least leaf
-- (Dotsenko and Khoroshkin 2010, divisors of tree monomials).
abbrev pub divisor_at : List ℕ → Tree ℕ → Tree ℕ
divisor_at set t = divisor_of (at_place set t)

-- the tree with leaf 0 in place of the vertices of the set and all that is below them
abbrev mutual
  pub hole_at : List ℕ → ℕ → Tree ℕ → Tree ℕ
  hole_at set k (leaf n) = leaf n
  hole_at set k (node l r) = cond (has set k) (leaf 0) (node l (hole_at_row set (suc k) r))

  pub hole_at_row : List ℕ → ℕ → Row ℕ → Row ℕ
  hole_at_row set k none = none
  hole_at_row set k (more t r) = more (hole_at set k t) (hole_at_row set (k + vertices t) r)

-- the tree of the list whose least leaf has rank i among those of q
abbrev pub of_rank : Tree ℕ → List (Tree ℕ) → ℕ → Tree ℕ
of_rank keys [] i = leaf 0
of_rank keys (v ∷ l) i = choose (ℕ_discrete (suc (below (least v) keys)) i) v (of_rank keys l i)

-- the trees at the leaves, by ascending least leaves
abbrev pub pattern_inputs : Tree (Tree ℕ) → List (Tree ℕ)
pattern_inputs q = listed (of_rank (graft q (λ v. leaf (least v))) (leaves q)) 0 (leaf_count q)

-- The frame at a place: leaf 0 stands for the place, and the inputs are the trees that hang below it, by ascending least leaves.
abbrev pub frame_at : List ℕ → Tree ℕ → Frame
frame_at set t = record { hole = hole_at set 1 t; inputs = pattern_inputs (at_place set t) }

-- A place with divisor d in a tree: a connected set of vertices, numbered in preorder, whose divisor is d.
pub record IsPlace (t : Tree ℕ) (set : List ℕ) (d : Tree ℕ) : Type 0 where
  pub connected : IsConnected t set
  pub divisor_is : divisor_at set t ≡ d
