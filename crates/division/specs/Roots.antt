-- Roots of leading trees, and the positions at which they stand.
use Rattle.std.specs.Prelude.{ℕ, ◌+◌, ◌*◌, ◌≡◌, ◌≢◌, ◌<◌, List, [], ◌∷◌, ◌++◌, length, slice_get, slice_index, slice_index_or, Option, Some, None}
use Rattle.modular_sums.specs.Lists.{Mem}
use Rattle.labelled_trees.specs.Trees.{Tree, leaf, node}
use Rattle.labelled_trees.specs.Leaves.{leaf_count}
use Rattle.division.specs.declared.root.Root.{Root}

-- the label of a tree's root; none for a leaf
abbrev pub root_label : Tree ℕ → Option ℕ
root_label (leaf i) = None
root_label (node l r) = Some l

-- what is kept of a leading tree: the label of its root, and how many leaves it has
abbrev pub root_of : Tree ℕ → Root
root_of t = record { label = root_label t; arity = leaf_count t }

-- the arity is at most 9
abbrev pub IsSmallRoot : Root → Type 0
IsSmallRoot root = root.arity < 10

-- the root with this label and this arity
abbrev pub labelled : ℕ → ℕ → Root
labelled label arity = record { label = Some label; arity = arity }

-- the root at this position has this label and this arity
abbrev pub HasRoot : List Root → ℕ → ℕ → ℕ → Type 0
HasRoot roots label arity e = slice_get roots e ≡ Some (labelled label arity)

-- Exactly the positions, rising, of the roots with this label and this arity.
pub record ArePositions (roots : List Root) (label arity : ℕ) (positions : List ℕ) : Type 0 where
  pub rising : (j k : ℕ) → j < k → k < length positions → slice_index positions j < slice_index positions k
  pub only : (e : ℕ) → Mem e positions → HasRoot roots label arity e
  pub each : (e : ℕ) → HasRoot roots label arity e → Mem e positions

-- the place of the group with this label and this arity, which is below 10
abbrev pub group_place : ℕ → ℕ → ℕ
group_place label arity = label * 10 + arity

-- the group at a place; no positions where there is none
abbrev pub group_at : List (List ℕ) → ℕ → List ℕ
group_at groups place = slice_index_or groups place []

-- The group of each label and arity has the positions of its roots.
pub record AreGrouped (roots : List Root) (groups : List (List ℕ)) : Type 0 where
  pub small : (e : ℕ) (root : Root) → slice_get roots e ≡ Some root → IsSmallRoot root
  pub each : (label arity : ℕ) → arity < 10 → ArePositions roots label arity (group_at groups (group_place label arity))

-- each group is as before
abbrev pub SameGroups : List (List ℕ) → List (List ℕ) → Type 0
SameGroups old new = (place : ℕ) → group_at new place ≡ group_at old place

-- A position was put behind those of a group, and each other is as before.
pub record EntersAt (old new : List (List ℕ)) (place position : ℕ) : Type 0 where
  pub there : group_at new place ≡ group_at old place ++ position ∷ []
  pub others : (other : ℕ) → other ≢ place → group_at new other ≡ group_at old other

-- it was put into the group of its root, if this has a label
abbrev pub EntersLabel : List (List ℕ) → List (List ℕ) → Option ℕ → ℕ → ℕ → Type 0
EntersLabel old new None arity position = SameGroups old new
EntersLabel old new (Some label) arity position = EntersAt old new (group_place label arity) position
