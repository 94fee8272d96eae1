-- The laws of places at the root and in inputs.
use Rattle.std.specs.Prelude.{ℕ, ◌≡◌, ◌<◌, ◌≤◌, List, ◌∷◌, ◌++◌}
use Rattle.std.proofs.Common.{◌⊎◌}
use Rattle.modular_sums.specs.Lists.{Mem}
use Rattle.labelled_trees.specs.Trees.{Tree, Row, leaf, node, row, graft, IsNode}
use Rattle.labelled_trees.specs.Leaves.{occurs}
use Rattle.shuffle_insertions.specs.ShuffleTrees.{IsShuffle}
use Rattle.shuffle_insertions.specs.Frames.{insert}
use Rattle.shuffle_places.specs.Places.{frame_at, IsPlace}
use Rattle.shuffle_places.specs.RootPlaces.{IsShuffleAmong, DividesRoot, IsInInput, count_before, shifted}

-- A tree with a vertex divides a host at its root exactly where the host has a place with that divisor to which the root belongs.
-- The parts are the only ones that make up the host, and an insertion at the place puts them at the leaves of what is inserted.
abbrev pub RootPlaces : Type 0
RootPlaces = (n k : ℕ) (host d : Tree ℕ) → IsShuffleAmong n host → IsShuffle k d → IsNode d
    → ((parts : ℕ → Tree ℕ) → DividesRoot k d host parts
    → (set : List ℕ) × Mem 1 set × IsPlace host set d × ((y : Tree ℕ) → IsShuffle k y → insert (frame_at set host) y ≡ graft y parts))
    × ((set : List ℕ) → IsPlace host set d → Mem 1 set → (parts : ℕ → Tree ℕ) × DividesRoot k d host parts)
    × ((parts others : ℕ → Tree ℕ) → graft d parts ≡ host → graft d others ≡ host → (i : ℕ) → 0 < i → i ≤ k → parts i ≡ others i)

-- A place in an input is a place of the tree with the same divisor, its vertices numbered behind those before the input.
-- The insertion there is the tree with the insertion in the input in place of the input.
abbrev pub InputPlaces : Type 0
InputPlaces = (l : ℕ) (front : List (Tree ℕ)) (t : Tree ℕ) (back : List (Tree ℕ)) (set : List ℕ) (d : Tree ℕ) → IsPlace t set d
    → IsPlace (node l (row (front ++ t ∷ back))) (shifted (count_before front) set) d
    × (occurs 0 (node l (row (front ++ t ∷ back))) ≡ 0 → (y : Tree ℕ)
    → insert (frame_at (shifted (count_before front) set) (node l (row (front ++ t ∷ back)))) y ≡ node l (row (front ++ insert (frame_at set t) y ∷ back)))

-- Each place of a tree has the root, or lies in one input; a leaf has none.
abbrev pub DivisorsSplit : Type 0
DivisorsSplit = ((l : ℕ) (r : Row ℕ) (set : List ℕ) (d : Tree ℕ) → IsPlace (node l r) set d → Mem 1 set ⊎ IsInInput r set d)
    × ((i : ℕ) (set : List ℕ) (d : Tree ℕ) → IsPlace (leaf i) set d → ⊥)
