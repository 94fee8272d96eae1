-- Elements over ids, and what insertions make of their tails.
use Rattle.std.specs.Prelude.{ℕ, ◌≡◌, ◌<◌, List, ◌++◌, length, map}
use Rattle.std.specs.List.{All}
use Rattle.labelled_trees.specs.Trees.{Tree, IsNode}
use Rattle.labelled_trees.specs.Leaves.{occurs}
use Rattle.shuffle_insertions.specs.ShuffleTrees.{IsShuffle}
use Rattle.shuffle_insertions.specs.Frames.{insert}
use Rattle.shuffle_places.specs.Places.{frame_at, IsPlace}
use Rattle.tree_store.specs.Stores.{tree_at}
use Rattle.shuffle_sums.specs.Shelves.{Shelf, HasLeavesAmong}
use Rattle.division.specs.Parts.{AreHeld, HasRoom, built, replaced}
use Rattle.division.specs.declared.reducer.Reducer.{Reducer}

-- the tree with this id can be built with these parts, and belongs to the shelf then
pub record CanBuild (shelf : Shelf) (parts : List ℕ) (tree : ℕ) : Type 0 where
  pub low : tree < length shelf.trees
  pub room : HasRoom parts (tree_at shelf.trees tree)
  pub held : AreHeld shelf.trees parts (tree_at shelf.trees tree)
  pub belongs : HasLeavesAmong shelf.labels shelf.most (built shelf.trees parts tree)

-- the tree with an id in place of an input of the host
abbrev pub with_other : List (Tree ℕ) → ℕ → ℕ → ℕ → Tree ℕ
with_other trees host at other = replaced (tree_at trees host) at (tree_at trees other)

-- the tree with this id can stand in place of an input of the host, which belongs to the shelf then
pub record CanReplace (shelf : Shelf) (host at other : ℕ) : Type 0 where
  pub low : other < length shelf.trees
  pub belongs : HasLeavesAmong shelf.labels shelf.most (with_other shelf.trees host at other)

-- Ids were put behind others: those of the trees that f makes of the things of the list.
pub record AreMade (trees : List (Tree ℕ)) (f : ℕ → Tree ℕ) (things before after : List ℕ) : Type 0 where
  pub made : List ℕ
  pub after_is : after ≡ before ++ made
  pub held : All (λ i. i < length trees) made
  pub are : map (tree_at trees) made ≡ map f things

-- The element's trees are held; its leading tree has a vertex, and all are shuffle trees of its arity.
pub record IsReducer (trees : List (Tree ℕ)) (r : Reducer) : Type 0 where
  pub lead_low : r.lead < length trees
  pub lead_valid : IsShuffle r.arity (tree_at trees r.lead)
  pub lead_node : IsNode (tree_at trees r.lead)
  pub tail_low : All (λ i. i < length trees) r.tail
  pub tail_valid : All (λ i. IsShuffle r.arity (tree_at trees i)) r.tail

-- These are the ids of an insertion in the host, but for its first tree: at some place whose divisor is the lead,
-- each tree of the tail stands in turn. They have the leaves of the host.
pub record AreInserted (trees : List (Tree ℕ)) (host lead : Tree ℕ) (tail : List (Tree ℕ)) (ids : List ℕ) : Type 0 where
  pub set : List ℕ
  pub place : IsPlace host set lead
  pub held : All (λ i. i < length trees) ids
  pub are : map (tree_at trees) ids ≡ map (insert (frame_at set host)) tail
  pub leaves : All (λ i. (n : ℕ) → occurs n (tree_at trees i) ≡ occurs n host) ids

-- ids of an insertion were put behind others
pub record AddsInsertion (trees : List (Tree ℕ)) (host lead : Tree ℕ) (tail : List (Tree ℕ)) (before after : List ℕ) : Type 0 where
  pub made : List ℕ
  pub after_is : after ≡ before ++ made
  pub inserted : AreInserted trees host lead tail made
