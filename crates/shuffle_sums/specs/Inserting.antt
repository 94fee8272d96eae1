-- Sums whose trees are inserted into the frame at a place.
use Rattle.std.specs.Prelude.{ℕ, ◌≡◌, List, length}
use Rattle.labelled_trees.specs.Trees.{Tree}
use Rattle.labelled_trees.specs.Leaves.{leaf_count}
use Rattle.modular_sums.specs.Sums.{AllTerms, moved}
use Rattle.shuffle_insertions.specs.Frames.{Frame, insert}
use Rattle.shuffle_insertions.specs.ShuffleTrees.{IsShuffle}
use Rattle.shuffle_places.specs.Places.{divisor_at, frame_at}
use Rattle.tree_store.specs.Stores.{tree_at}
use Rattle.shuffle_sums.specs.Shelves.{Shelf, FitsShelf}
use Rattle.shuffle_sums.specs.Sums.{pairs, over, HaveKeys}
use Rattle.shuffle_sums.specs.declared.sum.Term.{Term}

-- each tree of the sum has as many leaves as the divisor of the host at the place
abbrev pub FitPlace : List ℕ → Tree ℕ → List (ℕ × Tree ℕ) → Type 0
FitPlace place host sum = AllTerms sum (λ t. leaf_count t ≡ leaf_count (divisor_at place host))

-- the sum with each tree inserted into the frame of the host at the place
abbrev pub inserted_at : List ℕ → Tree ℕ → List (ℕ × Tree ℕ) → List (ℕ × Tree ℕ)
inserted_at place host sum = moved (insert (frame_at place host)) sum

-- the tree has the leaves 1 to the number of the frame's inputs, and its insertion fits the shelf
abbrev pub FitsFrame : Shelf → Frame → Tree ℕ → Type 0
FitsFrame shelf f t = IsShuffle (length f.inputs) t × FitsShelf shelf (insert f t)

-- the same of the trees of a sum of ids
abbrev pub FitFrame : Shelf → Frame → List (ℕ × ℕ) → Type 0
FitFrame shelf f sum = AllTerms sum (λ id. FitsFrame shelf f (tree_at shelf.trees id))

-- What is made of terms by insertion into a frame: terms that stand in the later shelf, with the trees inserted.
pub record AreInserted (old new : Shelf) (f : Frame) (terms made : List Term) : Type 0 where
  pub stand : HaveKeys new (pairs made)
  pub inserted : over new (pairs made) ≡ moved (insert f) (over old (pairs terms))
