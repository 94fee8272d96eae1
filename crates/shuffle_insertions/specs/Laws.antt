-- The laws of shuffle trees, their orders and their list.
use Rattle.std.specs.Prelude.{ℕ, ◌≡◌, ◌<◌, ◌≤◌, length}
use Rattle.std.proofs.Common.{suc}
use Rattle.labelled_trees.specs.Trees.{Tree}
use Rattle.labelled_trees.specs.Leaves.{occurs}
use Rattle.labelled_trees.specs.Labelled.{IsLabelled}
use Rattle.labelled_trees.specs.RangeSums.{range_sum}
use Rattle.shuffle_insertions.specs.ShuffleTrees.{least, IsRising, IsShuffle, IsShuffleTree}
use Rattle.shuffle_insertions.specs.Labels.{AreLabels}
use Rattle.shuffle_insertions.specs.Frames.{Frame, insert, IsFrame}
use Rattle.shuffle_insertions.specs.Slots.{Slot, fill_slot, PartsRise}
use Rattle.shuffle_insertions.specs.Keys.{key, path, pathshort, leafpath, weightpath}
use Rattle.shuffle_insertions.specs.Orders.{IsTreeOrder}
use Rattle.shuffle_insertions.specs.Listing.{IsListing, all_trees}
use Rattle.shuffle_insertions.specs.Counting.{row_count, trees}

-- Where inputs stand in ascending order, the first leaf is the least.
abbrev pub FirstIsLeast : Type 0
FirstIsLeast = (t : Tree ℕ) → IsRising t → (0 < occurs (least t) t) × ((i : ℕ) → 0 < occurs i t → least t ≤ i)

-- A shuffle tree over labels is a labelled tree whose inputs rise.
abbrev pub ShuffleTreesAreLabelled : Type 0
ShuffleTreesAreLabelled = (arity : ℕ → ℕ) (n : ℕ) (t : Tree ℕ)
    → (IsShuffleTree arity n t → IsLabelled arity n t × IsRising t) × (IsLabelled arity n t → IsRising t → IsShuffleTree arity n t)

-- Insertion keeps shuffle trees: where one shuffle tree of arity k gives one of arity n, each does, over the labels too.
abbrev pub InsertionKeeps : Type 0
InsertionKeeps = (k n : ℕ) (f : Frame) (x y : Tree ℕ) → IsFrame k f
    → (IsShuffle k x → IsShuffle k y → IsShuffle n (insert f x) → IsShuffle n (insert f y))
    × ((arity : ℕ → ℕ) → IsShuffleTree arity k x → IsShuffleTree arity k y → IsShuffleTree arity n (insert f x) → IsShuffleTree arity n (insert f y))

-- A frame does what a context with a function does, and where that gives shuffle trees there is a frame that does it.
abbrev pub FramesAreSlots : Type 0
FramesAreSlots = (k : ℕ)
    → ((f : Frame) → IsFrame k f → (s : Slot) × PartsRise k s.parts × ((x : Tree ℕ) → insert f x ≡ fill_slot s x))
    × ((n : ℕ) (s : Slot) (x : Tree ℕ) → PartsRise k s.parts → IsShuffle k x → IsShuffle n (fill_slot s x)
    → (f : Frame) × IsFrame k f × ((y : Tree ℕ) → IsShuffle k y → insert f y ≡ fill_slot s y))

-- The four comparisons are orders of shuffle trees, whatever the weights of the labels.
abbrev pub FourOrders : Type 0
FourOrders = (arity weights : ℕ → ℕ)
    → IsTreeOrder arity (λ x y. path (key weights x) (key weights y))
    × IsTreeOrder arity (λ x y. pathshort (key weights x) (key weights y))
    × IsTreeOrder arity (λ x y. leafpath (key weights x) (key weights y))
    × IsTreeOrder arity (λ x y. weightpath (key weights x) (key weights y))

-- All shuffle trees over the labels stand in one list, each once, and their number has a recursion:
-- one of arity 1, and of arity n + 2 for each label g so many rows of `arity g` shuffle trees as divide the numbers 1 to n + 2.
abbrev pub TreesListed : Type 0
TreesListed = (labels : ℕ) (arity : ℕ → ℕ) → AreLabels labels arity → (n : ℕ)
    → IsListing arity n (all_trees labels arity n) × (length (all_trees labels arity n) ≡ trees labels arity n)
    × (trees labels arity 1 ≡ 1) × (trees labels arity (suc (suc n)) ≡ range_sum labels (λ g. row_count (trees labels arity) (arity g) (suc (suc n))))
