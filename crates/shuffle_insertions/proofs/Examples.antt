-- Examples: one binary label, in the four orders, and the numbers of trees.
use Rattle.std.proofs.Common.{true, ◌≡◌, ℕ, zero, suc, ◌<◌, ◌≤◌, refl, [], ◌∷◌, arith}
use Rattle.std.specs.declared.cmp.Ordering.TheVariants.{Greater}
use native.Mathlib.Decide.{ℕ_discrete}
use Rattle.labelled_trees.specs.Trees.{Tree, leaf, node, none, more}
use Rattle.shuffle_insertions.specs.Labels.{AreLabels}
use Rattle.shuffle_insertions.specs.Orders.{IsTreeOrder}
use Rattle.shuffle_insertions.specs.Keys.{key, path, pathshort, leafpath, weightpath}
use Rattle.shuffle_insertions.specs.Counting.{trees}
use Rattle.shuffle_insertions.specs.Listing.{all_trees, IsListing}
use Rattle.shuffle_insertions.specs.ShuffleTrees.{IsShuffleTree}
use Rattle.shuffle_insertions.specs.Frames.{Frame, insert, IsFrame}
use Rattle.shuffle_insertions.specs.Slots.{Slot, fill_slot, PartsRise}
use Rattle.shuffle_insertions.proofs.Laws.{orders, listed, labelled, first_least, keeps, slots}
use Rattle.modular_sums.specs.Lists.{has_by}
use Rattle.modular_sums.proofs.Lists.{has_by_mem}
use Rattle.labelled_trees.specs.Leaves.{occurs}
use Rattle.labelled_trees.specs.Labelled.{IsLabelled}
use Rattle.labelled_trees.specs.Equality.{same_leaf, same_node, same_more, tree_discrete_by, row_discrete_by, tree_discrete}
use Rattle.labelled_trees.proofs.Permutations.{permutations}
use Rattle.std.specs.Prelude.{IsPermutation}

-- label 0, with two inputs
abbrev pub l : Tree ℕ → Tree ℕ → Tree ℕ
l a b = node 0 (more a (more b none))

-- the arities: label 0 has two inputs, and there is no other
abbrev pub one_binary : ℕ → ℕ
one_binary zero = 2
one_binary (suc g) = 0

pub one_label : AreLabels 1 one_binary
one_label = record { wide = wide; none = none_else }
  where
    wide : (g : ℕ) → g < 1 → 2 ≤ one_binary g
    wide zero h = omega arith
    wide (suc g) h = absurd (omega arith)

    none_else : (g : ℕ) → 1 ≤ g → one_binary g ≡ 0
    none_else zero h = absurd (omega arith)
    none_else (suc g) h = refl

abbrev pub t1 : Tree ℕ
t1 = l (l (leaf 1) (leaf 2)) (leaf 3)

abbrev pub t2 : Tree ℕ
t2 = l (l (leaf 1) (leaf 3)) (leaf 2)

abbrev pub t3 : Tree ℕ
t3 = l (leaf 1) (l (leaf 2) (leaf 3))

abbrev pub no_weight : ℕ → ℕ
no_weight g = 0

-- ---- the key of t2: the words of its leaves 1, 2, 3 and its leaf row

t2_key : key no_weight t2 ≡ record { words = (0 ∷ (0 ∷ [])) ∷ ((0 ∷ []) ∷ ((0 ∷ (0 ∷ [])) ∷ [])); row = 1 ∷ (3 ∷ (2 ∷ [])); weight = 0 }
unfolding ℕ_discrete
t2_key = refl

-- ---- the four orders

path_first : path (key no_weight t1) (key no_weight t2) ≡ Greater
unfolding ℕ_discrete
path_first = refl

path_second : path (key no_weight t2) (key no_weight t3) ≡ Greater
unfolding ℕ_discrete
path_second = refl

pathshort_first : pathshort (key no_weight t3) (key no_weight t2) ≡ Greater
unfolding ℕ_discrete
pathshort_first = refl

pathshort_second : pathshort (key no_weight t2) (key no_weight t1) ≡ Greater
unfolding ℕ_discrete
pathshort_second = refl

leafpath_first : leafpath (key no_weight t2) (key no_weight t1) ≡ Greater
unfolding ℕ_discrete
leafpath_first = refl

leafpath_second : leafpath (key no_weight t1) (key no_weight t3) ≡ Greater
unfolding ℕ_discrete
leafpath_second = refl

-- label 1 weighs 1 and label 0 nothing
one_heavy : ℕ → ℕ
one_heavy zero = 0
one_heavy (suc g) = 1

-- a heavier tree is greater, whatever the words
heavier_above : weightpath (key one_heavy (node 1 (more (leaf 1) (more (l (leaf 2) (leaf 3)) none)))) (key one_heavy t1) ≡ Greater
unfolding ℕ_discrete one_heavy
heavier_above = refl

-- trees of one weight go by path
then_by_path : weightpath (key one_heavy t1) (key one_heavy t2) ≡ Greater
unfolding ℕ_discrete one_heavy
then_by_path = refl

-- ---- the list of trees and their numbers

three_trees : all_trees 1 one_binary 3 ≡ t1 ∷ (t2 ∷ (t3 ∷ []))
three_trees = refl

trees_one : trees 1 one_binary 1 ≡ 1
trees_one = refl

trees_two : trees 1 one_binary 2 ≡ 1
trees_two = refl

trees_three : trees 1 one_binary 3 ≡ 3
trees_three = refl

trees_four : trees 1 one_binary 4 ≡ 15
trees_four = refl

trees_five : trees 1 one_binary 5 ≡ 105
trees_five = refl

trees_six : trees 1 one_binary 6 ≡ 945
trees_six = refl

trees_seven : trees 1 one_binary 7 ≡ 10395
trees_seven = refl

-- ---- the laws at the one binary label

pub by_path : IsTreeOrder one_binary (λ x y. path (key no_weight x) (key no_weight y))
by_path = (orders one_binary no_weight).0

pub listing_of_three : IsListing one_binary 3 (t1 ∷ (t2 ∷ (t3 ∷ [])))
listing_of_three = (listed 1 one_binary one_label 3).0

-- a tree that stands in the list is a shuffle tree
pub valid_at : (n : ℕ) (t : Tree ℕ) → has_by tree_discrete (all_trees 1 one_binary n) t ≡ true → IsShuffleTree one_binary n t
valid_at n t h = (listed 1 one_binary one_label n).0.only t (has_by_mem tree_discrete (all_trees 1 one_binary n) t h)

-- the left comb on 1, 2, 3, 4
abbrev pub comb : Tree ℕ
comb = l t1 (leaf 4)

pub comb_valid : IsShuffleTree one_binary 4 comb
unfolding ℕ_discrete tree_discrete tree_discrete_by row_discrete_by same_leaf same_node same_more
comb_valid = valid_at 4 comb refl

pub t1_valid : IsShuffleTree one_binary 3 t1
unfolding ℕ_discrete tree_discrete tree_discrete_by row_discrete_by same_leaf same_node same_more
t1_valid = valid_at 3 t1 refl

pub t2_valid : IsShuffleTree one_binary 3 t2
unfolding ℕ_discrete tree_discrete tree_discrete_by row_discrete_by same_leaf same_node same_more
t2_valid = valid_at 3 t2 refl

t2_labelled : IsLabelled one_binary 3 t2
t2_labelled = ((labelled one_binary 3 t2).0 t2_valid).0

-- the leaves of t2 from left to right are a permutation of 1, 2, 3
leaves_of_t2 : IsPermutation {X = ℕ} (1 ∷ (2 ∷ (3 ∷ []))) (1 ∷ (3 ∷ (2 ∷ [])))
leaves_of_t2 = ((permutations one_binary 3 t2).0 t2_labelled).1

least_of_t2 : (i : ℕ) → 0 < occurs i t2 → 1 ≤ i
least_of_t2 = (first_least t2 t2_valid.shuffle.rising).1

-- a frame for trees of arity 3: the hole l(0,4), and the inputs 1, 2, 3
abbrev below_root : Frame
below_root = record { hole = l (leaf 0) (leaf 4); inputs = leaf 1 ∷ (leaf 2 ∷ (leaf 3 ∷ [])) }

below_root_frame : IsFrame 3 below_root
unfolding ℕ_discrete
below_root_frame = record { context = refl; as_many = refl; rising = (tt, omega arith, (tt, omega arith, (tt, tt, tt))) }

inserted_t1 : insert below_root t1 ≡ comb
inserted_t1 = refl

-- insertion of t2 in place of t1 keeps shuffle trees, and the frame is a slot
inserted_t2 : IsShuffleTree one_binary 4 (insert below_root t2)
inserted_t2 = (keeps 3 4 below_root t1 t2 below_root_frame).1 one_binary t1_valid t2_valid comb_valid

below_root_slot : (s : Slot) × PartsRise 3 s.parts × ((x : Tree ℕ) → insert below_root x ≡ fill_slot s x)
below_root_slot = (slots 3).0 below_root below_root_frame

-- and keeps the order by path
path_kept : path (key no_weight (insert below_root t1)) (key no_weight (insert below_root t2)) ≡ path (key no_weight t1) (key no_weight t2)
path_kept = by_path.kept 3 4 below_root t1 t2 below_root_frame t1_valid.shuffle t2_valid.shuffle comb_valid.shuffle
