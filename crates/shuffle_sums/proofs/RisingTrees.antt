-- Positions that sort the blocks of trees sort the trees.
use Rattle.std.specs.Prelude.{slice_index}
use Rattle.std.proofs.Common.{◌≡◌, ℕ, ◌<◌, List, [], length, map, ap, ◌∙◌, subst, arith}
use mathlib.Core.Path.{ap₂}
use Rattle.std.specs.List.{range_with_len}
use Rattle.std.specs.List.Sorted.{IsPermutation, IsSorted}
use Rattle.std.specs.declared.cmp.Ordering.{Ordering}
use Rattle.std.specs.declared.cmp.Ordering.TheVariants.{Equal}
use Rattle.std.specs.Ordering.{nat_cmp}
use Rattle.std.specs.Cmp.Lexicographic.{slice_cmp}
use Rattle.std.proofs.lemmas.List.{get_or-map}
use Rattle.std.proofs.Math.ListN.{length-map}
use Rattle.std.proofs.lemmas.List.Elements.{All-get_or}
use Rattle.modular_sums.specs.Lists.{Distinct}
use Rattle.labelled_trees.specs.Trees.{Tree, leaf}
use Rattle.shuffle_insertions.specs.ShuffleTrees.{IsShuffleTree}
use Rattle.shuffle_insertions.specs.Keys.{Key, key}
use Rattle.shuffle_insertions.specs.Orders.{IsTreeOrder}
use Rattle.tree_store.specs.Stores.{IsStore, tree_at}
use Rattle.tree_store.proofs.Trees.{one_place}
use Rattle.tree_store.proofs.Counts.{held_valid}
use Rattle.shuffle_insertions.specs.KeyBlocks.{AreComparableKeys}
use Rattle.shuffle_sums.specs.Sorting.{block_at, compare_by, trees_at, AreOfOneArity, Rise}
use Rattle.path_orders.proofs.ComparableKeys.{keys_are_alike}
use Rattle.shuffle_sums.proofs.RisingBlocks.{rising}

module _ (trees : List (Tree ℕ)) (ids : List ℕ) (weights : ℕ → ℕ) (by_keys : Key → Key → Ordering) (block : Key → List ℕ)
    (law : (a b : Key) → AreComparableKeys a b → slice_cmp nat_cmp (block a) (block b) ≡ by_keys a b)
    (order : (arity : ℕ → ℕ) → IsTreeOrder arity (compare_by by_keys weights)) (h : AreOfOneArity trees ids) (distinct : Distinct ids) (s : 0 < length ids → IsStore trees) where
  abbrev here : ℕ → Tree ℕ
  here p = tree_at trees (slice_index ids p)

  abbrev block_of : ℕ → List ℕ
  block_of id = block (key weights (tree_at trees id))

  is_tree : (p : ℕ) → p < length ids → IsShuffleTree h.arity h.leaves (here p)
  is_tree p within = All-get_or (λ id. IsShuffleTree h.arity h.leaves (tree_at trees id)) ids p 0 within h.are

  is_held : (p : ℕ) → p < length ids → slice_index ids p < length trees
  is_held p within = All-get_or (λ id. id < length trees) ids p 0 within h.held

  agree : (p q : ℕ) → p < length ids → q < length ids → slice_cmp nat_cmp (block_at (map block_of ids) p) (block_at (map block_of ids) q) ≡ compare_by by_keys weights (here p) (here q)
  agree p q pw qw =
      let store = s (omega (arith, pw)) in
      let few = h.few in
      let alike = keys_are_alike weights h.leaves (here p) (here q) (omega (arith, few)) (is_tree p pw).shuffle (is_tree q qw).shuffle
      (held_valid trees (slice_index ids p) store (is_held p pw)).wide (held_valid trees (slice_index ids q) store (is_held q qw)).wide in
      ap₂ (slice_cmp nat_cmp) (get_or-map block_of ids p 0 [] pw) (get_or-map block_of ids q 0 [] qw) ∙ law (key weights (here p)) (key weights (here q)) alike

  only : (p q : ℕ) → p < length ids → q < length ids → compare_by by_keys weights (here p) (here q) ≡ Equal → p ≡ q
  only p q pw qw e =
      let store = s (omega (arith, pw)) in
      let same_trees = (order h.arity).equal_only h.leaves (here p) (here q) (is_tree p pw) (is_tree q qw) e in
      let same_ids = one_place trees (slice_index ids p) (slice_index ids q) (leaf 0) store.distinct (is_held p pw) (is_held q qw) same_trees in
      one_place ids p q 0 distinct pw qw same_ids

  pub trees_rise : (blocks : List (List ℕ)) (positions : List ℕ) → blocks ≡ map block_of ids → IsPermutation (range_with_len 0 (length blocks)) positions
      → IsSorted (slice_cmp nat_cmp) (map (block_at blocks) positions) → Rise (compare_by by_keys weights) (trees_at trees ids positions)
  trees_rise blocks positions is each up =
      let size = length-map ids block_of in
      let each_now = subst (λ bs. IsPermutation (range_with_len 0 (length bs)) positions) is each in
      let up_now = subst (λ bs. IsSorted (slice_cmp nat_cmp) (map (block_at bs) positions)) is up in
      rising (map block_of ids) here (compare_by by_keys weights) positions (λ p q pw qw. agree p q (omega (arith, size, pw)) (omega (arith, size, qw))) (λ p q pw qw e. only p q (omega (arith, size, pw)) (omega (arith, size, qw)) e) each_now up_now

  pub each_position : (blocks : List (List ℕ)) (positions : List ℕ) → blocks ≡ map block_of ids → IsPermutation (range_with_len 0 (length blocks)) positions → IsPermutation (range_with_len 0 (length ids)) positions
  each_position blocks positions is each = subst (λ n. IsPermutation (range_with_len 0 n) positions) (ap length is ∙ length-map ids block_of) each
