-- Ids that stand once each are few.
use Rattle.std.proofs.Common.{◌≡◌, ℕ, ◌<◌, ◌≤◌, zero, suc, List, [], ◌∷◌, length, map, refl, sym, ap, arith, subst, Option, Some, slice_get, inl, inr, ◌⊎◌}
use native.Mathlib.Decide.{ℕ_discrete}
use Rattle.std.specs.List.{All}
use Rattle.std.proofs.lemmas.List.{length-map}
use Rattle.std.proofs.lemmas.List.Elements.{All-head, All-tail}
use Rattle.modular_sums.specs.Lists.{Mem, Distinct}
use Rattle.labelled_trees.specs.Trees.{Tree, leaf}
use Rattle.labelled_trees.proofs.Fitting.{some_leaf}
use Rattle.shuffle_insertions.specs.ShuffleTrees.{IsShuffle, IsShuffleTree}
use Rattle.shuffle_insertions.specs.Counting.{most_trees}
use Rattle.shuffle_insertions.specs.Listing.{all_trees}
use Rattle.shuffle_insertions.proofs.Laws.{listed}
use Rattle.shuffle_trees.specs.LabelLists.{arity_in}
use Rattle.shuffle_trees.proofs.Arities.{are_labels}
use Rattle.shuffle_trees.proofs.Counts.{count_of_shuffle}
use Rattle.tree_store.specs.Stores.{tree_at}
use Rattle.tree_store.proofs.Trees.{one_place, place_of}
use Rattle.shuffle_sums.specs.Sorting.{AreOfOneArity}
use Rattle.shuffle_sums.specs.Shelves.{Shelf, IsShelf}
use Rattle.shuffle_sums.proofs.FewTrees.{no_longer}
use Rattle.division.specs.Gathered.{ArePlaces}
use Rattle.division.proofs.MadeTrees.{held_belongs}

-- ids with places stand once each
pub distinct_places : (places : List (Option ℕ)) (ids : List ℕ) → ArePlaces places ids → Distinct ids
distinct_places places ids h = once ids (λ p q x e f. let a = h.to x p e in let b = h.to x q f in cc (a, b))
  where
    placed : (x : ℕ) (l : List ℕ) → Mem x l → (k : ℕ) × (slice_get l k ≡ Some x)
    placed x [] m = absurd m
    placed x (y ∷ l) (inl e) = (0, ap Some (sym e))
    placed x (y ∷ l) (inr m) = let p = placed x l m in (suc p.0, p.1)

    zero_suc : (k : ℕ) → zero ≡ suc k → ⊥
    zero_suc k e = cc e

    less : (j k : ℕ) → suc j ≡ suc k → j ≡ k
    less j k e = cc e

    once : (l : List ℕ) → ((p q x : ℕ) → slice_get l p ≡ Some x → slice_get l q ≡ Some x → p ≡ q) → Distinct l
    once [] h = tt
    once (y ∷ l) h = (λ m. let p = placed y l m in zero_suc p.0 (h 0 (suc p.0) y refl p.1), once l (λ p q x e f. less p q (h (suc p) (suc q) x e f)))

-- the numbers below n
abbrev below : ℕ → List ℕ
below zero = []
below (suc n) = n ∷ below n

length-below : (n : ℕ) → length (below n) ≡ n
length-below zero = refl
length-below (suc n) = ap suc (length-below n)

mem_below : (n x : ℕ) → x < n → Mem x (below n)
mem_below zero x h = absurd (omega arith)
mem_below (suc n) x h = by (ℕ_discrete x n) (mem_below n x)
  where
    by : Dec (x ≡ n) → (x < n → Mem x (below n)) → (x ≡ n) ⊎ Mem x (below n)
    by (yes e) rest = inl e
    by (no f) rest = inr (rest (omega (arith, h, f)))

-- ids below n with places are at most n
pub few_places : (places : List (Option ℕ)) (ids : List ℕ) (n : ℕ) → ArePlaces places ids → All (λ i. i < n) ids → length ids ≤ n
few_places places ids n h low =
    subst (λ k. length ids ≤ k) (length-below n)
    (no_longer ids (below n) (distinct_places places ids h) (λ x m. mem_below n x (let p = place_of ids x 0 m in subst (λ i. i < n) p.2 (low p.0 0 p.1))))

-- ---- ids of one arity

-- the trees of different ids are different
distinct_trees : (trees : List (Tree ℕ)) (ids : List ℕ) → Distinct trees → Distinct ids → All (λ i. i < length trees) ids → Distinct (map (tree_at trees) ids)
distinct_trees trees [] d e h = tt
distinct_trees trees (i ∷ ids) d e h = (
  λ m. e.0 (back ids (All-tail (λ j. j < length trees) i ids h) m),
  distinct_trees trees ids d e.1 (All-tail (λ j. j < length trees) i ids h),
)
  where
    low : i < length trees
    low = All-head (λ j. j < length trees) i ids h

    back : (l : List ℕ) → All (λ j. j < length trees) l → Mem (tree_at trees i) (map (tree_at trees) l) → Mem i l
    back [] k m = absurd m
    back (j ∷ l) k (inl s) = inl (one_place trees i j (leaf 0) d low (All-head (λ n. n < length trees) j l k) s)
    back (j ∷ l) k (inr m) = inr (back l (All-tail (λ n. n < length trees) j l k) m)

-- what is in the list of the trees of ids is the tree of one
tree_of_id : (trees : List (Tree ℕ)) (P : ℕ → Type 0) (ids : List ℕ) → All P ids → (t : Tree ℕ) → Mem t (map (tree_at trees) ids) → (i : ℕ) × P i × (t ≡ tree_at trees i)
tree_of_id trees P [] h t m = absurd m
tree_of_id trees P (i ∷ ids) h t (inl e) = (i, All-head P i ids h, e)
tree_of_id trees P (i ∷ ids) h t (inr m) = tree_of_id trees P ids (All-tail P i ids h) t m

module _ (shelf : Shelf) (is_shelf : IsShelf shelf) (n : ℕ) where
  -- the id of a tree of arity n
  abbrev IsOfArity : ℕ → Type 0
  IsOfArity i = (i < length shelf.trees) × IsShuffle n (tree_at shelf.trees i)

  shuffle_tree : (i : ℕ) → IsOfArity i → IsShuffleTree (arity_in shelf.labels) n (tree_at shelf.trees i)
  shuffle_tree i h = record { fits = (held_belongs shelf i is_shelf h.0).fits; shuffle = h.1 }

  -- a tree of the shelf has a leaf, and no more leaves than the shelf's greatest number
  arity_within : (i : ℕ) → IsOfArity i → (1 ≤ n) × (n ≤ shelf.most)
  arity_within i h =
      let b = held_belongs shelf i is_shelf h.0 in
      let some = some_leaf (arity_in shelf.labels) (tree_at shelf.trees i) b.fits in
      let count = count_of_shuffle n (tree_at shelf.trees i) h.1 in
      let one : 1 ≤ n = omega (arith, some, count) in
      let last = h.1.each n (omega (arith, one)) (omega arith) in
      (one, (b.among n (omega (arith, last))).1)

  few_of_arity : (ids : List ℕ) → Distinct ids → All IsOfArity ids → length ids ≤ most_trees
  few_of_arity [] d h = omega arith
  few_of_arity (i ∷ ids) d h =
      let within = arity_within i (All-head IsOfArity i ids h) in
      let all = listed (length shelf.labels) (arity_in shelf.labels) (are_labels shelf.labels is_shelf.labels_are) n in
      let fewer = no_longer (map (tree_at shelf.trees) (i ∷ ids)) (all_trees (length shelf.labels) (arity_in shelf.labels) n)
      (distinct_trees shelf.trees (i ∷ ids) is_shelf.store.distinct d (λ k e lt. (h k e lt).0))
      (λ t m. let q = tree_of_id shelf.trees IsOfArity (i ∷ ids) h t m in
      all.0.each t (subst (IsShuffleTree (arity_in shelf.labels) n) (sym q.2) (shuffle_tree q.0 q.1))) in
      let size = length-map (i ∷ ids) (tree_at shelf.trees) in
      let most = is_shelf.few n within.0 within.1 in
      omega (arith, fewer, size, all.1, most)

-- the same where nothing else says the arity
pub few_of_one_arity : (shelf : Shelf) (ids : List ℕ) → IsShelf shelf → Distinct ids → AreOfOneArity shelf.trees ids → length ids ≤ most_trees
few_of_one_arity shelf ids h d are = few_of_arity shelf h are.leaves ids d (λ k e lt. (are.held k e lt, (are.are k e lt).shuffle))
