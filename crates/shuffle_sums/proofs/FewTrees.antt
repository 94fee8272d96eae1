-- Trees over labels whose leaves are different numbers from 1 to 9 are fewer than 2^31, where each arity has few shuffle trees.
use Rattle.std.proofs.Common.{◌≡◌, ℕ, zero, suc, ◌+◌, ◌-◌, ◌*◌, ◌^◌, ◌<◌, ◌≤◌, List, [], ◌∷◌, length, refl, ap, sym, ◌∙◌, subst, arith, ◌⊎◌, inl, inr, length-append}
use native.Mathlib.Decide.{ℕ_discrete, dec_lt}
use Rattle.std.proofs.Math.Nat.{pow-succ'}
use Rattle.modular_sums.specs.Lists.{Mem, Distinct}
use Rattle.modular_sums.proofs.Lists.{mem_either, mem_left, mem_right}
use Rattle.labelled_trees.specs.Labelled.{Fits, FitsRow}
use Rattle.labelled_trees.specs.Trees.{Tree, Row, leaf, node, none, more, inputs, vertices}
use Rattle.labelled_trees.specs.Leaves.{occurs}
use Rattle.labelled_trees.specs.Equality.{tree_discrete, row_discrete}
use Rattle.labelled_trees.proofs.Leaves.{one_if-no}
use Rattle.shuffle_insertions.specs.Labels.{AreLabels}
use Rattle.shuffle_insertions.specs.Listing.{joined_splits, shuffles, upto}
use Rattle.shuffle_insertions.specs.Counting.{HaveFewTrees, most_trees, tree_count}
use Rattle.shuffle_insertions.proofs.Counted.{times_mem}
use Rattle.shuffle_insertions.proofs.Counting.{enough_levels, length_shuffles, length-upto}
use Rattle.shuffle_insertions.proofs.Listing.{Good, each_good, first_of}
use Rattle.shuffle_insertions.proofs.Splits.{Split, done, left, right, count, left_rises, split_length}
use Rattle.shuffle_insertions.proofs.Upto.{upto_count, upto_rises}
use Rattle.shuffle_trees.specs.LabelLists.{AreFew, arity_in}
use Rattle.shuffle_trees.proofs.Arities.{are_labels}
use Rattle.shuffle_trees.proofs.Counts.{few_vertices}
use Rattle.shuffle_trees.proofs.ListedTrees.{shuffle_valid}
use Rattle.tree_store.specs.Stores.{IsStore, IsSubtree, IsSubtreeOfRow, AddsSubtrees, LacksSubtree}
use Rattle.tree_store.proofs.Subtrees.{valid_input}
use Rattle.shuffle_sums.specs.Shelves.{Shelf, IsShelf, HasLeavesAmong, FitsShelf}
use Rattle.shuffle_sums.proofs.Rooms.{fewer_in_input}

-- ---- lists without repetition

-- the list without one of its members
record Without {X : Type 0} (x : X) (l : List X) : Type 0 where
  rest : List X
  size : length l ≡ suc (length rest)
  others : (y : X) → Mem y l → (y ≡ x → ⊥) → Mem y rest

without : {X : Type 0} (x : X) (l : List X) → Mem x l → Without x l
without x [] m = absurd m
without {X} x (y ∷ l) (inl e) = record { rest = l; size = refl; others = others }
  where
    others : (z : X) → (z ≡ y) ⊎ Mem z l → (z ≡ x → ⊥) → Mem z l
    others z (inl q) f = absurd (f (q ∙ sym e))
    others z (inr m) f = m
without {X} x (y ∷ l) (inr m) = go (without x l m)
  where
    go : Without x l → Without x (y ∷ l)
    go w = record { rest = y ∷ w.rest; size = ap suc w.size; others = others }
      where
        others : (z : X) → (z ≡ y) ⊎ Mem z l → (z ≡ x → ⊥) → (z ≡ y) ⊎ Mem z w.rest
        others z (inl q) f = inl q
        others z (inr k) f = inr (w.others z k f)

-- a list without repetition isn't longer than one that has its members
pub no_longer : {X : Type 0} (k l : List X) → Distinct k → ((x : X) → Mem x k → Mem x l) → length k ≤ length l
no_longer [] l d h = omega arith
no_longer (x ∷ k) l d h =
    let w = without x l (h x (inl refl)) in
    let rest = no_longer k w.rest d.1 (λ y m. w.others y (h y (inr m)) (λ e. d.0 (subst (λ z. Mem z k) e m))) in
    omega (arith, rest, w.size)

-- ---- ways to divide a list

-- what is listed for one way stands among what is listed for all
mem_splits : {X : Type 0} {l b c : List ℕ} (x : X) (f : List ℕ → List ℕ → List X) → Split l b c → Mem x (f b c) → Mem x (joined_splits l f)
mem_splits x f done m = m
mem_splits x f (left {x = y} {l = l} s) m = mem_left x (joined_splits l (λ b c. f (y ∷ b) c)) (joined_splits l (λ b c. f b (y ∷ c))) (mem_splits x (λ b c. f (y ∷ b) c) s m)
mem_splits x f (right {x = y} {l = l} s) m = mem_right x (joined_splits l (λ b c. f (y ∷ b) c)) (joined_splits l (λ b c. f b (y ∷ c))) (mem_splits x (λ b c. f b (y ∷ c)) s m)

-- where at most m things are listed for each way, there are at most 2^n times m in all
length_splits : {X : Type 0} (l : List ℕ) (m : ℕ) (f : List ℕ → List ℕ → List X) → ((b c : List ℕ) → Split l b c → length (f b c) ≤ m) → length (joined_splits l f) ≤ 2 ^ length l * m
length_splits [] m f h = let k = h [] [] done in omega (arith, k)
length_splits (x ∷ l) m f h =
    let one = length_splits l m (λ b c. f (x ∷ b) c) (λ b c s. h (x ∷ b) c (left s)) in
    let other = length_splits l m (λ b c. f b (x ∷ c)) (λ b c s. h b (x ∷ c) (right s)) in
    let both = length-append (joined_splits l (λ b c. f (x ∷ b) c)) (joined_splits l (λ b c. f b (x ∷ c))) in
    let double : (k : ℕ) → 2 * k * m ≡ k * m + k * m = λ k. omega arith in
    let twice : 2 ^ suc (length l) * m ≡ 2 ^ length l * m + 2 ^ length l * m = ap (λ k. k * m) (pow-succ' 2 (length l)) ∙ double (2 ^ length l) in
    omega (arith, one, other, both, twice)

-- The part of a list where p isn't 0.
record Chosen (p : ℕ → ℕ) (l : List ℕ) : Type 0 where
  first : List ℕ
  second : List ℕ
  split : Split l first second
  in_part : (i : ℕ) → 0 < p i → count i first ≡ count i l
  out_of_part : (i : ℕ) → (0 < p i → ⊥) → count i first ≡ 0

choose_next : (p : ℕ → ℕ) (x : ℕ) (l : List ℕ) → Dec (0 < p x) → Chosen p l → Chosen p (x ∷ l)
choose_next p x l (yes h) c = record {
  first = x ∷ c.first;
  second = c.second;
  split = left c.split;
  in_part = λ i k. let e = c.in_part i k in omega (arith, e);
  out_of_part = λ i k. let e = c.out_of_part i k in let z = one_if-no (ℕ_discrete x i) (λ q. k (subst (λ j. 0 < p j) q h)) in omega (arith, e, z);
}
choose_next p x l (no h) c = record {
  first = c.first;
  second = x ∷ c.second;
  split = right c.split;
  in_part = λ i k. let e = c.in_part i k in let z = one_if-no (ℕ_discrete x i) (λ q. h (subst (λ j. 0 < p j) (sym q) k)) in omega (arith, e, z);
  out_of_part = c.out_of_part;
}

chosen : (p : ℕ → ℕ) (l : List ℕ) → Chosen p l
chosen p [] = record { first = []; second = []; split = done; in_part = λ i k. refl; out_of_part = λ i k. refl }
chosen p (x ∷ l) = choose_next p x l (dec_lt 0 (p x)) (chosen p l)

-- ---- trees with leaves among 1 to n

module _ (labels : List ℕ) (few : AreFew labels) (n levels : ℕ) (enough : n ≤ levels) where
  abbrev are : AreLabels (length labels) (arity_in labels)
  are = are_labels labels few

  -- for each part of 1 to n, the shuffle trees over it
  abbrev listed : List (Tree ℕ)
  listed = joined_splits (upto n) (λ b c. shuffles (length labels) (arity_in labels) levels b)

  -- the counts of a tree are those of its part of 1 to n
  counts_by : (t : Tree ℕ) → HasLeavesAmong labels n t → (c : Chosen (λ i. occurs i t) (upto n)) (i : ℕ) → Dec (0 < occurs i t) → occurs i t ≡ count i c.first
  counts_by t h c i (yes o) =
      let w = h.among i o in
      let one = (upto_count n i).0 w.0 w.1 in
      let same = c.in_part i o in
      let once = h.valid.once i in
      omega (arith, one, same, once, o)
  counts_by t h c i (no z) = let e = c.out_of_part i z in omega (arith, e, z)

  -- each tree is listed
  is_listed : (t : Tree ℕ) → HasLeavesAmong labels n t → vertices t < levels → Mem t listed
  is_listed t h v =
      let c = chosen (λ i. occurs i t) (upto n) in
      let rises = left_rises c.split (upto_rises n) in
      let counts : (i : ℕ) → occurs i t ≡ count i c.first = λ i. counts_by t h c i (dec_lt 0 (occurs i t)) in
      let f = first_of c.first (more t none) rises (h.valid.rising, tt, tt) tt (λ i. let e = counts i in omega (arith, e)) in
      let good : Good (arity_in labels) c.first t = record { rising = h.valid.rising; belongs = h.fits; counts = counts; others = f.0; first_is = f.1 } in
      let one = each_good (length labels) (arity_in labels) are tree_discrete row_discrete levels c.first t rises good v in
      mem_splits t (λ b c. shuffles (length labels) (arity_in labels) levels b) c.split (times_mem tree_discrete t (shuffles (length labels) (arity_in labels) levels c.first) (omega (arith, one)))

  module _ (small : HaveFewTrees (length labels) (arity_in labels) n) where
    few_on : (m : ℕ) → m ≤ n → tree_count (length labels) (arity_in labels) levels m ≤ most_trees
    few_on zero h = subst (λ k. k ≤ most_trees) (sym (enough_levels (length labels) (arity_in labels) are levels 0 0 (omega arith) (omega arith))) (omega arith)
    few_on (suc m) h = subst (λ k. k ≤ most_trees) (sym (enough_levels (length labels) (arity_in labels) are levels (suc m) (suc m) (omega arith) (omega arith))) (small (suc m) (omega arith) h)

    -- the list isn't long
    few_listed : length listed ≤ 2 ^ length (upto n) * most_trees
    few_listed = length_splits (upto n) most_trees (λ b c. shuffles (length labels) (arity_in labels) levels b) (λ b c s.
        let size = split_length s in
        let all = length-upto n in
        subst (λ k. k ≤ most_trees) (sym (length_shuffles (length labels) (arity_in labels) levels b)) (few_on (length b) (omega (arith, size, all))))

    few_held : (held : List (Tree ℕ)) → Distinct held → ((t : Tree ℕ) → Mem t held → HasLeavesAmong labels n t × (vertices t < levels)) → length held ≤ 2 ^ n * most_trees
    few_held held d h =
        let within = no_longer held listed d (λ t m. let k = h t m in is_listed t k.0 k.1) in
        let most = subst (λ k. length listed ≤ 2 ^ k * most_trees) (length-upto n) few_listed in
        omega (arith, within, most)

-- parts of 1 to n, for n up to 9
few_parts : (n : ℕ) → n ≤ 9 → 2 ^ n ≤ 512
few_parts n h = few_below n (9 - n) (omega (arith, h))
  where
    few_below : (n others : ℕ) → n + others ≡ 9 → 2 ^ n ≤ 512
    few_below n zero e = let same : n ≡ 9 = omega (arith, e) in subst (λ k. 2 ^ k ≤ 512) (sym same) (omega arith)
    few_below n (suc others) e =
        let above = few_below (suc n) others (omega (arith, e)) in
        let twice = pow-succ' 2 n in
        omega (arith, above, twice)

-- different trees over few labels, whose leaves are different numbers from 1 to n, are fewer than 2^31
pub fewer_held : (labels : List ℕ) (n : ℕ) (held : List (Tree ℕ)) → AreFew labels → n ≤ 9 → HaveFewTrees (length labels) (arity_in labels) n → Distinct held → ((t : Tree ℕ) → Mem t held → HasLeavesAmong labels n t)
    → length held < 2 ^ 31
fewer_held labels n held few nine small d h =
    let most = few_held labels few n 255 (omega (arith, nine)) small held d (λ t m. let k = h t m in (k, few_vertices t k.valid)) in
    let parts = few_parts n nine in
    omega (arith, most, parts)

-- ---- trees of a shelf

fits_input : (arity : ℕ → ℕ) (r : Row ℕ) (t : Tree ℕ) → Mem t (inputs r) → FitsRow arity r → Fits arity t
fits_input arity none t m h = absurd m
fits_input arity (more u r) t (inl e) h = subst (Fits arity) (sym e) h.0
fits_input arity (more u r) t (inr m) h = fits_input arity r t m h.1

module _ (labels : List ℕ) (n : ℕ) where
  among_input : (l : ℕ) (r : Row ℕ) (t : Tree ℕ) → HasLeavesAmong labels n (node l r) → Mem t (inputs r) → HasLeavesAmong labels n t
  among_input l r t h m = record {
    fits = fits_input (arity_in labels) r t m h.fits.2;
    valid = valid_input l r t h.valid m;
    among = λ i o. let few = fewer_in_input r t i m in h.among i (omega (arith, few, o));
  }

  mutual
    -- a subtree of a tree that belongs to the labels, with leaves among 1 to n, is one too
    pub among_subtree : (t u : Tree ℕ) → IsSubtree u t → HasLeavesAmong labels n t → HasLeavesAmong labels n u
    among_subtree (leaf i) u e h = subst (HasLeavesAmong labels n) (sym e) h
    among_subtree (node l r) u (inl e) h = subst (HasLeavesAmong labels n) (sym e) h
    among_subtree (node l r) u (inr s) h = among_below r u s (λ t m. among_input l r t h m)

    among_below : (r : Row ℕ) (u : Tree ℕ) → IsSubtreeOfRow u r → ((t : Tree ℕ) → Mem t (inputs r) → HasLeavesAmong labels n t) → HasLeavesAmong labels n u
    among_below none u s h = absurd s
    among_below (more t r) u (inl s) h = among_subtree t u s (h t (inl refl))
    among_below (more t r) u (inr s) h = among_below r u s (λ v m. h v (inr m))

  -- a store with the subtrees of such a tree
  pub among_added : (old new : List (Tree ℕ)) (t : Tree ℕ) → ((u : Tree ℕ) → Mem u old → HasLeavesAmong labels n u) → HasLeavesAmong labels n t → AddsSubtrees old new t → (u : Tree ℕ) → Mem u new → HasLeavesAmong labels n u
  among_added old new t h k a u m = either (mem_either u old a.0 (subst (Mem u) a.1 m))
    where
      either : Mem u old ⊎ Mem u a.0 → HasLeavesAmong labels n u
      either (inl i) = h u i
      either (inr i) = among_subtree t u (a.2 u i) k

-- a tree for a shelf has leaves among 1 to the greatest number
pub among_of_fits : (shelf : Shelf) (t : Tree ℕ) → shelf.most ≤ 9 → FitsShelf shelf t → HasLeavesAmong shelf.labels shelf.most t
among_of_fits shelf t nine w = record {
  fits = w.2.fits;
  valid = shuffle_valid (arity_in shelf.labels) w.0 t (omega (arith, nine, w.1)) w.2;
  among = λ i o. let k = w.2.shuffle.only i o in (k.0, omega (arith, k.1, w.1));
}

-- where the subtrees of a tree for a shelf were put, there is room for all of them
pub has_room : (shelf : Shelf) (now : List (Tree ℕ)) (t : Tree ℕ) → IsShelf shelf → IsStore now → HasLeavesAmong shelf.labels shelf.most t → AddsSubtrees shelf.trees now t → LacksSubtree now t → ⊥
has_room shelf now t shown store belongs added lacks =
    let fewer = fewer_held shelf.labels shelf.most now shown.labels_are shown.nine shown.few store.distinct (among_added shelf.labels shelf.most shelf.trees now t shown.among belongs added) in
    omega (arith, fewer, lacks.0)
