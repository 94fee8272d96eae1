-- The way back keeps grafts, sums over leaves, and insertions.
use Rattle.std.proofs.lemmas.Simd.{map-map}
use Rattle.std.proofs.Common.{◌≡◌, ℕ, zero, suc, ◌+◌, ◌<◌, ◌≤◌, List, [], ◌∷◌, map, length, refl, sym, ◌∙◌, ap, arith, subst}
use mathlib.Core.Path.{ap₂}
use native.Mathlib.Decide.{ℕ_discrete}
use Rattle.labelled_trees.specs.Trees.{Tree, Row, leaf, node, none, more, row, graft, graft_row, width}
use Rattle.labelled_trees.specs.Leaves.{one_if, sum_leaves, sum_row}
use Rattle.labelled_trees.specs.Labelled.{Fits, FitsRow}
use Rattle.labelled_trees.specs.Insertions.{at_zero, put, item}
use Rattle.labelled_trees.proofs.Leaves.{AllLeaves-each}
use Rattle.labelled_trees.proofs.GraftLeaves.{graft_ext}
use Rattle.shuffle_insertions.specs.Listing.{upto}
use Rattle.operad_ideals.specs.Parts.{Part}
use Rattle.shuffle_transfer.specs.Orderings.{IsOrdering}
use Rattle.shuffle_transfer.specs.ShuffleForms.{to_symmetric_row}
use Rattle.shuffle_transfer.specs.Labels.{gen, word, inputs_of, symmetric_tree}
use Rattle.shuffle_transfer.specs.Laws.{FramesBack}
use Rattle.shuffle_transfer.proofs.Permutes.{Picked, now, later, Permutes, done, begin}
use Rattle.shuffle_transfer.proofs.Orderings.{ordering_permutes}
use Rattle.shuffle_transfer.proofs.Ranks.{map_same, items_all}
use Rattle.shuffle_transfer.proofs.Labels.{word_of_label}
use Rattle.labelled_trees.proofs.Grafts.{graft_row-row}
use Rattle.shuffle_transfer.proofs.TreesOfShuffleTrees.{item-map}

-- the items with these numbers, summed: a permutation has the same sum
module _ (us : List (Tree ℕ)) (f : ℕ → ℕ) where
  abbrev sum_items : List ℕ → ℕ
  sum_items v = sum_row (row (map (item us) v)) f

  sum_picked : (x : ℕ) (l r : List ℕ) → Picked x l r → sum_items l ≡ sum_leaves (item us x) f + sum_items r
  sum_picked x l r now = refl
  sum_picked x l r (later y {l = k} {r = s} h) = let e : sum_items k ≡ sum_leaves (item us x) f + sum_items s = sum_picked x k s h in omega (arith, e)

  sum_permuted : (l v : List ℕ) → Permutes l v → sum_items v ≡ sum_items l
  sum_permuted l v done = refl
  sum_permuted l v (begin x {r = r} {v = w} p h) = ap (λ k. sum_leaves (item us x) f + k) (sum_permuted r w h) ∙ sym (sum_picked x l r p)

  sum_ordering : (w : List ℕ) → IsOrdering (length us) w → sum_items w ≡ sum_row (row us) f
  sum_ordering w h = sum_permuted (upto (length us)) w (ordering_permutes (length us) w h) ∙ ap (λ ts. sum_row (row ts) f) (items_all us)

-- the item of a number in range
item_within : (f : Tree ℕ → Tree ℕ) (ts : List (Tree ℕ)) (i : ℕ) → 0 < i → i ≤ length ts → item (map f ts) i ≡ f (item ts i)
item_within f [] i p le = absurd (omega (arith, p, le))
item_within f (t ∷ ts) zero p le = absurd (omega (arith, p))
item_within f (t ∷ ts) (suc zero) p le = refl
item_within f (t ∷ ts) (suc (suc i)) p le = item_within f ts (suc i) (omega arith) (omega (arith, le))

module _ (generators : List (List Part)) where
  abbrev S_row : Row ℕ → List (Tree ℕ)
  S_row = to_symmetric_row (gen generators) (word generators)

  length-back : (r : Row ℕ) → length (S_row r) ≡ width r
  length-back none = refl
  length-back (more t r) = ap suc (length-back r)

  word_at : (l : ℕ) (r : Row ℕ) → 2 ≤ inputs_of generators l → width r ≡ inputs_of generators l → IsOrdering (length (S_row r)) (word generators l)
  word_at l r h e = subst (λ m. IsOrdering m (word generators l)) (sym (length-back r ∙ e)) ((word_of_label generators l h).ordering)

  mutual
    pub back-graft : (t : Tree ℕ) (s : ℕ → Tree ℕ) → Fits (inputs_of generators) t → symmetric_tree generators (graft t s) ≡ graft (symmetric_tree generators t) (λ i. symmetric_tree generators (s i))
    back-graft (leaf n) s h = refl
    back-graft (node l r) s h =
        let o = word_at l r h.0 h.1 in
        ap (λ us. node (gen generators l) (row (map (item us) (word generators l)))) (back-graft_row r s h.2)
        ∙ ap (λ us. node (gen generators l) (row us))
        (map_same (item (map (λ u. graft u (λ i. symmetric_tree generators (s i))) (S_row r))) (λ i. graft (item (S_row r) i) (λ j. symmetric_tree generators (s j))) (word generators l)
        (λ i m. let k = o.within i m in item_within (λ u. graft u (λ j. symmetric_tree generators (s j))) (S_row r) i k.0 k.1)
        ∙ sym (map-map (λ u. graft u (λ j. symmetric_tree generators (s j))) (item (S_row r)) (word generators l)))
        ∙ ap (node (gen generators l)) (sym (graft_row-row (map (item (S_row r)) (word generators l)) (λ j. symmetric_tree generators (s j))))

    back-graft_row : (r : Row ℕ) (s : ℕ → Tree ℕ) → FitsRow (inputs_of generators) r → S_row (graft_row r s) ≡ map (λ u. graft u (λ i. symmetric_tree generators (s i))) (S_row r)
    back-graft_row none s h = refl
    back-graft_row (more t r) s h = ap₂ (λ u us. u ∷ us) (back-graft t s h.0) (back-graft_row r s h.1)

  mutual
    pub back-sum : (t : Tree ℕ) (f : ℕ → ℕ) → Fits (inputs_of generators) t → sum_leaves (symmetric_tree generators t) f ≡ sum_leaves t f
    back-sum (leaf n) f h = refl
    back-sum (node l r) f h = sum_ordering (S_row r) f (word generators l) (word_at l r h.0 h.1) ∙ back-sum_row r f h.2

    back-sum_row : (r : Row ℕ) (f : ℕ → ℕ) → FitsRow (inputs_of generators) r → sum_row (row (S_row r)) f ≡ sum_row r f
    back-sum_row none f h = refl
    back-sum_row (more t r) f h = ap₂ (λ a b. a + b) (back-sum t f h.0) (back-sum_row r f h.1)

  back-at_zero : (x : Tree ℕ) (i : ℕ) → at_zero (symmetric_tree generators x) i ≡ symmetric_tree generators (at_zero x i)
  back-at_zero x zero = refl
  back-at_zero x (suc i) = refl

  back-put : (c x : Tree ℕ) → Fits (inputs_of generators) c → put (symmetric_tree generators c) (symmetric_tree generators x) ≡ symmetric_tree generators (put c x)
  back-put c x h =
      graft_ext (symmetric_tree generators c) (at_zero (symmetric_tree generators x)) (λ i. symmetric_tree generators (at_zero x i))
      (AllLeaves-each (symmetric_tree generators c) (λ i. at_zero (symmetric_tree generators x) i ≡ symmetric_tree generators (at_zero x i)) (back-at_zero x))
      ∙ sym (back-graft c (at_zero x) h)

pub frames_back : FramesBack
frames_back generators f x hf hx = (
  back-sum generators f.hole (λ n. one_if (ℕ_discrete n 0)) hf,
  ap (put (symmetric_tree generators f.hole))
      (graft_ext (symmetric_tree generators x) (item (map (symmetric_tree generators) f.inputs)) (λ i. symmetric_tree generators (item f.inputs i))
      (AllLeaves-each (symmetric_tree generators x) (λ i. item (map (symmetric_tree generators) f.inputs) i ≡ symmetric_tree generators (item f.inputs i)) (λ i. item-map (symmetric_tree generators) refl f.inputs i))
      ∙ sym (back-graft generators x (item f.inputs) hx))
      ∙ back-put generators f.hole (graft x (item f.inputs)) hf,
)
