-- How many vertices a tree has, and how many leaves it can have.
use Rattle.std.proofs.Common.{◌≡◌, ℕ, zero, suc, ◌+◌, ◌<◌, ◌≤◌, List, [], ◌∷◌, length, map, get_or, replicate, refl, ap, sym, ◌∙◌, subst, arith}
use Rattle.std.specs.List.{sum_by}
use Rattle.std.proofs.lemmas.List.{get_or-replicate, get_or_past}
use Rattle.std.proofs.lemmas.List.Sums.{sum_by-cons, get_or-le-sum_by}
use native.Mathlib.Decide.{ℕ_discrete, dec_lt}
use Rattle.labelled_trees.specs.Trees.{Tree, Row, leaf, node, none, more, row, width, vertices, vertices_row}
use Rattle.labelled_trees.specs.Leaves.{AllLeaves, occurs, leaf_count, leaf_count_row}
use Rattle.labelled_trees.specs.Meaning.{tree_of}
use Rattle.labelled_trees.specs.declared.Tree as program
use Rattle.labelled_trees.specs.declared.Tree.TheVariants.{Node}
use Rattle.labelled_trees.proofs.ProgramTrees.{tree_of-node}
use Rattle.labelled_trees.proofs.Leaves.{sum_leaves-same, by_leaf, at_leaf}
use Rattle.labelled_trees.proofs.Counts.{is_label, is_label-one, labels_upto, labels_upto-each, sum_leaves-is_label}
use Rattle.shuffle_insertions.specs.ShuffleTrees.{IsShuffle}
use Rattle.shuffle_trees.specs.ValidTrees.{IsWide, AreWide, IsValid}

vertices_row-row : (ts : List program.Tree) → vertices_row (row (map tree_of ts)) ≡ sum_by (λ t. vertices (tree_of t)) ts
vertices_row-row [] = refl
vertices_row-row (t ∷ ts) = ap (λ n. vertices (tree_of t) + n) (vertices_row-row ts) ∙ sym (sum_by-cons (λ u. vertices (tree_of u)) t ts)

pub vertices-node : (g : ℕ) (ts : List program.Tree) → vertices (tree_of (Node g ts)) ≡ suc (sum_by (λ t. vertices (tree_of t)) ts)
vertices-node g ts = ap vertices (tree_of-node g ts) ∙ ap suc (vertices_row-row ts)

-- an input has fewer vertices
pub fewer_inside : (g : ℕ) (ts : List program.Tree) (i : ℕ) (t : program.Tree) → i < length ts → t ≡ get_or ts i t → vertices (tree_of t) < vertices (tree_of (Node g ts))
fewer_inside g ts i t lt e =
    let part = get_or-le-sum_by (λ (u : program.Tree). vertices (tree_of u)) ts i t lt in
    let here : vertices (tree_of t) ≡ vertices (tree_of (get_or ts i t)) = ap (λ (u : program.Tree). vertices (tree_of u)) e in
    omega (arith, part, here, vertices-node g ts)

mutual
  -- a wide tree has fewer vertices than leaves
  pub fewer_vertices : (t : Tree ℕ) → IsWide t → vertices t < leaf_count t
  fewer_vertices (leaf n) h = omega arith
  fewer_vertices (node l r) h = omega (arith, fewer_vertices_row r h.1, h.0)

  fewer_vertices_row : (r : Row ℕ) → AreWide r → vertices_row r + width r ≤ leaf_count_row r
  fewer_vertices_row none h = omega arith
  fewer_vertices_row (more t r) h = omega (arith, fewer_vertices t h.0, fewer_vertices_row r h.1)

few_labels : (n : ℕ) (t : Tree ℕ) → ((i : ℕ) → occurs i t ≤ 1) → labels_upto n t ≤ n
few_labels zero t h = omega arith
few_labels (suc n) t h = omega (arith, few_labels n t h, h (suc n))

-- a valid tree has at most 255 leaves, and fewer vertices
pub few_leaves : (t : Tree ℕ) → IsValid t → leaf_count t ≤ 255
few_leaves t h =
    let ones = sum_leaves-same t (λ x. 1) (is_label 255) (by_leaf t (λ x. 1 ≡ is_label 255 x) (λ i o. let w = h.only i o in sym (is_label-one 255 i w.0 (omega (arith, w.1))))) in
    omega (arith, ones, sum_leaves-is_label 255 t, few_labels 255 t h.once)

pub few_vertices : (t : Tree ℕ) → IsValid t → vertices t < 255
few_vertices t h = omega (arith, few_leaves t h, fewer_vertices t h.wide)

abbrev zeros : List ℕ
zeros = replicate 256 0

pub no_times : (k : ℕ) → get_or zeros k 0 ≡ 0
no_times k = go (dec_lt k 256)
  where
    go : Dec (k < 256) → get_or zeros k 0 ≡ 0
    go (yes lt) = get_or-replicate {A = ℕ} 256 k 0 0 lt
    go (no ge) = get_or_past zeros k 0 (let n : length zeros ≡ 256 = refl in omega (arith, ge, n))

-- ---- a valid tree whose leaves are 1 to their number

one_by : (n i : ℕ) (t : Tree ℕ) → labels_upto n t ≤ n → occurs (suc n) t ≤ 1 → labels_upto n t + occurs (suc n) t ≡ suc n → (labels_upto n t ≡ n → i ≤ n → occurs i t ≡ 1) → i ≤ suc n → Dec (i ≡ suc n) → occurs i t ≡ 1
one_by n i t few o e below le (yes s) = subst (λ j. occurs j t ≡ 1) (sym s) (omega (arith, few, o, e))
one_by n i t few o e below le (no d) = below (omega (arith, few, o, e)) (omega (arith, le, d))

one_more : (n : ℕ) (t : Tree ℕ) → ((i : ℕ) → occurs i t ≤ 1) → labels_upto n t ≡ n → (i : ℕ) → 0 < i → i ≤ n → occurs i t ≡ 1
one_more zero t h e i p le = absurd (omega (arith, p, le))
one_more (suc n) t h e i p le = one_by n i t (few_labels n t h) (h (suc n)) e (λ k l. one_more n t h k i p l) le (ℕ_discrete i (suc n))

pub shuffle_by_count : (t : Tree ℕ) → IsValid t → AllLeaves t (λ i. i ≤ leaf_count t) → IsShuffle (leaf_count t) t
shuffle_by_count t v within =
    let n = leaf_count t in
    let ones = sum_leaves-same t (λ x. 1) (is_label n) (by_leaf t (λ x. 1 ≡ is_label n x) (λ i o. let w = v.only i o in sym (is_label-one n i w.0 (at_leaf t (λ j. j ≤ n) i within o)))) in
    let all : labels_upto n t ≡ n = sym (ones ∙ sum_leaves-is_label n t) in
    record { rising = v.rising; each = one_more n t v.once all; only = λ i o. let w = v.only i o in (w.0, at_leaf t (λ j. j ≤ n) i within o) }

-- a shuffle tree of arity n has n leaves
pub count_of_shuffle : (n : ℕ) (t : Tree ℕ) → IsShuffle n t → leaf_count t ≡ n
count_of_shuffle n t h =
    let ones = sum_leaves-same t (λ x. 1) (is_label n) (by_leaf t (λ x. 1 ≡ is_label n x) (λ i o. let w = h.only i o in sym (is_label-one n i w.0 w.1))) in
    ones ∙ sum_leaves-is_label n t ∙ labels_upto-each n t h.each

pub within_of_shuffle : (n : ℕ) (t : Tree ℕ) → IsShuffle n t → AllLeaves t (λ i. i ≤ leaf_count t)
within_of_shuffle n t h = by_leaf t (λ i. i ≤ leaf_count t) (λ i o. let w = h.only i o in let c = count_of_shuffle n t h in omega (arith, w.1, c))
