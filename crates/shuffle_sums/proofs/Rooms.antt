-- Room for the inputs of a vertex.
use Rattle.std.proofs.Common.{◌≡◌, ℕ, suc, ◌+◌, ◌<◌, ◌≤◌, List, [], ◌∷◌, length, map, drop, get_or, refl, ap, sym, ◌∙◌, subst, arith, inl, inr, append_assoc, drop_of_length-le, length-append}
use mathlib.Core.List.{◌++◌, append-nil}
use mathlib.Core.Path.{ap₂}
use native.Mathlib.Decide.{ℕ_discrete}
use Rattle.std.proofs.Math.Seq.{drop-cons}
use Rattle.modular_sums.specs.Lists.{Mem}
use Rattle.modular_sums.proofs.Lists.{mem_map}
use Rattle.labelled_trees.specs.Trees.{Tree, Row, leaf, node, none, more, row, inputs, width, vertices, vertices_row, leaves_row}
use Rattle.labelled_trees.specs.Leaves.{one_if, occurs, occurs_row, leaf_count, leaf_count_row}
use Rattle.labelled_trees.proofs.Rows.{inputs-row}
use Rattle.shuffle_trees.specs.ValidTrees.{IsWide, AreWide, IsValid}
use Rattle.shuffle_trees.proofs.Counts.{fewer_vertices}
use Rattle.tree_store.specs.Stores.{tree_at, IsStore}
use Rattle.tree_store.proofs.Trees.{mem_at}
use Rattle.tree_store.proofs.Counts.{held_valid}
use Rattle.shuffle_trees.proofs.Counts.{count_of_shuffle}
use Rattle.shuffle_insertions.specs.KeyBlocks.{IsSmall}
use Rattle.shuffle_trees.specs.Walks.{vertex_labels, vertex_labels_row}
use Rattle.path_orders.proofs.WordLists.{length-leaves}
use Rattle.shuffle_sums.specs.Spread.{FitsFlatKey}

one_yes : (n : ℕ) (d : Dec (n ≡ n)) → 0 < one_if d
one_yes n (yes _) = omega arith
one_yes n (no f) = absurd (f refl)

-- a small tree has room
pub room_at_root : (t : Tree ℕ) (letters leaves vertices : ℕ) → letters ≡ 0 → leaves ≡ 0 → vertices ≡ 0 → IsSmall t → FitsFlatKey letters leaves vertices t
room_at_root t letters leaves vertices e f g s =
    let count = count_of_shuffle s.leaves t s.shuffle in
    let few = s.few in
    record {
      letters_fit = omega (arith, count, few, e);
      leaves_fit = omega (arith, count, few, f);
      vertices_fit = λ wide. (let fewer = fewer_vertices t wide in omega (arith, count, few, g, fewer));
      numbers_fit = λ i o. (let w = s.shuffle.only i o in omega (arith, w.1, few));
    }

-- the number of a leaf alone
pub leaf_fits : (t : Tree ℕ) (n a b d : ℕ) → t ≡ leaf n → FitsFlatKey a b d t → n ≤ 16
leaf_fits t n a b d e h = h.numbers_fit n (subst (λ u. 0 < occurs n u) (sym e) (one_yes n (ℕ_discrete n n)))

-- a vertex of a valid tree has two or more leaves
pub two_leaves : (t : Tree ℕ) (l : ℕ) (r : Row ℕ) → t ≡ node l r → IsValid t → 2 ≤ leaf_count t
two_leaves t l r e v =
    let many = fewer_vertices (node l r) (subst IsWide e v.wide) in
    let same = ap leaf_count e in
    omega (arith, many, same)

wide_count : (r : Row ℕ) → AreWide r → width r ≤ leaf_count_row r
wide_count none h = omega arith
wide_count (more t r) h = let rest = wide_count r h.1 in let one = fewer_vertices t h.0 in omega (arith, rest, one)

lesser_input : (r : Row ℕ) (t : Tree ℕ) → Mem t (inputs r) → AreWide r → leaf_count t + width r ≤ leaf_count_row r + 1
lesser_input none t m h = absurd m
lesser_input (more u r) t (inl e) h = let rest = wide_count r h.1 in let same = ap leaf_count e in omega (arith, rest, same)
lesser_input (more u r) t (inr m) h = let rest = lesser_input r t m h.1 in let one = fewer_vertices u h.0 in omega (arith, rest, one)

-- a number stands in an input no more often than in the row
pub fewer_in_input : (r : Row ℕ) (t : Tree ℕ) (i : ℕ) → Mem t (inputs r) → occurs i t ≤ occurs_row i r
fewer_in_input none t i m = absurd m
fewer_in_input (more u r) t i (inl e) = let same = ap (occurs i) e in omega (arith, same)
fewer_in_input (more u r) t i (inr m) = let rest = fewer_in_input r t i m in omega (arith, rest)

mutual
  length-labels : (t : Tree ℕ) → length (vertex_labels t) ≡ vertices t
  length-labels (leaf n) = refl
  length-labels (node l r) = ap suc (length-labels_row r)

  length-labels_row : (r : Row ℕ) → length (vertex_labels_row r) ≡ vertices_row r
  length-labels_row none = refl
  length-labels_row (more t r) = length-append (vertex_labels t) (vertex_labels_row r) ∙ ap₂ (λ m n. m + n) (length-labels t) (length-labels_row r)

same_length : (now rest before all : List ℕ) (m n : ℕ) → length rest ≡ m → length all ≡ n → now ++ rest ≡ before ++ all → length now + m ≡ length before + n
same_length now rest before all m n e f same =
    let one = length-append now rest in
    let other = length-append before all in
    let both = ap length same in
    omega (arith, one, other, both, e, f)

-- a vertex of a valid tree with room has room for a label more
pub label_fits : (t : Tree ℕ) (l : ℕ) (r : Row ℕ) (a b d : ℕ) → t ≡ node l r → IsValid t → FitsFlatKey a b d t → d < 15
label_fits t l r a b d e v h = let few = h.vertices_fit v.wide in let same = ap vertices e in omega (arith, few, same)

module _ (trees : List (Tree ℕ)) (ids : List ℕ) where
  abbrev inputs_from : ℕ → Row ℕ
  inputs_from k = row (map (tree_at trees) (drop k ids))

  -- the inputs from a place on, the first of them alone
  pub next_input : (k i : ℕ) → k < length ids → i ≡ get_or ids k i → row (map (tree_at trees) (drop k ids)) ≡ more (tree_at trees i) (row (map (tree_at trees) (drop (k + 1) ids)))
  next_input k i h e =
      let next : suc k ≡ k + 1 = omega arith in
      ap (λ l. row (map (tree_at trees) l)) (drop-cons ids k i h)
      ∙ ap (λ j. more (tree_at trees j) (row (map (tree_at trees) (drop (suc k) ids)))) (sym e)
      ∙ ap (λ m. more (tree_at trees i) (row (map (tree_at trees) (drop m ids)))) next

  input_mem : (k i : ℕ) → k < length ids → i ≡ get_or ids k i → Mem (tree_at trees i) (inputs (row (map (tree_at trees) ids)))
  input_mem k i h e = subst (Mem (tree_at trees i)) (sym (inputs-row (map (tree_at trees) ids)))
      (mem_map (tree_at trees) i ids (subst (λ j. Mem j ids) (sym e) (mem_at ids k i h)))

  -- what is left of the room is enough for the next input
  pub room_for_input : (id l k i : ℕ) (word below row_before row_now labels_before labels_now : List ℕ) → IsStore trees → id < length trees
      → tree_at trees id ≡ node l (row (map (tree_at trees) ids)) → k < length ids → i ≡ get_or ids k i
      → FitsFlatKey (length word) (length row_before) (length labels_before) (tree_at trees id) → below ≡ word ++ (l ∷ [])
      → row_now ++ leaves_row (row (map (tree_at trees) (drop k ids))) ≡ row_before ++ leaves_row (row (map (tree_at trees) ids))
      → labels_now ++ vertex_labels_row (row (map (tree_at trees) (drop k ids))) ≡ (labels_before ++ (l ∷ [])) ++ vertex_labels_row (row (map (tree_at trees) ids))
      → FitsFlatKey (length below) (length row_now) (length labels_now) (tree_at trees i)
  room_for_input id l k i word below row_before row_now labels_before labels_now s held e h is room longer rows labels =
      let all = row (map (tree_at trees) ids) in
      let rest = row (map (tree_at trees) (drop k ids)) in
      let valid = held_valid trees id s held in
      let wide = subst IsWide e valid.wide in
      let m = input_mem k i h is in
      let size = ap leaf_count e in
      let vertex_size = ap vertices e in
      let less = lesser_input all (tree_at trees i) m wide.1 in
      let two = wide.0 in
      let next = next_input k i h is in
      let part : leaf_count_row rest ≡ leaf_count (tree_at trees i) + leaf_count_row (row (map (tree_at trees) (drop (k + 1) ids))) = ap leaf_count_row next in
      let vertex_part : vertices_row rest ≡ vertices (tree_at trees i) + vertices_row (row (map (tree_at trees) (drop (k + 1) ids))) = ap vertices_row next in
      let count : length row_now + leaf_count_row rest ≡ length row_before + leaf_count_row all =
      same_length row_now (leaves_row rest) row_before (leaves_row all) (leaf_count_row rest) (leaf_count_row all) (length-leaves (node 0 rest)) (length-leaves (node 0 all)) rows in
      let vertex_count : length labels_now + vertices_row rest ≡ length (labels_before ++ (l ∷ [])) + vertices_row all =
      same_length labels_now (vertex_labels_row rest) (labels_before ++ (l ∷ [])) (vertex_labels_row all) (vertices_row rest) (vertices_row all) (length-labels_row rest) (length-labels_row all) labels in
      let one_label = length-append labels_before (l ∷ []) in
      let one_letter : length below ≡ length word + 1 = ap length longer ∙ length-append word (l ∷ []) in
      let letters_left = room.letters_fit in
      let leaves_left = room.leaves_fit in
      let vertices_left = room.vertices_fit valid.wide in
      record {
        letters_fit = omega (arith, size, less, two, letters_left, one_letter);
        leaves_fit = omega (arith, size, part, count, leaves_left);
        vertices_fit = λ w. omega (arith, vertex_size, vertex_part, vertex_count, one_label, vertices_left);
        numbers_fit = λ j o. room.numbers_fit j (let each = ap (occurs j) e in let few = fewer_in_input all (tree_at trees i) j m in omega (arith, each, few, o));
      }

  -- behind the last input all labels are there
  pub labels_at_end : (t : Tree ℕ) (l k : ℕ) (now start before : List ℕ) → length ids ≤ k → t ≡ node l (row (map (tree_at trees) ids)) → start ≡ before ++ (l ∷ [])
      → now ++ vertex_labels_row (row (map (tree_at trees) (drop k ids))) ≡ start ++ vertex_labels_row (row (map (tree_at trees) ids)) → now ≡ before ++ vertex_labels t
  labels_at_end t l k now start before over e put same =
      let all = vertex_labels_row (row (map (tree_at trees) ids)) in
      sym (append-nil now) ∙ ap (λ is. now ++ vertex_labels_row (row (map (tree_at trees) is))) (sym (drop_of_length-le ids over)) ∙ same
      ∙ ap (λ ls. ls ++ all) put ∙ append_assoc before (l ∷ []) all ∙ ap (λ u. before ++ vertex_labels u) (sym e)
