-- The word of a leaf that stands once.
use Rattle.std.specs.Prelude.{List, [], ◌∷◌, ◌++◌, map}
use Rattle.std.proofs.Common.{◌≡◌, ℕ, suc, ◌+◌, ◌<◌, ◌≤◌, length, take, drop, get_or, refl, ap, sym, ◌∙◌, arith}
use mathlib.Core.Path.{ap₂}
use Rattle.std.specs.List.{sum_by}
use Rattle.std.specs.declared.cmp.Ordering.{Ordering}
use Rattle.std.specs.declared.cmp.Ordering.TheVariants.{Less, Equal, Greater}
use Rattle.std.specs.Ordering.{nat_cmp, ordering_then, MatchOrdering}
use Rattle.std.specs.Cmp.Lexicographic.{slice_cmp}
use Rattle.std.proofs.lemmas.Cmp.{ranked}
use Rattle.std.proofs.lemmas.List.{take_all, nil_from_length}
use Rattle.std.proofs.lemmas.List.Sums.{get_or-le-sum_by}
use native.Mathlib.Decide.{ℕ_discrete}
use Rattle.labelled_trees.specs.Trees.{Tree}
use Rattle.labelled_trees.specs.Leaves.{occurs, one_if}
use Rattle.labelled_trees.specs.Meaning.{tree_of}
use Rattle.labelled_trees.specs.declared.Tree as program
use Rattle.labelled_trees.specs.declared.Tree.TheVariants.{Leaf, Node}
use Rattle.labelled_trees.proofs.ProgramTrees.{tree_of-leaf, sum_leaves-node}
use Rattle.shuffle_insertions.specs.Keys.{words_at}
use Rattle.shuffle_insertions.proofs.Keys.{length-words_at}
use Rattle.shuffle_trees.proofs.Walking.{words_in, words-node, left_from, none_left, walked_past}
use Rattle.path_orders.specs.WordSteps.{WordsCompared, SameWord}
use Rattle.modular_sums.specs.Lists.{choose}

-- ---- where a number stands

pub stands_inside : (j g : ℕ) (ts : List program.Tree) (i : ℕ) (t : program.Tree) → i < length ts → t ≡ get_or ts i t → 0 < occurs j (tree_of t) → 0 < occurs j (tree_of (Node g ts))
stands_inside j g ts i t lt e o =
    let whole = sum_leaves-node g ts (λ n. one_if (ℕ_discrete n j)) in
    let part = get_or-le-sum_by (λ (u : program.Tree). occurs j (tree_of u)) ts i t lt in
    let here : occurs j (tree_of t) ≡ occurs j (tree_of (get_or ts i t)) = ap (λ (u : program.Tree). occurs j (tree_of u)) e in
    omega (arith, whole, part, here, o)

pub stands_nowhere : (j g : ℕ) (ts : List program.Tree) (i : ℕ) → length ts ≤ i → sum_by (λ t. occurs j (tree_of t)) (take i ts) ≡ 0 → occurs j (tree_of (Node g ts)) ≡ 0
stands_nowhere j g ts i le z = sum_leaves-node g ts (λ n. one_if (ℕ_discrete n j)) ∙ ap (sum_by (λ t. occurs j (tree_of t))) (sym (take_all i ts le)) ∙ z

no_word : (j : ℕ) (t : Tree ℕ) → (0 < occurs j t → ⊥) → words_at j t ≡ []
no_word j t none = nil_from_length (words_at j t) (length-words_at j t ∙ let z : occurs j t ≡ 0 = omega (arith, none) in z)

pub passed : (j : ℕ) (ts : List program.Tree) (i : ℕ) (t : program.Tree) → i < length ts → t ≡ get_or ts i t → words_in j (drop i ts) ≡ words_in j ts → (0 < occurs j (tree_of t) → ⊥) → words_in j (drop (i + 1) ts) ≡ words_in j ts
passed j ts i t lt e same none = walked_past j ts i t lt e same (no_word j (tree_of t) none)

-- ---- a word that stands alone

first_alone : (k l : List (List ℕ)) (w : List ℕ) → 0 < length k → k ++ l ≡ w ∷ [] → k ≡ w ∷ []
first_alone [] l w p e = absurd (omega arith)
first_alone (x ∷ []) l w p e = let h : x ≡ w = cc in ap (λ y. y ∷ []) h
first_alone (x ∷ (y ∷ k)) l w p e = absurd (let n = ap length e in omega (arith, n))

pub same_word : (j : ℕ) (ts : List program.Tree) (i : ℕ) (t : program.Tree) → i < length ts → t ≡ get_or ts i t → words_in j (drop i ts) ≡ words_in j ts → 0 < occurs j (tree_of t) → SameWord j ts t
same_word j ts i t lt e same o w h =
    let n = length-words_at j (tree_of t) in
    first_alone (words_at j (tree_of t)) (words_in j (drop (i + 1) ts)) w (omega (arith, n, o)) (ap (words_in j) (sym (left_from ts i t lt e)) ∙ same ∙ h)

-- the word below a vertex
below_vertex : (g : ℕ) (ws : List (List ℕ)) (v : List ℕ) → map (λ x. g ∷ x) ws ≡ v ∷ [] → (u : List ℕ) × (ws ≡ u ∷ []) × (v ≡ g ∷ u)
below_vertex g [] v e = absurd (cc e)
below_vertex g (x ∷ []) v e = (x, refl, let h : g ∷ x ≡ v = cc in sym h)
below_vertex g (x ∷ (y ∷ ws)) v e = absurd (let n = ap length e in omega (arith, n))

leaf_word_by : (n j : ℕ) (d : Dec (n ≡ j)) (v : List ℕ) → choose {B = List (List ℕ)} d ([] ∷ []) [] ≡ v ∷ [] → v ≡ []
leaf_word_by n j (yes _) v e = let h : [] ≡ v = cc in sym h
leaf_word_by n j (no _) v e = absurd (cc e)

leaf_word : (n j : ℕ) (v : List ℕ) → words_at j (tree_of (Leaf n)) ≡ v ∷ [] → v ≡ []
leaf_word n j v e = leaf_word_by n j (ℕ_discrete n j) v (ap (words_at j) (sym (tree_of-leaf n)) ∙ e)

-- ---- comparisons of lengths

one_rank : (x y : ℕ) (o p : Ordering) → MatchOrdering o (x < y) (x ≡ y) (y < x) → MatchOrdering p (x < y) (x ≡ y) (y < x) → o ≡ p
one_rank x y Less Less h k = refl
one_rank x y Less Equal h k = absurd (omega arith)
one_rank x y Less Greater h k = absurd (omega arith)
one_rank x y Equal Less h k = absurd (omega arith)
one_rank x y Equal Equal h k = refl
one_rank x y Equal Greater h k = absurd (omega arith)
one_rank x y Greater Less h k = absurd (omega arith)
one_rank x y Greater Equal h k = absurd (omega arith)
one_rank x y Greater Greater h k = refl

next_rank : (x y : ℕ) (o : Ordering) → MatchOrdering o (x < y) (x ≡ y) (y < x) → MatchOrdering o (suc x < suc y) (suc x ≡ suc y) (suc y < suc x)
next_rank x y Less h = omega arith
next_rank x y Equal h = ap suc h
next_rank x y Greater h = omega arith

suc_cmp : (x y : ℕ) → nat_cmp x y ≡ nat_cmp (suc x) (suc y)
suc_cmp x y = one_rank (suc x) (suc y) (nat_cmp x y) (nat_cmp (suc x) (suc y)) (next_rank x y (nat_cmp x y) (ranked x y (nat_cmp x y) refl)) (ranked (suc x) (suc y) (nat_cmp (suc x) (suc y)) refl)

shorter : (n : ℕ) → Less ≡ nat_cmp 0 (suc n)
shorter n = one_rank 0 (suc n) Less (nat_cmp 0 (suc n)) (omega arith) (ranked 0 (suc n) (nat_cmp 0 (suc n)) refl)

longer : (n : ℕ) → Greater ≡ nat_cmp (suc n) 0
longer n = one_rank (suc n) 0 Greater (nat_cmp (suc n) 0) (omega arith) (ranked (suc n) 0 (nat_cmp (suc n) 0) refl)

-- ---- two trees

abbrev Compared : ℕ → program.Tree → program.Tree → Ordering → Ordering → Type 0
Compared j one other lengths letters = WordsCompared (words_at j (tree_of one)) (words_at j (tree_of other)) lengths letters

pub two_vertices : (j g h : ℕ) (ts us : List program.Tree) (t u : program.Tree) (lengths letters first both : Ordering) → SameWord j ts t → SameWord j us u → Compared j t u lengths letters → first ≡ nat_cmp g h → both ≡ ordering_then first letters
    → Compared j (Node g ts) (Node h us) lengths both
two_vertices j g h ts us t u lengths letters first both st su below f b v w hv hw =
    let x = below_vertex g (words_in j ts) v (sym (words-node j g ts) ∙ hv) in
    let y = below_vertex h (words_in j us) w (sym (words-node j h us) ∙ hw) in
    let k = below x.0 y.0 (st x.0 x.1) (su y.0 y.1) in (
      k.0 ∙ suc_cmp (length x.0) (length y.0) ∙ ap₂ (λ p q. nat_cmp (length p) (length q)) (sym x.2) (sym y.2),
      b ∙ ap₂ ordering_then f k.1 ∙ ap₂ (slice_cmp nat_cmp) (sym x.2) (sym y.2),
    )

pub leaf_vertex : (j n h : ℕ) (us : List program.Tree) → Compared j (Leaf n) (Node h us) Less Less
leaf_vertex j n h us v w hv hw =
    let x = leaf_word n j v hv in
    let y = below_vertex h (words_in j us) w (sym (words-node j h us) ∙ hw) in (
      shorter (length y.0) ∙ ap₂ (λ p q. nat_cmp (length p) (length q)) (sym x) (sym y.2),
      ap₂ (slice_cmp nat_cmp) (sym x) (sym y.2),
    )

pub vertex_leaf : (j n h : ℕ) (us : List program.Tree) → Compared j (Node h us) (Leaf n) Greater Greater
vertex_leaf j n h us v w hv hw =
    let x = leaf_word n j w hw in
    let y = below_vertex h (words_in j us) v (sym (words-node j h us) ∙ hv) in (
      longer (length y.0) ∙ ap₂ (λ p q. nat_cmp (length p) (length q)) (sym y.2) (sym x),
      ap₂ (slice_cmp nat_cmp) (sym y.2) (sym x),
    )

pub no_words_left : (j g : ℕ) (ts : List program.Tree) (i : ℕ) (v : List ℕ) → length ts ≤ i → words_in j (drop i ts) ≡ words_in j ts → words_at j (tree_of (Node g ts)) ≡ v ∷ [] → ⊥
no_words_left j g ts i v le same hv =
    let x = below_vertex g (words_in j ts) v (sym (words-node j g ts) ∙ hv) in
    let e = sym (ap (words_in j) (none_left ts i le)) ∙ same ∙ x.1 in cc e
