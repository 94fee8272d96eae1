-- Sums of weights.
use Rattle.std.specs.Prelude.{List, [], ◌∷◌, map}
use Rattle.std.proofs.Common.{◌≡◌, ℕ, ◌+◌, ◌*◌, ◌<◌, ◌≤◌, length, refl, ap, sym, ◌∙◌, arith}
use mathlib.Core.Path.{ap₂}
use Rattle.std.specs.List.{sum_by}
use Rattle.std.proofs.lemmas.List.Sums.{sum_by-cons, sum_by-append}
use Rattle.labelled_trees.specs.Trees.{Tree, Row, leaf, node, none, more, row, vertices, vertices_row}
use Rattle.labelled_trees.specs.Meaning.{tree_of}
use Rattle.labelled_trees.specs.declared.Tree as program
use Rattle.labelled_trees.specs.declared.Tree.TheVariants.{Node}
use Rattle.labelled_trees.proofs.ProgramTrees.{tree_of-node}
use Rattle.shuffle_insertions.specs.Keys.{weight, weight_row}
use Rattle.shuffle_trees.specs.Walks.{vertex_labels, vertex_labels_row}

module _ (f : ℕ → ℕ) where
  weight_row-row : (ts : List program.Tree) → weight_row f (row (map tree_of ts)) ≡ sum_by (λ t. weight f (tree_of t)) ts
  weight_row-row [] = refl
  weight_row-row (t ∷ ts) = ap (λ n. weight f (tree_of t) + n) (weight_row-row ts) ∙ sym (sum_by-cons (λ u. weight f (tree_of u)) t ts)

  pub weight-node : (g : ℕ) (ts : List program.Tree) → weight f (tree_of (Node g ts)) ≡ f g + sum_by (λ t. weight f (tree_of t)) ts
  weight-node g ts = ap (weight f) (tree_of-node g ts) ∙ ap (λ n. f g + n) (weight_row-row ts)

  mutual
    -- the weight as that of the labels in preorder
    pub weight-labels : (t : Tree ℕ) → sum_by f (vertex_labels t) ≡ weight f t
    weight-labels (leaf n) = refl
    weight-labels (node l r) = sum_by-cons f l (vertex_labels_row r) ∙ ap (λ n. f l + n) (weight_row-labels r)

    weight_row-labels : (r : Row ℕ) → sum_by f (vertex_labels_row r) ≡ weight_row f r
    weight_row-labels none = refl
    weight_row-labels (more t r) = sum_by-append f (vertex_labels t) (vertex_labels_row r) ∙ ap₂ (λ m n. m + n) (weight-labels t) (weight_row-labels r)

  module _ (small : (l : ℕ) → f l < 4294967296) where
    mutual
      pub weight_bound : (t : Tree ℕ) → weight f t ≤ vertices t * 4294967296
      weight_bound (leaf n) = omega arith
      weight_bound (node l r) = omega (arith, small l, weight_row_bound r)

      weight_row_bound : (r : Row ℕ) → weight_row f r ≤ vertices_row r * 4294967296
      weight_row_bound none = omega arith
      weight_row_bound (more t r) = omega (arith, weight_bound t, weight_row_bound r)

    pub sum_bound : (ls : List ℕ) → sum_by f ls ≤ length ls * 4294967296
    sum_bound [] = omega arith
    sum_bound (l ∷ ls) = let c = sum_by-cons f l ls in omega (arith, c, small l, sum_bound ls)
