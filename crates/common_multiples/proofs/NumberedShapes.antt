-- Laws of numbered trees.
use Rattle.std.proofs.Common.{◌≡◌, ℕ, suc, ◌+◌, refl, sym, ◌∙◌, ap, arith, append_assoc}
use mathlib.Core.List.{◌++◌, append-nil}
use mathlib.Core.Path.{ap₂}
use Rattle.labelled_trees.specs.Trees.{Tree, Row, leaf, node, none, more, leaves, leaves_row, graft, graft_row}
use Rattle.labelled_trees.specs.Leaves.{leaf_count, leaf_count_row}
use Rattle.shuffle_insertions.specs.Listing.{upto}
use Rattle.shuffle_places.specs.Overlays.{shape, shape_row}
use Rattle.common_multiples.specs.Building.{numbered, numbered_row}

mutual
  -- a numbered tree has the shape that is numbered
  pub numbered_shape : (f : ℕ → ℕ) (k : ℕ) (t : Tree (Unit {0})) → shape (numbered f k t) ≡ t
  numbered_shape f k (leaf u) = refl
  numbered_shape f k (node l r) = ap (node l) (numbered_row_shape f k r)

  numbered_row_shape : (f : ℕ → ℕ) (k : ℕ) (r : Row (Unit {0})) → shape_row (numbered_row f k r) ≡ r
  numbered_row_shape f k none = refl
  numbered_row_shape f k (more t r) = ap₂ more (numbered_shape f k t) (numbered_row_shape f (k + leaf_count t) r)

mutual
  numbers_on : (k : ℕ) (t : Tree (Unit {0})) → upto k ++ leaves (numbered (λ i. i) k t) ≡ upto (k + leaf_count t)
  numbers_on k (leaf u) = ap upto (let e : suc k ≡ k + 1 = omega arith in e)
  numbers_on k (node l r) = numbers_on_row k r

  numbers_on_row : (k : ℕ) (r : Row (Unit {0})) → upto k ++ leaves_row (numbered_row (λ i. i) k r) ≡ upto (k + leaf_count_row r)
  numbers_on_row k none = append-nil (upto k) ∙ ap upto (let e : k ≡ k + 0 = omega arith in e)
  numbers_on_row k (more t r) =
      sym (append_assoc (upto k) (leaves (numbered (λ i. i) k t)) (leaves_row (numbered_row (λ i. i) (k + leaf_count t) r)))
      ∙ ap (λ l. l ++ leaves_row (numbered_row (λ i. i) (k + leaf_count t) r)) (numbers_on k t)
      ∙ numbers_on_row (k + leaf_count t) r
      ∙ ap upto (let e : k + leaf_count t + leaf_count_row r ≡ k + (leaf_count t + leaf_count_row r) = omega arith in e)

-- where each leaf has its own number, the leaves are 1, 2 and so on
pub numbered_leaves : (t : Tree (Unit {0})) → leaves (numbered (λ i. i) 0 t) ≡ upto (leaf_count t)
numbered_leaves t = numbers_on 0 t ∙ ap upto (let e : 0 + leaf_count t ≡ leaf_count t = omega arith in e)

mutual
  -- each leaf has its own number before f names it
  pub numbered_named : (f : ℕ → ℕ) (k : ℕ) (t : Tree (Unit {0})) → graft (numbered (λ i. i) k t) (λ i. leaf (f i)) ≡ numbered f k t
  numbered_named f k (leaf u) = refl
  numbered_named f k (node l r) = ap (node l) (numbered_row_named f k r)

  numbered_row_named : (f : ℕ → ℕ) (k : ℕ) (r : Row (Unit {0})) → graft_row (numbered_row (λ i. i) k r) (λ i. leaf (f i)) ≡ numbered_row f k r
  numbered_row_named f k none = refl
  numbered_row_named f k (more t r) = ap₂ more (numbered_named f k t) (numbered_row_named f (k + leaf_count t) r)
