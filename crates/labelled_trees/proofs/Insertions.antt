-- Contexts with leaf 0, and lists of what stands for the leaves.
use Rattle.std.proofs.Common.{◌≡◌, ℕ, zero, suc, ◌+◌, ◌<◌, ◌≤◌, ◌∷◌, length, refl, ◌∙◌, ap, arith}
use mathlib.Core.Path.{ap₂}
use Rattle.labelled_trees.specs.Trees.{Tree, Row, leaf, node, none, more, graft_row}
use Rattle.labelled_trees.specs.Contexts.{Ctx, RowCtx, hole, inside, here, past, fill, fill_row}
use Rattle.labelled_trees.specs.Leaves.{occurs, occurs_row}
use Rattle.labelled_trees.specs.Insertions.{at_zero, put, item, listed}
use Rattle.labelled_trees.specs.Laws.{ContextsAreTrees}
use Rattle.labelled_trees.proofs.Holes.{hole_at, occurs_in_fill, occurs_in_fill_row}

mutual
  -- a tree without leaf 0
  pub put_nothing : (x t : Tree ℕ) → occurs 0 t ≡ 0 → put t x ≡ t
  put_nothing x (leaf zero) z = absurd (let o = occurs_in_fill hole 0 in omega (arith, z, o))
  put_nothing x (leaf (suc i)) z = refl
  put_nothing x (node g r) z = ap (node g) (put_nothing_row x r z)

  put_nothing_row : (x : Tree ℕ) (r : Row ℕ) → occurs_row 0 r ≡ 0 → graft_row r (at_zero x) ≡ r
  put_nothing_row x none z = refl
  put_nothing_row x (more t r) z = ap₂ more (put_nothing x t (omega (arith, z))) (put_nothing_row x r (omega (arith, z)))

mutual
  pub put-fill : (c : Ctx ℕ) (x : Tree ℕ) → occurs 0 (fill c (leaf 0)) ≤ 1 → put (fill c (leaf 0)) x ≡ fill c x
  put-fill hole x o = refl
  put-fill (inside g c) x o = ap (node g) (put_row-fill c x o)

  put_row-fill : (c : RowCtx ℕ) (x : Tree ℕ) → occurs_row 0 (fill_row c (leaf 0)) ≤ 1 → graft_row (fill_row c (leaf 0)) (at_zero x) ≡ fill_row c x
  put_row-fill (here c r) x o = let k = occurs_in_fill c 0 in ap₂ more (put-fill c x (omega (arith, o))) (put_nothing_row x r (omega (arith, o, k)))
  put_row-fill (past t c) x o = let k = occurs_in_fill_row c 0 in ap₂ more (put_nothing x t (omega (arith, o, k))) (put_row-fill c x (omega (arith, o)))

pub contexts : ContextsAreTrees
contexts = (
  λ c o. let h = hole_at 0 c (omega (arith, o)) in (h.around, h.is),
  λ d x o. put-fill d x (omega (arith, o)),
)

pub length-listed : {A : Type 0} (s : ℕ → A) (a k : ℕ) → length (listed s a k) ≡ k
length-listed s a zero = refl
length-listed s a (suc k) = ap suc (length-listed s (suc a) k)

item_of : (s : ℕ → Tree ℕ) (a k i : ℕ) → i < k → item (listed s a k) (suc i) ≡ s (suc (a + i))
item_of s a zero i lt = absurd (omega arith)
item_of s a (suc k) zero lt = let e : suc a ≡ suc (a + 0) = omega arith in ap s e
item_of s a (suc k) (suc i) lt = let e : suc (suc a + i) ≡ suc (a + suc i) = omega arith in item_of s (suc a) k i (omega (arith, lt)) ∙ ap s e

-- the items of the list of s 1 to s k
pub item-listed : (s : ℕ → Tree ℕ) (k i : ℕ) → 0 < i → i ≤ k → item (listed s 0 k) i ≡ s i
item-listed s k zero p le = absurd (omega arith)
item-listed s k (suc i) p le = let e : suc (0 + i) ≡ suc i = omega arith in item_of s 0 k i le ∙ ap s e

-- listed functions that agree in the range give one list
pub listed_ext : {A : Type 0} (s u : ℕ → A) (a k : ℕ) → ((i : ℕ) → a < i → i ≤ a + k → s i ≡ u i) → listed s a k ≡ listed u a k
listed_ext s u a zero h = refl
listed_ext s u a (suc k) h = ap₂ (λ x l. x ∷ l) (h (suc a) (omega arith) (omega arith)) (listed_ext s u (suc a) k (λ i lt le. h i (omega arith) (omega (arith, le))))
