-- Least leaves: they are least, and those of different inputs are different.
use Rattle.std.proofs.Common.{◌≡◌, ◌≢◌, ⊎_elim, ℕ, ◌<◌, ◌≤◌, sym, subst, arith, min}
use Rattle.std.specs.List.{AllByRecursion}
use Rattle.labelled_trees.specs.Trees.{Tree, Row, leaf, node, none, more, inputs, width}
use Rattle.labelled_trees.specs.Leaves.{occurs, occurs_row, AllLeaves, AllRow}
use Rattle.labelled_trees.proofs.Leaves.{occurs_self, AllLeaves-imp, AllRow-imp}
use Rattle.labelled_trees.specs.Labelled.{Fits, FitsRow}
use Rattle.operad_ideals.specs.Spelling.{least_leaf, least_leaf_row}
use Rattle.operad_ideals.proofs.SortedLists.{Apart, tested}

positive_at : (a b : ℕ) (f : ℕ → ℕ) → a ≡ b → 0 < f a → 0 < f b
positive_at a b f e h = subst (λ n. 0 < f n) e h

least_more : (t : Tree ℕ) (r : Row ℕ) → 0 < occurs (least_leaf t) t → (0 < width r → 0 < occurs_row (least_leaf_row r) r) → 0 < occurs_row (least_leaf_row (more t r)) (more t r)
least_more t none h k = omega (arith, h)
least_more t (more u r) h k =
    let m : ℕ = least_leaf_row (more u r) in
    ⊎_elim
    (λ l. let e : least_leaf t ≡ min (least_leaf t) m = omega (arith, l) in
    let here : 0 < occurs (min (least_leaf t) m) t = positive_at (least_leaf t) (min (least_leaf t) m) (λ i. occurs i t) e h in omega (arith, here))
    (λ l. let e : m ≡ min (least_leaf t) m = omega (arith, l) in
    let there : 0 < occurs_row (min (least_leaf t) m) (more u r) = positive_at m (min (least_leaf t) m) (λ i. occurs_row i (more u r)) e (k (omega arith)) in omega (arith, there))
    (tested (least_leaf t) m)

mutual
  -- the least number at a leaf stands at a leaf
  pub occurs-least_leaf : (arity : ℕ → ℕ) (t : Tree ℕ) → Fits arity t → 0 < occurs (least_leaf t) t
  occurs-least_leaf arity (leaf n) h = let one = occurs_self n in omega (arith, one)
  occurs-least_leaf arity (node g r) h = occurs-least_leaf_row arity r h.2 (omega (arith, h.0, h.1))

  occurs-least_leaf_row : (arity : ℕ → ℕ) (r : Row ℕ) → FitsRow arity r → 0 < width r → 0 < occurs_row (least_leaf_row r) r
  occurs-least_leaf_row arity none h l = absurd (omega (arith, l))
  occurs-least_leaf_row arity (more t r) h l = least_more t r (occurs-least_leaf arity t h.0) (occurs-least_leaf_row arity r h.1)

mutual
  -- the least leaf is the least
  pub least_leaf-le : (t : Tree ℕ) → AllLeaves t (λ i. least_leaf t ≤ i)
  least_leaf-le (leaf n) = omega arith
  least_leaf-le (node g r) = least_leaf_row-le r

  least_leaf_row-le : (r : Row ℕ) → AllRow r (λ i. least_leaf_row r ≤ i)
  least_leaf_row-le none = tt
  least_leaf_row-le (more t none) = (least_leaf-le t, tt)
  least_leaf_row-le (more t (more u r)) = (
    AllLeaves-imp t (λ i. least_leaf t ≤ i) (λ i. min (least_leaf t) (least_leaf_row (more u r)) ≤ i) (λ i k. omega (arith, k)) (least_leaf-le t),
    AllRow-imp (more u r) (λ i. least_leaf_row (more u r) ≤ i) (λ i. min (least_leaf t) (least_leaf_row (more u r)) ≤ i) (λ i k. omega (arith, k)) (least_leaf_row-le (more u r)),
  )

-- a number that stands at no leaf is no least leaf
others_apart : (arity : ℕ → ℕ) (n : ℕ) (r : Row ℕ) → FitsRow arity r → occurs_row n r ≡ 0 → AllByRecursion (λ t. n ≢ least_leaf t) (inputs r)
others_apart arity n none h z = tt
others_apart arity n (more t r) h z = (
  (λ e. let here : 0 < occurs n t = positive_at (least_leaf t) n (λ i. occurs i t) (sym e) (occurs-least_leaf arity t h.0) in absurd (omega (arith, here, z))),
  others_apart arity n r h.1 (omega (arith, z)),
)

-- where each number stands at one leaf at most, the inputs have different least leaves
pub row_apart : (arity : ℕ → ℕ) (r : Row ℕ) → FitsRow arity r → ((i : ℕ) → occurs_row i r ≤ 1) → Apart least_leaf (inputs r)
row_apart arity none h once = tt
row_apart arity (more t r) h once = (
  others_apart arity (least_leaf t) r h.1 (omega (arith, occurs-least_leaf arity t h.0, once (least_leaf t))),
  row_apart arity r h.1 (λ i. omega (arith, once i)),
)
