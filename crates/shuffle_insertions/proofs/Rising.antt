-- Trees whose inputs rise: least leaves, grafts, fillings.
use Rattle.std.proofs.Common.{◌≡◌, ℕ, ◌<◌, ◌≤◌, refl, sym, arith, subst}
use Rattle.labelled_trees.specs.Trees.{Tree, Row, leaf, node, none, more, graft, graft_row}
use Rattle.labelled_trees.specs.Contexts.{Ctx, RowCtx, hole, inside, here, past, fill, fill_row}
use Rattle.shuffle_insertions.specs.ShuffleTrees.{least, least_row, IsBefore, HasInput, IsRising, IsRisingRow}
use Rattle.labelled_trees.specs.Leaves.{AllLeaves, AllRow, occurs, leaf_count}
use Rattle.labelled_trees.proofs.Leaves.{by_leaf, at_leaf, AllLeaves-imp, AllRow-imp, occurs-≤}

-- what the leaves are replaced by is changed from s to u, and the least leaves keep their order
module _ (A : Type 0) (P : A → Type 0) (s u : A → Tree ℕ) (each : (a : A) → P a → IsRising (u a))
    (order : (a b : A) → P a → P b → least (s a) < least (s b) → least (u a) < least (u b)) where
  mutual
    pub head : (t : Tree A) → IsRising (graft t s) → AllLeaves t P → (a : A) × P a × (least (graft t s) ≡ least (s a)) × (least (graft t u) ≡ least (u a))
    head (leaf a) h k = (a, k, refl, refl)
    head (node l r) h k = head_row r h.0 h.1 k

    pub head_row : (r : Row A) → HasInput (graft_row r s) → IsRisingRow (graft_row r s) → AllRow r P
        → (a : A) × P a × (least_row (graft_row r s) ≡ least (s a)) × (least_row (graft_row r u) ≡ least (u a))
    head_row none h g k = absurd h
    head_row (more t r) h g k = head t g.0 k.0

  before_change : (t : Tree A) (r : Row A) → IsRising (graft t s) → IsRisingRow (graft_row r s) → AllLeaves t P → AllRow r P
      → IsBefore (graft t s) (graft_row r s) → IsBefore (graft t u) (graft_row r u)
  before_change t none h g k l b = tt
  before_change t (more v r) h g k l b =
      let x = head t h k in
      let y = head v g.0 l.0 in
      rw (x.3, y.3) (order x.0 y.0 x.1 y.1 (rw (x.2, y.2) at b))

  has_change : (r : Row A) → HasInput (graft_row r s) → HasInput (graft_row r u)
  has_change none h = h
  has_change (more t r) h = tt

  mutual
    pub rising_change : (t : Tree A) → IsRising (graft t s) → AllLeaves t P → IsRising (graft t u)
    rising_change (leaf a) h k = each a k
    rising_change (node l r) h k = (has_change r h.0, rising_row_change r h.1 k)

    pub rising_row_change : (r : Row A) → IsRisingRow (graft_row r s) → AllRow r P → IsRisingRow (graft_row r u)
    rising_row_change none h k = tt
    rising_row_change (more t r) h k = (rising_change t h.0 k.0, before_change t r h.0 h.2 k.0 k.1 h.1, rising_row_change r h.2 k.1)

mutual
  -- filling with a tree of the same least leaf
  pub least-fill : (c : Ctx ℕ) (x y : Tree ℕ) → least x ≡ least y → least (fill c x) ≡ least (fill c y)
  least-fill hole x y e = e
  least-fill (inside l c) x y e = least-fill_row c x y e

  pub least-fill_row : (c : RowCtx ℕ) (x y : Tree ℕ) → least x ≡ least y → least_row (fill_row c x) ≡ least_row (fill_row c y)
  least-fill_row (here c r) x y e = least-fill c x y e
  least-fill_row (past t c) x y e = refl

before-left : (t u : Tree ℕ) (r : Row ℕ) → least t ≡ least u → IsBefore t r → IsBefore u r
before-left t u none e b = tt
before-left t u (more v r) e b = rw (← e) b

before-right : (t : Tree ℕ) (c : RowCtx ℕ) (x y : Tree ℕ) → least x ≡ least y → IsBefore t (fill_row c x) → IsBefore t (fill_row c y)
before-right t (here c r) x y e b = subst (λ n. least t < n) (least-fill c x y e) b
before-right t (past u c) x y e b = b

has-fill : (c : RowCtx ℕ) (x : Tree ℕ) → HasInput (fill_row c x)
has-fill (here c r) x = tt
has-fill (past t c) x = tt

mutual
  pub rising-fill : (c : Ctx ℕ) (x y : Tree ℕ) → least x ≡ least y → IsRising y → IsRising (fill c x) → IsRising (fill c y)
  rising-fill hole x y e k h = k
  rising-fill (inside l c) x y e k h = (has-fill c y, rising_row-fill c x y e k h.1)

  pub rising_row-fill : (c : RowCtx ℕ) (x y : Tree ℕ) → least x ≡ least y → IsRising y → IsRisingRow (fill_row c x) → IsRisingRow (fill_row c y)
  rising_row-fill (here c r) x y e k h = (rising-fill c x y e k h.0, before-left (fill c x) (fill c y) r (least-fill c x y e) h.1, h.2)
  rising_row-fill (past t c) x y e k h = (h.0, before-right t c x y e h.1, rising_row-fill c x y e k h.2)

mutual
  pub rising_of_fill : (c : Ctx ℕ) (x : Tree ℕ) → IsRising (fill c x) → IsRising x
  rising_of_fill hole x h = h
  rising_of_fill (inside l c) x h = rising_of_fill_row c x h.1

  pub rising_of_fill_row : (c : RowCtx ℕ) (x : Tree ℕ) → IsRisingRow (fill_row c x) → IsRising x
  rising_of_fill_row (here c r) x h = rising_of_fill c x h.0
  rising_of_fill_row (past t c) x h = rising_of_fill_row c x h.2

mutual
  least_in : (t : Tree ℕ) (P : ℕ → Type 0) → IsRising t → AllLeaves t P → P (least t)
  least_in (leaf n) P h k = k
  least_in (node l r) P h k = least_in_row r P h.0 h.1 k

  least_in_row : (r : Row ℕ) (P : ℕ → Type 0) → HasInput r → IsRisingRow r → AllRow r P → P (least_row r)
  least_in_row none P h g k = absurd h
  least_in_row (more t r) P h g k = least_in t P g.0 k.0

pub least-occurs : (t : Tree ℕ) → IsRising t → 0 < occurs (least t) t
least-occurs t h = least_in t (λ i. 0 < occurs i t) h (by_leaf t (λ i. 0 < occurs i t) (λ i k. k))

first_below : (t : Tree ℕ) (r : Row ℕ) → IsBefore t r → AllRow r (λ i. least_row r ≤ i) → AllRow r (λ i. least t ≤ i)
first_below t none b h = tt
first_below t (more u r) b h = (AllLeaves-imp u (λ i. least u ≤ i) (λ i. least t ≤ i) (λ i k. omega arith) h.0, AllRow-imp r (λ i. least u ≤ i) (λ i. least t ≤ i) (λ i k. omega arith) h.1)

mutual
  -- the first leaf is the least
  pub least-le : (t : Tree ℕ) → IsRising t → AllLeaves t (λ i. least t ≤ i)
  least-le (leaf n) h = omega arith
  least-le (node l r) h = least_row-le r h.1

  pub least_row-le : (r : Row ℕ) → IsRisingRow r → AllRow r (λ i. least_row r ≤ i)
  least_row-le none h = tt
  least_row-le (more t r) h = (least-le t h.0, first_below t r h.1 (least_row-le r h.2))

-- rising trees with the same leaves have the same least leaf
pub least_same : (x y : Tree ℕ) → IsRising x → IsRising y → ((i : ℕ) → occurs i x ≡ occurs i y) → least x ≡ least y
least_same x y hx hy e =
    let a : least y ≤ least x = at_leaf y (λ i. least y ≤ i) (least x) (least-le y hy) (subst (λ n. 0 < n) (e (least x)) (least-occurs x hx)) in
    let b : least x ≤ least y = at_leaf x (λ i. least x ≤ i) (least y) (least-le x hx) (subst (λ n. 0 < n) (sym (e (least y))) (least-occurs y hy)) in
    omega (arith, a, b)

-- a rising tree has a leaf
pub rising-some_leaf : (t : Tree ℕ) → IsRising t → 1 ≤ leaf_count t
rising-some_leaf t h = omega (arith, occurs-≤ (least t) t, least-occurs t h)
