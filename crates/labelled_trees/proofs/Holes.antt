-- A leaf as a hole.
use Rattle.std.proofs.Common.{◌≡◌, ◌≢◌, ℕ, ◌+◌, ◌<◌, ◌≤◌, refl, sym, ◌∙◌, ap, arith}
use mathlib.Core.Path.{ap₂}
use native.Mathlib.Decide.{ℕ_discrete, dec_lt}
use Rattle.labelled_trees.specs.Trees.{Tree, Row, leaf, node, none, more, graft, graft_row}
use Rattle.labelled_trees.specs.Contexts.{Ctx, RowCtx, hole, inside, here, past, fill, fill_row, graft_ctx, graft_row_ctx}
use Rattle.labelled_trees.specs.Leaves.{one_if, occurs, occurs_row}
use Rattle.labelled_trees.proofs.Contexts.{graft-fill, node-eq, more-eq}
use Rattle.labelled_trees.proofs.GraftLeaves.{graft_ext, graft_row_ext}
use Rattle.labelled_trees.proofs.Leaves.{by_leaf, by_row, occurs_self}
use Rattle.modular_sums.specs.Lists.{choose}
use Rattle.modular_sums.proofs.Choices.{choose-yes, choose-no}

mutual
  pub occurs_in_fill : (c : Ctx ℕ) (k : ℕ) → 0 < occurs k (fill c (leaf k))
  occurs_in_fill hole k = let e = occurs_self k in omega (arith, e)
  occurs_in_fill (inside l c) k = occurs_in_fill_row c k

  pub occurs_in_fill_row : (c : RowCtx ℕ) (k : ℕ) → 0 < occurs_row k (fill_row c (leaf k))
  occurs_in_fill_row (here c r) k = omega (arith, occurs_in_fill c k)
  occurs_in_fill_row (past t c) k = omega (arith, occurs_in_fill_row c k)

mutual
  -- where a number stands once, there is one context round it
  pub one_context : (m : ℕ) (c d : Ctx ℕ) → fill c (leaf m) ≡ fill d (leaf m) → occurs m (fill c (leaf m)) ≤ 1 → c ≡ d
  one_context m hole hole e o = refl
  one_context m hole (inside g d) e o = absurd (cc e)
  one_context m (inside g c) hole e o = absurd (cc e)
  one_context m (inside g c) (inside h d) e o =
      let k = node-eq g h (fill_row c (leaf m)) (fill_row d (leaf m)) e in
      ap₂ inside k.0 (one_row m c d k.1 o)

  one_row : (m : ℕ) (c d : RowCtx ℕ) → fill_row c (leaf m) ≡ fill_row d (leaf m) → occurs_row m (fill_row c (leaf m)) ≤ 1 → c ≡ d
  one_row m (here c r) (here d s) e o =
      let k = more-eq (fill c (leaf m)) (fill d (leaf m)) r s e in
      ap₂ here (one_context m c d k.0 (omega (arith, o))) k.1
  one_row m (past t c) (past u d) e o =
      let k = more-eq t u (fill_row c (leaf m)) (fill_row d (leaf m)) e in
      ap₂ past k.0 (one_row m c d k.1 (omega (arith, o)))
  one_row m (here c r) (past u d) e o =
      let k = more-eq (fill c (leaf m)) u r (fill_row d (leaf m)) e in
      let a : occurs_row m r ≡ occurs_row m (fill_row d (leaf m)) = ap (occurs_row m) k.1 in
      absurd (omega (arith, a, occurs_in_fill c m, occurs_in_fill_row d m, o))
  one_row m (past t c) (here d s) e o =
      let k = more-eq t (fill d (leaf m)) (fill_row c (leaf m)) s e in
      let a : occurs m t ≡ occurs m (fill d (leaf m)) = ap (occurs m) k.0 in
      absurd (omega (arith, a, occurs_in_fill d m, occurs_in_fill_row c m, o))

not_there : (r : Row ℕ) (k : ℕ) (s u : ℕ → Tree ℕ) → occurs_row k r ≡ 0 → ((i : ℕ) → i ≢ k → s i ≡ u i) → graft_row r s ≡ graft_row r u
not_there r k s u z h = graft_row_ext r s u (by_row r (λ i. s i ≡ u i) (λ i o. h i (λ e. let z' : occurs_row i r ≡ 0 = ap (λ m. occurs_row m r) e ∙ z in omega arith)))

not_in : (t : Tree ℕ) (k : ℕ) (s u : ℕ → Tree ℕ) → occurs k t ≡ 0 → ((i : ℕ) → i ≢ k → s i ≡ u i) → graft t s ≡ graft t u
not_in t k s u z h = graft_ext t s u (by_leaf t (λ i. s i ≡ u i) (λ i o. h i (λ e. let z' : occurs i t ≡ 0 = ap (λ m. occurs m t) e ∙ z in omega arith)))

mutual
  -- where leaf k fills the hole and stands nowhere else, the context doesn't see what stands for k
  pub ctx_agree : (c : Ctx ℕ) (k : ℕ) (s u : ℕ → Tree ℕ) → occurs k (fill c (leaf k)) ≤ 1 → ((i : ℕ) → i ≢ k → s i ≡ u i) → graft_ctx c s ≡ graft_ctx c u
  ctx_agree hole k s u o h = refl
  ctx_agree (inside l c) k s u o h = ap (inside l) (ctx_agree_row c k s u o h)

  pub ctx_agree_row : (c : RowCtx ℕ) (k : ℕ) (s u : ℕ → Tree ℕ) → occurs_row k (fill_row c (leaf k)) ≤ 1 → ((i : ℕ) → i ≢ k → s i ≡ u i) → graft_row_ctx c s ≡ graft_row_ctx c u
  ctx_agree_row (here c r) k s u o h = ap₂ here (ctx_agree c k s u (omega arith) h) (not_there r k s u (omega (arith, occurs_in_fill c k)) h)
  ctx_agree_row (past t c) k s u o h = ap₂ past (not_in t k s u (omega (arith, occurs_in_fill_row c k)) h) (ctx_agree_row c k s u (omega arith) h)

pub record At (k : ℕ) (t : Tree ℕ) : Type 0 where
  pub around : Ctx ℕ
  pub is : t ≡ fill around (leaf k)

record AtRow (k : ℕ) (r : Row ℕ) : Type 0 where
  around : RowCtx ℕ
  is : r ≡ fill_row around (leaf k)

at_one : (k n : ℕ) (d : Dec (n ≡ k)) → 0 < one_if d → At k (leaf n)
at_one k n (yes e) o = record { around = hole; is = ap leaf e }
at_one k n (no _) o = absurd (omega arith)

at_more : (k : ℕ) (t : Tree ℕ) (r : Row ℕ) → Dec (0 < occurs k t) → (0 < occurs k t → At k t) → (0 < occurs_row k r → AtRow k r) → 0 < occurs k t + occurs_row k r → AtRow k (more t r)
at_more k t r (yes h) f g o = let a = f h in record { around = here a.around r; is = ap (λ x. more x r) a.is }
at_more k t r (no z) f g o = let a = g (omega arith) in record { around = past t a.around; is = ap (more t) a.is }

mutual
  pub hole_at : (k : ℕ) (t : Tree ℕ) → 0 < occurs k t → At k t
  hole_at k (leaf n) o = at_one k n (ℕ_discrete n k) o
  hole_at k (node l r) o = let a = hole_at_row k r o in record { around = inside l a.around; is = ap (node l) a.is }

  hole_at_row : (k : ℕ) (r : Row ℕ) → 0 < occurs_row k r → AtRow k r
  hole_at_row k none o = absurd (omega arith)
  hole_at_row k (more t r) o = at_more k t r (dec_lt 0 (occurs k t)) (λ h. hole_at k t h) (λ h. hole_at_row k r h) o

-- s with v for k
unfoldable pub updated : (ℕ → Tree ℕ) → ℕ → Tree ℕ → ℕ → Tree ℕ
updated s k v i = choose (ℕ_discrete i k) v (s i)

pub updated_same : (s : ℕ → Tree ℕ) (k : ℕ) (v : Tree ℕ) → updated s k v k ≡ v
unfolding updated
updated_same s k v = choose-yes (ℕ_discrete k k) v (s k) refl

pub updated_other : (s : ℕ → Tree ℕ) (k : ℕ) (v : Tree ℕ) (i : ℕ) → i ≢ k → updated s k v i ≡ s i
unfolding updated
updated_other s k v i h = choose-no (ℕ_discrete i k) v (s i) h

pub updated_back : (s : ℕ → Tree ℕ) (k : ℕ) (i : ℕ) → updated s k (s k) i ≡ s i
unfolding updated
updated_back s k i = go (ℕ_discrete i k)
  where
    go : (d : Dec (i ≡ k)) → choose d (s k) (s i) ≡ s i
    go (yes e) = ap s (sym e)
    go (no _) = refl

-- a tree whose leaf k is replaced by v, as a context with v in its hole
pub graft-updated : (c : Ctx ℕ) (k : ℕ) (s : ℕ → Tree ℕ) (v : Tree ℕ) → occurs k (fill c (leaf k)) ≤ 1 → graft (fill c (leaf k)) (updated s k v) ≡ fill (graft_ctx c s) v
graft-updated c k s v o =
    graft-fill c (leaf k) (updated s k v)
    ∙ ap₂ fill (ctx_agree c k (updated s k v) s o (updated_other s k v)) (updated_same s k v)
