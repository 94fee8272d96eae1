-- The leaves of what fills a context.
use Rattle.std.proofs.Common.{◌≡◌, ℕ, ◌+◌, ◌<◌, ◌≤◌, sym, ◌∙◌, ap, arith, subst}
use native.Mathlib.Decide.{ℕ_discrete}
use Rattle.labelled_trees.specs.Trees.{Tree, leaf}
use Rattle.labelled_trees.specs.Contexts.{Ctx, RowCtx, hole, inside, here, past, fill, fill_row}
use Rattle.labelled_trees.specs.Leaves.{sum_leaves, sum_row, AllLeaves, AllRow, one_if, occurs}
use Rattle.labelled_trees.specs.Insertions.{IsContext}
use Rattle.labelled_trees.specs.Labelled.{Fits, IsLabelled}
use Rattle.labelled_trees.proofs.Fitting.{fits-fill}
use Rattle.labelled_trees.proofs.Leaves.{occurs_self}
use Rattle.labelled_trees.proofs.Numbered.{labelled_once}

mutual
  pub sum-fill : {A : Type 0} (c : Ctx A) (x y : Tree A) (f : A → ℕ) → sum_leaves x f ≡ sum_leaves y f → sum_leaves (fill c x) f ≡ sum_leaves (fill c y) f
  sum-fill hole x y f e = e
  sum-fill (inside l c) x y f e = sum-fill_row c x y f e

  pub sum-fill_row : {A : Type 0} (c : RowCtx A) (x y : Tree A) (f : A → ℕ) → sum_leaves x f ≡ sum_leaves y f → sum_row (fill_row c x) f ≡ sum_row (fill_row c y) f
  sum-fill_row (here c r) x y f e = ap (λ n. n + sum_row r f) (sum-fill c x y f e)
  sum-fill_row (past t c) x y f e = ap (λ n. sum_leaves t f + n) (sum-fill_row c x y f e)

mutual
  pub sum_of_fill : {A : Type 0} (c : Ctx A) (x : Tree A) (f : A → ℕ) → sum_leaves x f ≤ sum_leaves (fill c x) f
  sum_of_fill hole x f = omega arith
  sum_of_fill (inside l c) x f = sum_of_fill_row c x f

  pub sum_of_fill_row : {A : Type 0} (c : RowCtx A) (x : Tree A) (f : A → ℕ) → sum_leaves x f ≤ sum_row (fill_row c x) f
  sum_of_fill_row (here c r) x f = omega (arith, sum_of_fill c x f)
  sum_of_fill_row (past t c) x f = omega (arith, sum_of_fill_row c x f)

mutual
  pub all_of_fill : {A : Type 0} (c : Ctx A) (x : Tree A) (P : A → Type 0) → AllLeaves (fill c x) P → AllLeaves x P
  all_of_fill hole x P h = h
  all_of_fill (inside l c) x P h = all_of_fill_row c x P h

  pub all_of_fill_row : {A : Type 0} (c : RowCtx A) (x : Tree A) (P : A → Type 0) → AllRow (fill_row c x) P → AllLeaves x P
  all_of_fill_row (here c r) x P h = all_of_fill c x P h.0
  all_of_fill_row (past t c) x P h = all_of_fill_row c x P h.1

-- what a context adds to a sum over the leaves
pub record Adds (A : Type 0) (c : Ctx A) (f : A → ℕ) : Type 0 where
  pub count : ℕ
  pub is : (x : Tree A) → sum_leaves (fill c x) f ≡ count + sum_leaves x f

record AddsRow (A : Type 0) (c : RowCtx A) (f : A → ℕ) : Type 0 where
  count : ℕ
  is : (x : Tree A) → sum_row (fill_row c x) f ≡ count + sum_leaves x f

mutual
  pub adds : {A : Type 0} (c : Ctx A) (f : A → ℕ) → Adds A c f
  adds hole f = record { count = 0; is = λ x. omega arith }
  adds (inside l c) f = let k = adds_row c f in record { count = k.count; is = k.is }

  adds_row : {A : Type 0} (c : RowCtx A) (f : A → ℕ) → AddsRow A c f
  adds_row (here c r) f = let k = adds c f in record { count = k.count + sum_row r f; is = λ x. omega (arith, k.is x) }
  adds_row (past t c) f = let k = adds_row c f in record { count = sum_leaves t f + k.count; is = λ x. omega (arith, k.is x) }

-- where leaf 0 stands nowhere in a filled context, it stands once where it fills the hole, and not in what fills it now
pub zero_once : (c : Ctx ℕ) (x : Tree ℕ) → occurs 0 (fill c x) ≡ 0 → IsContext (fill c (leaf 0)) × (occurs 0 x ≡ 0)
zero_once c x z =
    let a = adds c (λ n. one_if (ℕ_discrete n 0)) in
    let s = occurs_self 0 in
    (omega (arith, a.is x, a.is (leaf 0), z, s), omega (arith, a.is x, z))

-- a part of a labelled tree replaced by one with the same leaves
pub labelled-replaced : (arity : ℕ → ℕ) (n : ℕ) (c : Ctx ℕ) (x y : Tree ℕ) → IsLabelled arity n (fill c x) → Fits arity y → ((i : ℕ) → occurs i x ≡ occurs i y) → IsLabelled arity n (fill c y)
labelled-replaced arity n c x y h k e = record {
  fits = fits-fill arity c x y h.fits k;
  each = λ i a b. sym (counts i) ∙ h.each i a b;
  only = λ i o. h.only i (subst (λ m. 0 < m) (sym (counts i)) o);
}
  where
    counts : (i : ℕ) → occurs i (fill c x) ≡ occurs i (fill c y)
    counts i = sum-fill c x y (λ n. one_if (ℕ_discrete n i)) (e i)

-- in a part of a labelled tree no number stands twice
pub once_inside : (arity : ℕ → ℕ) (n : ℕ) (c : Ctx ℕ) (x : Tree ℕ) → IsLabelled arity n (fill c x) → (i : ℕ) → occurs i x ≤ 1
once_inside arity n c x h i = let k : occurs i x ≤ occurs i (fill c x) = sum_of_fill c x (λ m. one_if (ℕ_discrete m i)) in omega (arith, k, labelled_once h i)
