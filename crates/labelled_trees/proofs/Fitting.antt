-- What fits the arities: grafts, parts, fillings.
use Rattle.std.proofs.Common.{◌≡◌, ℕ, suc, ◌≤◌, refl, sym, ◌∙◌, ap, arith}
use Rattle.labelled_trees.specs.Trees.{Tree, Row, leaf, node, none, more, graft, graft_row, width}
use Rattle.labelled_trees.specs.Contexts.{Ctx, RowCtx, hole, inside, here, past, fill, fill_row}
use Rattle.labelled_trees.specs.Leaves.{AllLeaves, AllRow, leaf_count, leaf_count_row}
use Rattle.labelled_trees.specs.Labelled.{Fits, FitsRow}
use Rattle.labelled_trees.specs.Unions.{union_row, union}
use Rattle.labelled_trees.proofs.Leaves.{AllLeaves-each}

pub width-graft : {A B : Type 0} (r : Row A) (s : A → Tree B) → width (graft_row r s) ≡ width r
width-graft none s = refl
width-graft (more t r) s = ap suc (width-graft r s)

pub width-fill : {A : Type 0} (c : RowCtx A) (x y : Tree A) → width (fill_row c x) ≡ width (fill_row c y)
width-fill (here c r) x y = refl
width-fill (past t c) x y = ap suc (width-fill c x y)

pub width-union : {X : Type 0} (r s : Row X) → width (union_row r s) ≡ width r
width-union none s = refl
width-union (more t r) none = refl
width-union (more t r) (more u s) = ap suc (width-union r s)

module _ (arity : ℕ → ℕ) where
  mutual
    pub fits_of_graft : {A B : Type 0} (t : Tree A) (s : A → Tree B) → Fits arity (graft t s) → Fits arity t
    fits_of_graft (leaf a) s h = tt
    fits_of_graft (node l r) s h = (h.0, sym (width-graft r s) ∙ h.1, fits_row_of_graft r s h.2)

    pub fits_row_of_graft : {A B : Type 0} (r : Row A) (s : A → Tree B) → FitsRow arity (graft_row r s) → FitsRow arity r
    fits_row_of_graft none s h = tt
    fits_row_of_graft (more t r) s h = (fits_of_graft t s h.0, fits_row_of_graft r s h.1)

  mutual
    pub fits_parts : {A B : Type 0} (t : Tree A) (s : A → Tree B) → Fits arity (graft t s) → AllLeaves t (λ a. Fits arity (s a))
    fits_parts (leaf a) s h = h
    fits_parts (node l r) s h = fits_parts_row r s h.2

    pub fits_parts_row : {A B : Type 0} (r : Row A) (s : A → Tree B) → FitsRow arity (graft_row r s) → AllRow r (λ a. Fits arity (s a))
    fits_parts_row none s h = tt
    fits_parts_row (more t r) s h = (fits_parts t s h.0, fits_parts_row r s h.1)

  mutual
    pub fits-graft : {A B : Type 0} (t : Tree A) (s : A → Tree B) → Fits arity t → AllLeaves t (λ a. Fits arity (s a)) → Fits arity (graft t s)
    fits-graft (leaf a) s b h = h
    fits-graft (node l r) s b h = (b.0, width-graft r s ∙ b.1, fits_row-graft r s b.2 h)

    pub fits_row-graft : {A B : Type 0} (r : Row A) (s : A → Tree B) → FitsRow arity r → AllRow r (λ a. Fits arity (s a)) → FitsRow arity (graft_row r s)
    fits_row-graft none s b h = tt
    fits_row-graft (more t r) s b h = (fits-graft t s b.0 h.0, fits_row-graft r s b.1 h.1)

  -- other numbers at the leaves change nothing
  pub fits-renamed : (t : Tree ℕ) (w : ℕ → ℕ) → Fits arity t → Fits arity (graft t (λ i. leaf (w i)))
  fits-renamed t w h = fits-graft t (λ i. leaf (w i)) h (AllLeaves-each t (λ i. Fits {A = ℕ} arity (leaf (w i))) (λ i. tt))

  mutual
    pub fits_of_fill : {A : Type 0} (c : Ctx A) (x : Tree A) → Fits arity (fill c x) → Fits arity x
    fits_of_fill hole x h = h
    fits_of_fill (inside l c) x h = fits_of_fill_row c x h.2

    pub fits_of_fill_row : {A : Type 0} (c : RowCtx A) (x : Tree A) → FitsRow arity (fill_row c x) → Fits arity x
    fits_of_fill_row (here c r) x h = fits_of_fill c x h.0
    fits_of_fill_row (past t c) x h = fits_of_fill_row c x h.1

  mutual
    pub fits-fill : {A : Type 0} (c : Ctx A) (x y : Tree A) → Fits arity (fill c x) → Fits arity y → Fits arity (fill c y)
    fits-fill hole x y h b = b
    fits-fill (inside l c) x y h b = (h.0, width-fill c y x ∙ h.1, fits_row-fill c x y h.2 b)

    pub fits_row-fill : {A : Type 0} (c : RowCtx A) (x y : Tree A) → FitsRow arity (fill_row c x) → Fits arity y → FitsRow arity (fill_row c y)
    fits_row-fill (here c r) x y h b = (fits-fill c x y h.0 b, h.1)
    fits_row-fill (past t c) x y h b = (h.0, fits_row-fill c x y h.1 b)

  mutual
    pub fits-union : {X : Type 0} (t q : Tree X) → Fits arity t → Fits arity q → Fits arity (union t q)
    fits-union (leaf a) q h k = k
    fits-union (node l r) (leaf u) h k = h
    fits-union (node l r) (node m s) h k = (h.0, width-union r s ∙ h.1, fits_row-union r s h.2 k.2)

    pub fits_row-union : {X : Type 0} (r s : Row X) → FitsRow arity r → FitsRow arity s → FitsRow arity (union_row r s)
    fits_row-union none s h k = tt
    fits_row-union (more t r) none h k = h
    fits_row-union (more t r) (more u s) h k = (fits-union t u h.0 k.0, fits_row-union r s h.1 k.1)

  mutual
    -- what fits has a leaf
    pub some_leaf : {A : Type 0} (t : Tree A) → Fits arity t → 1 ≤ leaf_count t
    some_leaf (leaf a) h = omega arith
    some_leaf (node l r) h = omega (arith, some_leaves r h.2, h.0, h.1)

    some_leaves : {A : Type 0} (r : Row A) → FitsRow arity r → width r ≤ leaf_count_row r
    some_leaves none h = omega arith
    some_leaves (more t r) h = omega (arith, some_leaf t h.0, some_leaves r h.1)
