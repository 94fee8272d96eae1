-- The comparison by the leaf row is kept by insertion.
use Rattle.std.proofs.Common.{◌≡◌, ℕ, List, [], ◌∷◌, refl, sym, ◌∙◌, ap, subst, inl, inr, append_assoc}
use mathlib.Core.Path.{ap₂}
use mathlib.Core.List.{◌++◌, append-nil}
use Rattle.labelled_trees.specs.Trees.{Tree, Row, leaf, node, none, more, graft, graft_row, leaves, leaves_row}
use Rattle.labelled_trees.specs.Contexts.{Ctx, RowCtx, hole, inside, here, past, fill, fill_row}
use Rattle.shuffle_insertions.specs.ShuffleTrees.{least, least_row, IsRising, IsRisingRow, HasInput}
use Rattle.labelled_trees.specs.Leaves.{AllLeaves, AllRow}
use Rattle.shuffle_insertions.specs.Slots.{PartsRise}
use Rattle.shuffle_insertions.proofs.PathWords.{LexLess}
use Rattle.shuffle_insertions.proofs.Insertions.{InRange}
use Rattle.shuffle_insertions.proofs.Paths.{LexLess-under, LexLess-before}

abbrev pub rows : List ℕ → (ℕ → Tree ℕ) → List ℕ
rows [] s = []
rows (i ∷ l) s = leaves (s i) ++ rows l s

rows-append : (k l : List ℕ) (s : ℕ → Tree ℕ) → rows (k ++ l) s ≡ rows k s ++ rows l s
rows-append [] l s = refl
rows-append (i ∷ k) l s = ap (λ m. leaves (s i) ++ m) (rows-append k l s) ∙ sym (append_assoc (leaves (s i)) (rows k s) (rows l s))

mutual
  pub leaves-graft : (t : Tree ℕ) (s : ℕ → Tree ℕ) → leaves (graft t s) ≡ rows (leaves t) s
  leaves-graft (leaf i) s = sym (append-nil (leaves (s i)))
  leaves-graft (node l r) s = leaves_row-graft r s

  leaves_row-graft : (r : Row ℕ) (s : ℕ → Tree ℕ) → leaves_row (graft_row r s) ≡ rows (leaves_row r) s
  leaves_row-graft none s = refl
  leaves_row-graft (more t r) s = ap₂ (λ k l. k ++ l) (leaves-graft t s) (leaves_row-graft r s) ∙ sym (rows-append (leaves t) (leaves_row r) s)

mutual
  pub less-fill : (c : Ctx ℕ) (x y : Tree ℕ) → LexLess (leaves x) (leaves y) → LexLess (leaves (fill c x)) (leaves (fill c y))
  less-fill hole x y h = h
  less-fill (inside l c) x y h = less-fill_row c x y h

  less-fill_row : (c : RowCtx ℕ) (x y : Tree ℕ) → LexLess (leaves x) (leaves y) → LexLess (leaves_row (fill_row c x)) (leaves_row (fill_row c y))
  less-fill_row (here c r) x y h = LexLess-before (leaves (fill c x)) (leaves (fill c y)) (leaves_row r) (leaves_row r) (less-fill c x y h)
  less-fill_row (past t c) x y h = LexLess-under (leaves t) (leaves_row (fill_row c x)) (leaves_row (fill_row c y)) (less-fill_row c x y h)

mutual
  first_leaf : (t : Tree ℕ) → IsRising t → (l : List ℕ) × (leaves t ≡ least t ∷ l)
  first_leaf (leaf n) h = ([], refl)
  first_leaf (node l r) h = first_leaf_row r h.0 h.1

  first_leaf_row : (r : Row ℕ) → HasInput r → IsRisingRow r → (l : List ℕ) × (leaves_row r ≡ least_row r ∷ l)
  first_leaf_row none h g = absurd h
  first_leaf_row (more t r) h g = let f = first_leaf t g.0 in (f.0 ++ leaves_row r, ap (λ k. k ++ leaves_row r) f.1)

abbrev pub AllIn : List ℕ → (ℕ → Type 0) → Type 0
AllIn [] P = Unit {0}
AllIn (i ∷ l) P = P i × AllIn l P

AllIn-append : (k l : List ℕ) (P : ℕ → Type 0) → AllIn k P → AllIn l P → AllIn (k ++ l) P
AllIn-append [] l P h g = g
AllIn-append (i ∷ k) l P h g = (h.0, AllIn-append k l P h.1 g)

mutual
  pub all_in : (t : Tree ℕ) (P : ℕ → Type 0) → AllLeaves t P → AllIn (leaves t) P
  all_in (leaf n) P h = (h, tt)
  all_in (node l r) P h = all_in_row r P h

  all_in_row : (r : Row ℕ) (P : ℕ → Type 0) → AllRow r P → AllIn (leaves_row r) P
  all_in_row none P h = tt
  all_in_row (more t r) P h = AllIn-append (leaves t) (leaves_row r) P (all_in t P h.0) (all_in_row r P h.1)

pub less_rows : (k : ℕ) (s : ℕ → Tree ℕ) → PartsRise k s → (v w : List ℕ) → AllIn v (InRange k) → AllIn w (InRange k) → LexLess v w → LexLess (rows v s) (rows w s)
less_rows k s r [] w a b h = absurd h
less_rows k s r (x ∷ v) [] a b h = absurd h
less_rows k s r (x ∷ v) (y ∷ w) a b (inl lt) =
    let p = first_leaf (s x) (r.each x a.0.0 a.0.1) in
    let o = first_leaf (s y) (r.each y b.0.0 b.0.1) in
    rw (p.1, o.1) (inl (r.order x y a.0.0 lt b.0.1))
less_rows k s r (x ∷ v) (y ∷ w) a b (inr h) =
    subst (λ m. LexLess (leaves (s x) ++ rows v s) (leaves (s m) ++ rows w s)) h.0 (LexLess-under (leaves (s x)) (rows v s) (rows w s) (less_rows k s r v w a.1 b.1 h.1))
