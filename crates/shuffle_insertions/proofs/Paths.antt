-- The comparison by words is kept by insertion.
use Rattle.std.proofs.Common.{◌≡◌, ℕ, ◌+◌, ◌<◌, ◌≤◌, List, [], ◌∷◌, refl, sym, ◌∙◌, ap, arith, subst, inl, inr, ◌⊎◌, length-append}
use mathlib.Core.List.{◌++◌}
use native.Mathlib.Decide.{ℕ_discrete, dec_lt}
use Rattle.labelled_trees.specs.Trees.{Tree, Row, leaf, node, none, more, graft, graft_row}
use Rattle.labelled_trees.specs.Contexts.{Ctx, RowCtx, hole, inside, here, past, fill, fill_row}
use Rattle.shuffle_insertions.specs.ShuffleTrees.{least, IsShuffle}
use Rattle.shuffle_insertions.proofs.PathWords.{hole_word, hole_word_row, HasWord, HasWordRow, HasWordCtx, HasWordRowCtx, LexLess, WordLess, ShortLess, SameWord, LessByWords}
use Rattle.labelled_trees.specs.Leaves.{one_if, occurs, occurs_row}
use Rattle.shuffle_insertions.specs.Slots.{Slot, fill_slot, PartsRise}
use Rattle.labelled_trees.proofs.Leaves.{at_leaf}
use Rattle.shuffle_insertions.proofs.Rising.{least-occurs, least-le}
use Rattle.shuffle_insertions.proofs.Insertions.{InRange}

one_if_pos : (n j : ℕ) (d : Dec (n ≡ j)) → 0 < one_if d → n ≡ j
one_if_pos n j (yes e) h = e
one_if_pos n j (no _) h = absurd (omega arith)

one_if_eq : (n j : ℕ) (d : Dec (n ≡ j)) → n ≡ j → 0 < one_if d
one_if_eq n j (yes _) e = omega arith
one_if_eq n j (no f) e = absurd (f e)

some_word : (a b : ℕ) (P Q : List ℕ → Type 0) → Dec (0 < a) → (0 < a → (w : List ℕ) × P w) → (0 < b → (w : List ℕ) × Q w) → 0 < a + b → (w : List ℕ) × (P w ⊎ Q w)
some_word a b P Q (yes h) f g k = let r = f h in (r.0, inl r.1)
some_word a b P Q (no z) f g k = let r = g (omega arith) in (r.0, inr r.1)

mutual
  pub word_of : (t : Tree ℕ) (j : ℕ) → 0 < occurs j t → (w : List ℕ) × HasWord t j w
  word_of (leaf n) j o = ([], (one_if_pos n j (ℕ_discrete n j) o, refl))
  word_of (node l r) j o = let w = word_of_row r j o in (l ∷ w.0, (w.0, refl, w.1))

  pub word_of_row : (r : Row ℕ) (j : ℕ) → 0 < occurs_row j r → (w : List ℕ) × HasWordRow r j w
  word_of_row none j o = absurd (omega arith)
  word_of_row (more t r) j o = some_word (occurs j t) (occurs_row j r) (HasWord t j) (HasWordRow r j) (dec_lt 0 (occurs j t)) (λ h. word_of t j h) (λ h. word_of_row r j h) o

mutual
  pub word-occurs : (t : Tree ℕ) (j : ℕ) (w : List ℕ) → HasWord t j w → 0 < occurs j t
  word-occurs (leaf n) j w h = one_if_eq n j (ℕ_discrete n j) h.0
  word-occurs (node l r) j w h = word-occurs_row r j h.0 h.2

  pub word-occurs_row : (r : Row ℕ) (j : ℕ) (w : List ℕ) → HasWordRow r j w → 0 < occurs_row j r
  word-occurs_row none j w h = absurd h
  word-occurs_row (more t r) j w (inl h) = omega (arith, word-occurs t j w h)
  word-occurs_row (more t r) j w (inr h) = omega (arith, word-occurs_row r j w h)

mutual
  -- a leaf number that stands once has one word
  pub one_word : (t : Tree ℕ) (j : ℕ) (v w : List ℕ) → occurs j t ≤ 1 → HasWord t j v → HasWord t j w → v ≡ w
  one_word (leaf n) j v w o h k = h.1 ∙ sym k.1
  one_word (node l r) j v w o h k = h.1 ∙ ap (λ u. l ∷ u) (one_word_row r j h.0 k.0 o h.2 k.2) ∙ sym k.1

  pub one_word_row : (r : Row ℕ) (j : ℕ) (v w : List ℕ) → occurs_row j r ≤ 1 → HasWordRow r j v → HasWordRow r j w → v ≡ w
  one_word_row none j v w o h k = absurd h
  one_word_row (more t r) j v w o (inl h) (inl k) = one_word t j v w (omega arith) h k
  one_word_row (more t r) j v w o (inr h) (inr k) = one_word_row r j v w (omega arith) h k
  one_word_row (more t r) j v w o (inl h) (inr k) = absurd (omega (arith, o, word-occurs t j v h, word-occurs_row r j w k))
  one_word_row (more t r) j v w o (inr h) (inl k) = absurd (omega (arith, o, word-occurs_row r j v h, word-occurs t j w k))

-- a word in a graft: of a leaf, then within what stands for it
pub record ThroughLeaf (P : ℕ → List ℕ → Type 0) (s : ℕ → Tree ℕ) (j : ℕ) (w : List ℕ) : Type 0 where
  pub leaf_is : ℕ
  pub outer : List ℕ
  pub inner : List ℕ
  pub has_outer : P leaf_is outer
  pub has_inner : HasWord (s leaf_is) j inner
  pub word_is : w ≡ outer ++ inner

under_label : (l : ℕ) (r : Row ℕ) (s : ℕ → Tree ℕ) (j : ℕ) (w v : List ℕ) → w ≡ l ∷ v → ThroughLeaf (HasWordRow r) s j v → ThroughLeaf (HasWord (node l r)) s j w
under_label l r s j w v e h = record { leaf_is = h.leaf_is; outer = l ∷ h.outer; inner = h.inner; has_outer = (h.outer, refl, h.has_outer); has_inner = h.has_inner; word_is = e ∙ ap (λ u. l ∷ u) h.word_is }

in_first : (t : Tree ℕ) (r : Row ℕ) (s : ℕ → Tree ℕ) (j : ℕ) (w : List ℕ) → ThroughLeaf (HasWord t) s j w → ThroughLeaf (HasWordRow (more t r)) s j w
in_first t r s j w h = record { leaf_is = h.leaf_is; outer = h.outer; inner = h.inner; has_outer = inl h.has_outer; has_inner = h.has_inner; word_is = h.word_is }

in_rest : (t : Tree ℕ) (r : Row ℕ) (s : ℕ → Tree ℕ) (j : ℕ) (w : List ℕ) → ThroughLeaf (HasWordRow r) s j w → ThroughLeaf (HasWordRow (more t r)) s j w
in_rest t r s j w h = record { leaf_is = h.leaf_is; outer = h.outer; inner = h.inner; has_outer = inr h.has_outer; has_inner = h.has_inner; word_is = h.word_is }

mutual
  pub word_in_graft : (t : Tree ℕ) (s : ℕ → Tree ℕ) (j : ℕ) (w : List ℕ) → HasWord (graft t s) j w → ThroughLeaf (HasWord t) s j w
  word_in_graft (leaf n) s j w h = record { leaf_is = n; outer = []; inner = w; has_outer = (refl, refl); has_inner = h; word_is = refl }
  word_in_graft (node l r) s j w h = under_label l r s j w h.0 h.1 (word_in_graft_row r s j h.0 h.2)

  pub word_in_graft_row : (r : Row ℕ) (s : ℕ → Tree ℕ) (j : ℕ) (w : List ℕ) → HasWordRow (graft_row r s) j w → ThroughLeaf (HasWordRow r) s j w
  word_in_graft_row none s j w h = absurd h
  word_in_graft_row (more t r) s j w (inl h) = in_first t r s j w (word_in_graft t s j w h)
  word_in_graft_row (more t r) s j w (inr h) = in_rest t r s j w (word_in_graft_row r s j w h)

mutual
  pub graft_has : (t : Tree ℕ) (s : ℕ → Tree ℕ) (i j : ℕ) (u v : List ℕ) → HasWord t i u → HasWord (s i) j v → HasWord (graft t s) j (u ++ v)
  graft_has (leaf n) s i j u v h k = subst (λ x. HasWord (s n) j (x ++ v)) (sym h.1) (subst (λ m. HasWord (s m) j v) (sym h.0) k)
  graft_has (node l r) s i j u v h k = (h.0 ++ v, ap (λ x. x ++ v) h.1, graft_row_has r s i j h.0 v h.2 k)

  pub graft_row_has : (r : Row ℕ) (s : ℕ → Tree ℕ) (i j : ℕ) (u v : List ℕ) → HasWordRow r i u → HasWord (s i) j v → HasWordRow (graft_row r s) j (u ++ v)
  graft_row_has none s i j u v h k = absurd h
  graft_row_has (more t r) s i j u v (inl h) k = inl (graft_has t s i j u v h k)
  graft_row_has (more t r) s i j u v (inr h) k = inr (graft_row_has r s i j u v h k)

abbrev InHole : (P : List ℕ → Type 0) → List ℕ → List ℕ → Type 0
InHole P h w = (v : List ℕ) × P v × (w ≡ h ++ v)

lift_left : (P Q R : Type 0) → P ⊎ R → (P ⊎ Q) ⊎ R
lift_left P Q R (inl p) = inl (inl p)
lift_left P Q R (inr r) = inr r

lift_right : (P Q R : Type 0) → Q ⊎ R → (P ⊎ Q) ⊎ R
lift_right P Q R (inl q) = inl (inr q)
lift_right P Q R (inr r) = inr r

lift_ctx : (l : ℕ) (c : RowCtx ℕ) (P : List ℕ → Type 0) (j : ℕ) (w v : List ℕ) → w ≡ l ∷ v → HasWordRowCtx c j v ⊎ InHole P (hole_word_row c) v
    → HasWordCtx (inside l c) j w ⊎ InHole P (l ∷ hole_word_row c) w
lift_ctx l c P j w v e (inl h) = inl (v, e, h)
lift_ctx l c P j w v e (inr h) = inr (h.0, h.1, e ∙ ap (λ u. l ∷ u) h.2)

mutual
  pub word_in_fill : (c : Ctx ℕ) (x : Tree ℕ) (j : ℕ) (w : List ℕ) → HasWord (fill c x) j w → HasWordCtx c j w ⊎ InHole (HasWord x j) (hole_word c) w
  word_in_fill hole x j w h = inr (w, h, refl)
  word_in_fill (inside l c) x j w h = lift_ctx l c (HasWord x j) j w h.0 h.1 (word_in_fill_row c x j h.0 h.2)

  pub word_in_fill_row : (c : RowCtx ℕ) (x : Tree ℕ) (j : ℕ) (w : List ℕ) → HasWordRow (fill_row c x) j w → HasWordRowCtx c j w ⊎ InHole (HasWord x j) (hole_word_row c) w
  word_in_fill_row (here c r) x j w (inl h) = lift_left (HasWordCtx c j w) (HasWordRow r j w) (InHole (HasWord x j) (hole_word c) w) (word_in_fill c x j w h)
  word_in_fill_row (here c r) x j w (inr h) = inl (inr h)
  word_in_fill_row (past t c) x j w (inl h) = inl (inl h)
  word_in_fill_row (past t c) x j w (inr h) = lift_right (HasWord t j w) (HasWordRowCtx c j w) (InHole (HasWord x j) (hole_word_row c) w) (word_in_fill_row c x j w h)

mutual
  pub fill_has : (c : Ctx ℕ) (x : Tree ℕ) (j : ℕ) (v : List ℕ) → HasWord x j v → HasWord (fill c x) j (hole_word c ++ v)
  fill_has hole x j v h = h
  fill_has (inside l c) x j v h = (hole_word_row c ++ v, refl, fill_row_has c x j v h)

  pub fill_row_has : (c : RowCtx ℕ) (x : Tree ℕ) (j : ℕ) (v : List ℕ) → HasWord x j v → HasWordRow (fill_row c x) j (hole_word_row c ++ v)
  fill_row_has (here c r) x j v h = inl (fill_has c x j v h)
  fill_row_has (past t c) x j v h = inr (fill_row_has c x j v h)

mutual
  pub ctx_has : (c : Ctx ℕ) (x : Tree ℕ) (j : ℕ) (w : List ℕ) → HasWordCtx c j w → HasWord (fill c x) j w
  ctx_has hole x j w h = absurd h
  ctx_has (inside l c) x j w h = (h.0, h.1, ctx_row_has c x j h.0 h.2)

  pub ctx_row_has : (c : RowCtx ℕ) (x : Tree ℕ) (j : ℕ) (w : List ℕ) → HasWordRowCtx c j w → HasWordRow (fill_row c x) j w
  ctx_row_has (here c r) x j w (inl h) = inl (ctx_has c x j w h)
  ctx_row_has (here c r) x j w (inr h) = inr h
  ctx_row_has (past t c) x j w (inl h) = inl h
  ctx_row_has (past t c) x j w (inr h) = inr (ctx_row_has c x j w h)

pub LexLess-under : (a v w : List ℕ) → LexLess v w → LexLess (a ++ v) (a ++ w)
LexLess-under [] v w h = h
LexLess-under (x ∷ a) v w h = inr (refl, LexLess-under a v w h)

pub LexLess-before : (v w b c : List ℕ) → LexLess v w → LexLess (v ++ b) (w ++ c)
LexLess-before [] w b c h = absurd h
LexLess-before (x ∷ v) [] b c h = absurd h
LexLess-before (x ∷ v) (y ∷ w) b c (inl h) = inl h
LexLess-before (x ∷ v) (y ∷ w) b c (inr h) = inr (h.0, LexLess-before v w b c h.1)

pub WordLess-between : (a v w b : List ℕ) → WordLess v w → WordLess (a ++ (v ++ b)) (a ++ (w ++ b))
WordLess-between a v w b (inl h) = inl (rw (length-append a (v ++ b), length-append a (w ++ b), length-append v b, length-append w b) (omega arith))
WordLess-between a v w b (inr h) = inr (rw (length-append a (v ++ b), length-append a (w ++ b), length-append v b, length-append w b) (omega (arith, h.0)), LexLess-under a (v ++ b) (w ++ b) (LexLess-before v w b b h.1))

pub ShortLess-between : (a v w b : List ℕ) → ShortLess v w → ShortLess (a ++ (v ++ b)) (a ++ (w ++ b))
ShortLess-between a v w b (inl h) = inl (rw (length-append a (v ++ b), length-append a (w ++ b), length-append v b, length-append w b) (omega arith))
ShortLess-between a v w b (inr h) = inr (rw (length-append a (v ++ b), length-append a (w ++ b), length-append v b, length-append w b) (omega (arith, h.0)), LexLess-under a (v ++ b) (w ++ b) (LexLess-before v w b b h.1))

module _ (k n : ℕ) (f : Slot) (x y : Tree ℕ) (rise : PartsRise k f.parts) (hx : IsShuffle k x) (hy : IsShuffle k y) (vx : IsShuffle n (fill_slot f x)) where
  once_host : (j : ℕ) → occurs j (fill_slot f x) ≤ 1
  once_host j = go (dec_lt 0 (occurs j (fill_slot f x)))
    where
      go : Dec (0 < occurs j (fill_slot f x)) → occurs j (fill_slot f x) ≤ 1
      go (yes o) = let r = vx.only j o in let e : occurs j (fill_slot f x) ≡ 1 = vx.each j r.0 r.1 in omega arith
      go (no z) = omega arith

  -- where the words agree at the leaves whose parts have a leaf j, they agree at j
  pub same_after : (j : ℕ) → ((i : ℕ) (v : List ℕ) → InRange k i → HasWord (f.parts i) j v → SameWord x y i) → SameWord (fill_slot f x) (fill_slot f y) j
  same_after j agree v w hv hw = go (word_in_fill f.context (graft y f.parts) j w hw)
    where
      in_part : (u : List ℕ) → w ≡ hole_word f.context ++ u → ThroughLeaf (HasWord y) f.parts j u → v ≡ w
      in_part u e p =
          let among : InRange k p.leaf_is = hy.only p.leaf_is (word-occurs y p.leaf_is p.outer p.has_outer) in
          let o = word_of x p.leaf_is (let one : occurs p.leaf_is x ≡ 1 = hx.each p.leaf_is among.0 among.1 in omega arith) in
          let same : o.0 ≡ p.outer = agree p.leaf_is p.inner among p.has_inner o.0 p.outer o.1 p.has_outer in
          one_word (fill_slot f x) j v (hole_word f.context ++ (o.0 ++ p.inner)) (once_host j) hv (fill_has f.context (graft x f.parts) j (o.0 ++ p.inner) (graft_has x f.parts p.leaf_is j o.0 p.inner o.1 p.has_inner))
          ∙ ap (λ m. hole_word f.context ++ (m ++ p.inner)) same ∙ ap (λ m. hole_word f.context ++ m) (sym p.word_is) ∙ sym e

      go : HasWordCtx f.context j w ⊎ InHole (HasWord (graft y f.parts) j) (hole_word f.context) w → v ≡ w
      go (inl h) = one_word (fill_slot f x) j v w (once_host j) hv (ctx_has f.context (graft x f.parts) j w h)
      go (inr h) = in_part h.0 h.2 (word_in_graft y f.parts j h.0 h.1)

  pub words_kept : (Before : List ℕ → List ℕ → Type 0) → ((a v w b : List ℕ) → Before v w → Before (a ++ (v ++ b)) (a ++ (w ++ b)))
      → LessByWords Before x y → LessByWords Before (fill_slot f x) (fill_slot f y)
  words_kept Before between h =
      let among : InRange k h.at = hx.only h.at (word-occurs x h.at h.first_word h.has_first) in
      let inner = word_of (f.parts h.at) (least (f.parts h.at)) (least-occurs (f.parts h.at) (rise.each h.at among.0 among.1)) in
      record {
        at = least (f.parts h.at);
        first_word = hole_word f.context ++ (h.first_word ++ inner.0);
        second_word = hole_word f.context ++ (h.second_word ++ inner.0);
        has_first = fill_has f.context (graft x f.parts) (least (f.parts h.at)) (h.first_word ++ inner.0) (graft_has x f.parts h.at (least (f.parts h.at)) h.first_word inner.0 h.has_first inner.1);
        has_second = fill_has f.context (graft y f.parts) (least (f.parts h.at)) (h.second_word ++ inner.0) (graft_has y f.parts h.at (least (f.parts h.at)) h.second_word inner.0 h.has_second inner.1);
        before = λ j lt. same_after j (λ i v a hv. h.before i (earlier h.at among j lt i v a hv (dec_lt i h.at)));
        less = between (hole_word f.context) h.first_word h.second_word inner.0 h.less;
      }
    where
      earlier : (m : ℕ) → InRange k m → (j : ℕ) → j < least (f.parts m) → (i : ℕ) (v : List ℕ) → InRange k i → HasWord (f.parts i) j v → Dec (i < m) → i < m
      earlier m am j lt i v a hv (yes h) = h
      earlier m am j lt i v a hv (no z) =
          let low : least (f.parts i) ≤ j = at_leaf (f.parts i) (λ l. least (f.parts i) ≤ l) j (least-le (f.parts i) (rise.each i a.0 a.1)) (word-occurs (f.parts i) j v hv) in
          absurd (later (ℕ_discrete m i) low)
        where
          later : Dec (m ≡ i) → least (f.parts i) ≤ j → ⊥
          later (yes e) low = let same : least (f.parts m) ≡ least (f.parts i) = ap (λ l. least (f.parts l)) e in omega arith
          later (no ne) low = let more' : least (f.parts m) < least (f.parts i) = rise.order m i am.0 (omega (arith, z, ne)) a.1 in omega arith
