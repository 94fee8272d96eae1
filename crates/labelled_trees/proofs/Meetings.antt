-- Two places in one tree: one lies in what fills the other, or they lie in different branches.
use Rattle.std.proofs.Common.{◌≡◌, ℕ, refl, sym, ap, inl, inr, ◌⊎◌}
use mathlib.Core.Path.{ap₂}
use Rattle.labelled_trees.specs.Trees.{Tree, Row, node, more}
use Rattle.labelled_trees.specs.Contexts.{Ctx, RowCtx, hole, inside, here, past, fill, fill_row, compose, compose_row}
use Rattle.labelled_trees.proofs.Contexts.{more-eq, node-eq}

-- the hole of d lies in what fills c
pub record Above (A : Type 0) (c d : Ctx A) (x y : Tree A) : Type 0 where
  pub rest : Ctx A
  pub is : d ≡ compose c rest
  pub inner : x ≡ fill rest y

pub record AboveRow (A : Type 0) (c d : RowCtx A) (x y : Tree A) : Type 0 where
  pub rest : Ctx A
  pub is : d ≡ compose_row c rest
  pub inner : x ≡ fill rest y

-- the two holes lie in different branches: each hole may be filled anew
pub record Apart (A : Type 0) (c d : Ctx A) (x y : Tree A) : Type 0 where
  pub first : Tree A → Ctx A
  pub second : Tree A → Ctx A
  pub first_is : first y ≡ c
  pub second_is : second x ≡ d
  pub commute : (v w : Tree A) → fill (first w) v ≡ fill (second v) w

pub record ApartRow (A : Type 0) (c d : RowCtx A) (x y : Tree A) : Type 0 where
  pub first : Tree A → RowCtx A
  pub second : Tree A → RowCtx A
  pub first_is : first y ≡ c
  pub second_is : second x ≡ d
  pub commute : (v w : Tree A) → fill_row (first w) v ≡ fill_row (second v) w

abbrev pub Meeting : (A : Type 0) → Ctx A → Ctx A → Tree A → Tree A → Type 0
Meeting A c d x y = Above A c d x y ⊎ (Above A d c y x ⊎ Apart A c d x y)

abbrev pub MeetingRow : (A : Type 0) → RowCtx A → RowCtx A → Tree A → Tree A → Type 0
MeetingRow A c d x y = AboveRow A c d x y ⊎ (AboveRow A d c y x ⊎ ApartRow A c d x y)

into_node : {A : Type 0} (l m : ℕ) (c d : RowCtx A) (x y : Tree A) → l ≡ m → MeetingRow A c d x y → Meeting A (inside l c) (inside m d) x y
into_node l m c d x y e (inl a) = inl record { rest = a.rest; is = ap₂ inside (sym e) a.is; inner = a.inner }
into_node l m c d x y e (inr (inl a)) = inr (inl record { rest = a.rest; is = ap₂ inside e a.is; inner = a.inner })
into_node l m c d x y e (inr (inr a)) = inr (inr record {
  first = λ w. inside l (a.first w);
  second = λ v. inside m (a.second v);
  first_is = ap (inside l) a.first_is;
  second_is = ap (inside m) a.second_is;
  commute = λ v w. ap₂ node e (a.commute v w);
})

into_here : {A : Type 0} (r s : Row A) (c d : Ctx A) (x y : Tree A) → r ≡ s → Meeting A c d x y → MeetingRow A (here c r) (here d s) x y
into_here r s c d x y e (inl a) = inl record { rest = a.rest; is = ap₂ here a.is (sym e); inner = a.inner }
into_here r s c d x y e (inr (inl a)) = inr (inl record { rest = a.rest; is = ap₂ here a.is e; inner = a.inner })
into_here r s c d x y e (inr (inr a)) = inr (inr record {
  first = λ w. here (a.first w) r;
  second = λ v. here (a.second v) s;
  first_is = ap (λ k. here k r) a.first_is;
  second_is = ap (λ k. here k s) a.second_is;
  commute = λ v w. ap₂ more (a.commute v w) e;
})

into_past : {A : Type 0} (t u : Tree A) (c d : RowCtx A) (x y : Tree A) → t ≡ u → MeetingRow A c d x y → MeetingRow A (past t c) (past u d) x y
into_past t u c d x y e (inl a) = inl record { rest = a.rest; is = ap₂ past (sym e) a.is; inner = a.inner }
into_past t u c d x y e (inr (inl a)) = inr (inl record { rest = a.rest; is = ap₂ past e a.is; inner = a.inner })
into_past t u c d x y e (inr (inr a)) = inr (inr record {
  first = λ w. past t (a.first w);
  second = λ v. past u (a.second v);
  first_is = ap (past t) a.first_is;
  second_is = ap (past u) a.second_is;
  commute = λ v w. ap₂ more e (a.commute v w);
})

mutual
  -- two places in one tree
  pub meeting : {A : Type 0} (c d : Ctx A) (x y : Tree A) → fill c x ≡ fill d y → Meeting A c d x y
  meeting hole d x y e = inl record { rest = d; is = refl; inner = e }
  meeting (inside l c) hole x y e = inr (inl record { rest = inside l c; is = refl; inner = sym e })
  meeting (inside l c) (inside m d) x y e =
      let p = node-eq l m (fill_row c x) (fill_row d y) e in
      into_node l m c d x y p.0 (meeting_row c d x y p.1)

  pub meeting_row : {A : Type 0} (c d : RowCtx A) (x y : Tree A) → fill_row c x ≡ fill_row d y → MeetingRow A c d x y
  meeting_row (here c r) (here d s) x y e =
      let p = more-eq (fill c x) (fill d y) r s e in
      into_here r s c d x y p.1 (meeting c d x y p.0)
  meeting_row (past t c) (past u d) x y e =
      let p = more-eq t u (fill_row c x) (fill_row d y) e in
      into_past t u c d x y p.0 (meeting_row c d x y p.1)
  meeting_row (here c r) (past u d) x y e =
      let p = more-eq (fill c x) u r (fill_row d y) e in
      inr (inr record {
        first = λ w. here c (fill_row d w);
        second = λ v. past (fill c v) d;
        first_is = ap (here c) (sym p.1);
        second_is = ap (λ k. past k d) p.0;
        commute = λ v w. refl;
      })
  meeting_row (past t c) (here d s) x y e =
      let p = more-eq t (fill d y) (fill_row c x) s e in
      inr (inr record {
        first = λ w. past (fill d w) c;
        second = λ v. here d (fill_row c v);
        first_is = ap (λ k. past k c) (sym p.0);
        second_is = ap (here d) p.1;
        commute = λ v w. refl;
      })
