-- Two places in one tree that lie in different branches, or one in a hanging part of the other.
use Rattle.std.proofs.Common.{◌≡◌, ℕ, ◌<◌, ◌≤◌, refl, sym, ◌∙◌, ap, arith, subst}
use native.Mathlib.Decide.{ℕ_discrete, dec_lt}
use Rattle.labelled_trees.specs.Trees.{Tree, leaf, graft}
use Rattle.labelled_trees.specs.Contexts.{Ctx, hole, fill, compose, graft_ctx}
use Rattle.shuffle_insertions.specs.ShuffleTrees.{least, IsRising, IsShuffle}
use Rattle.labelled_trees.specs.Leaves.{one_if, occurs}
use Rattle.shuffle_insertions.specs.Slots.{Slot, fill_slot, PartsRise}
use Rattle.labelled_trees.proofs.Meetings.{Apart}
use Rattle.labelled_trees.proofs.Contexts.{fill-compose}
use Rattle.labelled_trees.proofs.GraftLeaves.{graft_ext}
use Rattle.labelled_trees.proofs.Leaves.{by_leaf, one_if-yes}
use Rattle.shuffle_insertions.proofs.Rising.{rising-fill, least-fill}
use Rattle.shuffle_insertions.proofs.Insertions.{least-graft, rising-graft, same_least}
use Rattle.shuffle_insertions.proofs.LabelSums.{once_of}
use Rattle.labelled_trees.proofs.ContextLeaves.{sum_of_fill}
use Rattle.labelled_trees.proofs.Holes.{hole_at, updated, updated_same, updated_other, updated_back, graft-updated}

-- a shuffle tree in a slot
pub record Laid : Type 0 where
  pub size : ℕ
  pub tree : Tree ℕ
  pub at : Slot
  pub valid : IsShuffle size tree
  pub rises : PartsRise size at.parts

-- a tree for each choice of what stands at two places without a common vertex
pub record Separate (i j : Laid) : Type 0 where
  pub both : Tree ℕ → Tree ℕ → Tree ℕ
  pub first_at : Tree ℕ → Slot
  pub second_at : Tree ℕ → Slot
  pub first_rise : (y : Tree ℕ) → IsShuffle j.size y → PartsRise i.size (first_at y).parts
  pub second_rise : (x : Tree ℕ) → IsShuffle i.size x → PartsRise j.size (second_at x).parts
  pub first_is : (x y : Tree ℕ) → IsShuffle i.size x → IsShuffle j.size y → fill_slot (first_at y) x ≡ both x y
  pub second_is : (x y : Tree ℕ) → IsShuffle i.size x → IsShuffle j.size y → fill_slot (second_at x) y ≡ both x y
  pub at_second_lead : (x : Tree ℕ) → IsShuffle i.size x → both x j.tree ≡ fill_slot i.at x
  pub at_first_lead : (y : Tree ℕ) → IsShuffle j.size y → both i.tree y ≡ fill_slot j.at y

pub branches : (i j : Laid) → Apart ℕ i.at.context j.at.context (graft i.tree i.at.parts) (graft j.tree j.at.parts)
    → Separate i j
branches i j p = record {
  both = λ x y. fill (p.first (graft y j.at.parts)) (graft x i.at.parts);
  first_at = λ y. record { context = p.first (graft y j.at.parts); parts = i.at.parts };
  second_at = λ x. record { context = p.second (graft x i.at.parts); parts = j.at.parts };
  first_rise = λ y h. i.rises;
  second_rise = λ x h. j.rises;
  first_is = λ x y hx hy. refl;
  second_is = λ x y hx hy. sym (p.commute (graft x i.at.parts) (graft y j.at.parts));
  at_second_lead = λ x h. ap (λ c. fill c (graft x i.at.parts)) p.first_is;
  at_first_lead = λ y h. p.commute (graft i.tree i.at.parts) (graft y j.at.parts) ∙ ap (λ c. fill c (graft y j.at.parts)) p.second_is;
}

-- the second place in a hanging part of the first
module _ (i j : Laid) (front rest : Ctx ℕ) (k : ℕ) (lead_is : i.tree ≡ fill front (leaf k))
    (second_is : j.at.context ≡ compose i.at.context (compose (graft_ctx front i.at.parts) rest))
    (inner : i.at.parts k ≡ fill rest (graft j.tree j.at.parts)) where
  a : Tree ℕ
  a = i.tree

  s : ℕ → Tree ℕ
  s = i.at.parts

  t : ℕ → Tree ℕ
  t = j.at.parts

  there : 0 < occurs k i.tree
  there = subst (λ x. 0 < occurs k x) (sym lead_is) (stands front)
    where
      stands : (c : Ctx ℕ) → 0 < occurs k (fill c (leaf k))
      stands c =
          let e : one_if (ℕ_discrete k k) ≡ 1 = one_if-yes (ℕ_discrete k k) refl in
          omega (arith, sum_of_fill c (leaf k) (λ m. one_if (ℕ_discrete m k)))

  among : (0 < k) × (k ≤ i.size)
  among = i.valid.only k there

  stands_in : (x : Tree ℕ) → IsShuffle i.size x → 0 < occurs k x
  stands_in x h = let e : occurs k x ≡ 1 = h.each k among.0 among.1 in omega arith

  filled : Tree ℕ → Tree ℕ
  filled y = fill rest (graft y j.at.parts)

  changed : Tree ℕ → ℕ → Tree ℕ
  changed y = updated i.at.parts k (filled y)

  same_filled : (y : Tree ℕ) → IsShuffle j.size y → least (graft y j.at.parts) ≡ least (graft j.tree j.at.parts)
  same_filled y h =
      least-graft j.size j.at.parts j.rises y h ∙ ap (λ m. least (j.at.parts m)) (same_least j.size y j.tree h j.valid)
      ∙ sym (least-graft j.size j.at.parts j.rises j.tree j.valid)

  least_filled : (y : Tree ℕ) → IsShuffle j.size y → least (filled y) ≡ least (i.at.parts k)
  unfolding filled
  least_filled y h = least-fill rest (graft y j.at.parts) (graft j.tree j.at.parts) (same_filled y h) ∙ ap least (sym inner)

  rising_filled : (y : Tree ℕ) → IsShuffle j.size y → IsRising (filled y)
  unfolding filled
  rising_filled y h = rising-fill rest (graft j.tree j.at.parts) (graft y j.at.parts) (sym (same_filled y h)) (rising-graft j.size j.at.parts j.rises y h)
      (subst IsRising inner (i.rises.each k among.0 among.1))

  least_changed : (y : Tree ℕ) → IsShuffle j.size y → (m : ℕ) → least (changed y m) ≡ least (i.at.parts m)
  unfolding changed
  least_changed y h m = go (ℕ_discrete m k)
    where
      go : Dec (m ≡ k) → least (updated i.at.parts k (filled y) m) ≡ least (i.at.parts m)
      go (yes e) = subst (λ l. least (updated i.at.parts k (filled y) l) ≡ least (i.at.parts l)) (sym e) (ap least (updated_same i.at.parts k (filled y)) ∙ least_filled y h)
      go (no f) = ap least (updated_other i.at.parts k (filled y) m f)

  rising_changed : (y : Tree ℕ) → IsShuffle j.size y → (m : ℕ) → IsRising (i.at.parts m) → IsRising (changed y m)
  unfolding changed
  rising_changed y h m r = go (ℕ_discrete m k)
    where
      go : Dec (m ≡ k) → IsRising (updated i.at.parts k (filled y) m)
      go (yes e) = subst (λ l. IsRising (updated i.at.parts k (filled y) l)) (sym e) (subst IsRising (sym (updated_same i.at.parts k (filled y))) (rising_filled y h))
      go (no f) = subst IsRising (sym (updated_other i.at.parts k (filled y) m f)) r

  changed_rise : (y : Tree ℕ) → IsShuffle j.size y → PartsRise i.size (changed y)
  changed_rise y h = record {
    each = λ m p le. rising_changed y h m (i.rises.each m p le);
    order = λ l m p lt le. rw (least_changed y h l, least_changed y h m) (i.rises.order l m p lt le);
  }

  around : (x : Tree ℕ) → Dec (0 < occurs k x) → Ctx ℕ
  around x (yes o) = (hole_at k x o).around
  around x (no _) = hole

  around_is : (x : Tree ℕ) (d : Dec (0 < occurs k x)) → 0 < occurs k x → x ≡ fill (around x d) (leaf k)
  unfolding around
  around_is x (yes o) h = (hole_at k x o).is
  around_is x (no z) h = absurd (z h)

  ctx_of : Tree ℕ → Ctx ℕ
  ctx_of x = around x (dec_lt 0 (occurs k x))

  ctx_of_is : (x : Tree ℕ) → IsShuffle i.size x → x ≡ fill (ctx_of x) (leaf k)
  unfolding ctx_of
  ctx_of_is x h = around_is x (dec_lt 0 (occurs k x)) (stands_in x h)

  grafted : (c : Ctx ℕ) (x y : Tree ℕ) → IsShuffle i.size x → x ≡ fill c (leaf k) → graft x (changed y) ≡ fill (graft_ctx c i.at.parts) (filled y)
  unfolding changed
  grafted c x y h e =
      ap (λ z. graft z (updated i.at.parts k (filled y))) e
      ∙ graft-updated c k i.at.parts (filled y) (subst (λ z. occurs k z ≤ 1) e (once_of i.size x h k))

  filled_lead : filled j.tree ≡ i.at.parts k
  unfolding filled
  filled_lead = sym inner

  pub nested : Separate i j
  unfolding filled changed
  nested = record {
    both = λ x y. fill i.at.context (graft x (changed y));
    first_at = λ y. record { context = i.at.context; parts = changed y };
    second_at = λ x. record { context = compose i.at.context (compose (graft_ctx (ctx_of x) i.at.parts) rest); parts = j.at.parts };
    first_rise = changed_rise;
    second_rise = λ x h. j.rises;
    first_is = λ x y hx hy. refl;
    second_is = λ x y hx hy.
        fill-compose i.at.context (compose (graft_ctx (ctx_of x) i.at.parts) rest) (graft y j.at.parts)
        ∙ ap (fill i.at.context) (fill-compose (graft_ctx (ctx_of x) i.at.parts) rest (graft y j.at.parts) ∙ sym (grafted (ctx_of x) x y hx (ctx_of_is x hx)));
    at_second_lead = λ x h. ap (fill i.at.context) (graft_ext x (changed j.tree) i.at.parts
        (by_leaf x (λ m. changed j.tree m ≡ i.at.parts m) (λ m o. ap (λ v. updated i.at.parts k v m) filled_lead ∙ updated_back i.at.parts k m)));
    at_first_lead = λ y h.
        ap (fill i.at.context) (grafted front i.tree y i.valid lead_is ∙ sym (fill-compose (graft_ctx front i.at.parts) rest (graft y j.at.parts)))
        ∙ sym (fill-compose i.at.context (compose (graft_ctx front i.at.parts) rest) (graft y j.at.parts))
        ∙ ap (λ c. fill c (graft y j.at.parts)) (sym second_is);
  }
