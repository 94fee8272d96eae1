-- The diamond lemma for insertions by slots, by a rank of the trees.
use Rattle.std.proofs.Common.{◌%◌, ◌≡◌, ℕ, suc, ◌+◌, ◌<◌, ◌≤◌, List, [], ◌∷◌, refl, sym, ◌∙◌, ap, arith, inl, inr, ◌⊎◌}
use mathlib.Core.Path.{ap₂}
use mathlib.Core.List.{◌++◌}
use Rattle.labelled_trees.specs.Labelled.{Fits}
use Rattle.labelled_trees.specs.Equality.{tree_discrete}
use Rattle.shuffle_insertions.specs.Orders.{IsTreeOrder}
use Rattle.shuffle_insertions.proofs.Insertions.{fill_slot-fits}
use Rattle.shuffle_bases.specs.Elements.{terms, Setting, IsLess, AreMonic}
use Rattle.shuffle_bases.proofs.Placed.{turned, Placed, host, value, HostsLess, Meets, SmallMeet, lead_valid, tail_fits, tail_valid, terms_valid, less_kept}
use Rattle.labelled_trees.specs.Trees.{Tree, leaf, graft, IsNode}
use Rattle.labelled_trees.specs.Contexts.{Ctx, hole, inside, fill, compose, graft_ctx}
use Rattle.labelled_trees.specs.Leaves.{AllLeaves, occurs}
use Rattle.shuffle_insertions.specs.ShuffleTrees.{IsShuffle}
use Rattle.shuffle_insertions.specs.Slots.{fill_slot}
use Rattle.modular_sums.specs.Sums.{coef, Same, scale, expand, moved, AllTerms}
use Rattle.modular_sums.proofs.Sums.{Same-cancelled}
use Rattle.modular_sums.proofs.Images.{moved_eq}
use Rattle.modular_sums.proofs.Diamond.{diamond}
use Rattle.modular_sums.specs.Diamond.{HaveLeadingTerms, LeadsBelow, Led}
use Rattle.labelled_trees.proofs.Meetings.{Above, Apart, meeting}
use Rattle.labelled_trees.proofs.Unions.{Within, within}
use Rattle.labelled_trees.proofs.GraftLeaves.{graft_ext, agree_graft}
use Rattle.labelled_trees.proofs.Leaves.{by_leaf, at_leaf}
use Rattle.shuffle_insertions.proofs.Insertions.{fill_slot-valid}
use Rattle.labelled_trees.proofs.Contexts.{compose-hole}
use Rattle.shuffle_bases.proofs.SharedVertices.{meets_over}
use Rattle.shuffle_bases.proofs.Separate.{meets_apart}
use Rattle.shuffle_places.proofs.Independent.{branches, nested}
use Rattle.shuffle_bases.proofs.Placed.{laid}
use Rattle.modular_sums.specs.Lists.{choose}
use Rattle.modular_sums.proofs.Choices.{choose-yes, choose-no}

module _ (base : Setting) (basis : AreMonic base) (order : IsTreeOrder base.arity base.compare)
    (most : ℕ) (reduce : SmallMeet base most) (n : ℕ) (n_le : n ≤ most) where
  none_of : (t : Tree ℕ) → coef tree_discrete (expand {I = Placed base n} value []) t % suc base.q ≡ 0 % suc base.q
  unfolding expand coef
  none_of t = refl

  -- one place twice
  one_place : (i j : Placed base n) → i.at.context ≡ j.at.context → graft i.of.lead i.at.parts ≡ graft j.of.lead j.at.parts → i.of.lead ≡ j.of.lead
      → Meets base n i j
  one_place i j same_context same_graft same_lead = record {
    uses = [];
    lower = tt;
    adds_up = λ t.
        ap (λ v. coef tree_discrete (value i ++ scale base.q v) t % suc base.q) (sym same_value) ∙ Same-cancelled tree_discrete base.q (value i) t ∙ sym (none_of t);
  }
    where
      g : i.of ≡ j.of
      g = basis.apart i.of j.of i.member j.member same_lead

      at_each : AllLeaves i.of.lead (λ k. i.at.parts k ≡ j.at.parts k)
      at_each = agree_graft i.of.lead i.at.parts j.at.parts (same_graft ∙ ap (λ x. graft x j.at.parts) (sym same_lead))

      same_insert : (x : Tree ℕ) → IsShuffle i.of.arity x → fill_slot i.at x ≡ fill_slot j.at x
      same_insert x h = ap₂ fill same_context (graft_ext x i.at.parts j.at.parts (by_leaf x (λ k. i.at.parts k ≡ j.at.parts k)
          (λ k o. let r = h.only k o in let e : occurs k i.of.lead ≡ 1 = (lead_valid base basis i.of i.member).each k r.0 r.1 in at_leaf i.of.lead (λ m. i.at.parts m ≡ j.at.parts m) k at_each (omega arith))))

      same_value : value i ≡ value j
      same_value = moved_eq (fill_slot i.at) (fill_slot j.at) (IsShuffle i.of.arity) (terms i.of) (terms_valid base basis i.of i.member) same_insert
          ∙ ap (λ k. moved (fill_slot j.at) ((1, k.lead) ∷ k.tail)) g

  dec_hole : (c : Ctx ℕ) → Dec (c ≡ hole)
  dec_hole hole = yes refl
  dec_hole (inside l c) = no (λ e. cc e)

  -- the second place's top is a vertex of the first place
  over_case : (i j : Placed base n) → host i ≡ host j → (front : Ctx ℕ) (part : Tree ℕ) → i.of.lead ≡ fill front part → IsNode part
      → j.at.context ≡ compose i.at.context (graft_ctx front i.at.parts) → graft part i.at.parts ≡ graft j.of.lead j.at.parts
      → Dec (front ≡ hole) → Dec (i.of.lead ≡ j.of.lead) → Meets base n i j
  over_case i j one front part lead_is is_node second_is inner (no f) d =
      meets_over base basis order most reduce n n_le i j one front part lead_is is_node second_is inner (λ e k. f e)
  over_case i j one front part lead_is is_node second_is inner (yes f) (no d) =
      meets_over base basis order most reduce n n_le i j one front part lead_is is_node second_is inner (λ e k. d k)
  over_case i j one front part lead_is is_node second_is inner (yes f) (yes d) = one_place i j
      (sym (compose-hole i.at.context) ∙ ap (λ c. compose i.at.context (graft_ctx c i.at.parts)) (sym f) ∙ sym second_is)
      (ap (λ x. graft x i.at.parts) (lead_is ∙ ap (λ c. fill c part) f) ∙ inner) d

  -- the second place lies at or below the first
  below_case : (i j : Placed base n) → host i ≡ host j → (rest : Ctx ℕ) → j.at.context ≡ compose i.at.context rest
      → (w : Within ℕ ℕ i.at.parts i.of.lead rest (graft j.of.lead j.at.parts))
      → ((w.rest ≡ hole) × IsNode w.part) ⊎ ((x : ℕ) × (w.part ≡ leaf x)) → Meets base n i j
  below_case i j one rest is w (inl h) = over_case i j one w.front w.part w.is h.1
      (is ∙ ap (compose i.at.context) (w.hole_is ∙ ap (compose (graft_ctx w.front i.at.parts)) h.0 ∙ compose-hole (graft_ctx w.front i.at.parts)))
      (w.inner ∙ ap (λ c. fill c (graft j.of.lead j.at.parts)) h.0) (dec_hole w.front) (tree_discrete i.of.lead j.of.lead)
  below_case i j one rest is w (inr h) = meets_apart base basis order n i j one
      (nested (laid base basis n i) (laid base basis n j) w.front w.rest h.0 (w.is ∙ ap (fill w.front) h.1)
      (is ∙ ap (compose i.at.context) w.hole_is) (ap (λ x. graft x i.at.parts) (sym h.1) ∙ w.inner))

  under : (i j : Placed base n) → host i ≡ host j
      → Above ℕ i.at.context j.at.context (graft i.of.lead i.at.parts) (graft j.of.lead j.at.parts) → Meets base n i j
  under i j one a =
      let w = within i.at.parts i.of.lead a.rest (graft j.of.lead j.at.parts) a.inner in
      below_case i j one a.rest a.is w w.either

  -- any two insertions in one host differ by a sum of insertions in smaller hosts
  pub meets : (i j : Placed base n) → host i ≡ host j → Meets base n i j
  meets i j one = go (meeting i.at.context j.at.context (graft i.of.lead i.at.parts) (graft j.of.lead j.at.parts) one)
    where
      go : Above ℕ i.at.context j.at.context (graft i.of.lead i.at.parts) (graft j.of.lead j.at.parts)
          ⊎ (Above ℕ j.at.context i.at.context (graft j.of.lead j.at.parts) (graft i.of.lead i.at.parts)
          ⊎ Apart ℕ i.at.context j.at.context (graft i.of.lead i.at.parts) (graft j.of.lead j.at.parts)) → Meets base n i j
      go (inl a) = under i j one a
      go (inr (inl a)) = turned base n i j one (under j i (sym one) a)
      go (inr (inr a)) = meets_apart base basis order n i j one (branches (laid base basis n i) (laid base basis n j) a)

  module _ (rank : Tree ℕ → ℕ) (rank_less : (x y : Tree ℕ) → IsShuffle n x → IsShuffle n y → (Fits base.arity) x → (Fits base.arity) y → IsLess base x y → rank x < rank y)
      (rank_one : (x y : Tree ℕ) → IsShuffle n x → IsShuffle n y → (Fits base.arity) x → (Fits base.arity) y → rank x ≡ rank y → x ≡ y) where
    hit_less : (x t : Tree ℕ) (c m : ℕ) (d : Dec (x ≡ t)) → rank x < m → m ≤ rank t → choose d c 0 ≡ 0
    hit_less x t c m (yes e) lt le = let r : rank x ≡ rank t = ap rank e in absurd (omega arith)
    hit_less x t c m (no _) lt le = refl

    low_tail : (i : Placed base n) (l : List (ℕ × Tree ℕ)) (t : Tree ℕ) → AllTerms l (λ x. IsShuffle i.of.arity x × IsLess base x i.of.lead) → AllTerms l (Fits base.arity)
        → rank (host i) ≤ rank t → coef tree_discrete (moved (fill_slot i.at) l) t ≡ 0
    unfolding coef
    low_tail i [] t h f le = refl
    low_tail i (x ∷ l) t h f le =
        let v : IsShuffle n (fill_slot i.at x.1) = fill_slot-valid i.of.arity n i.at i.of.lead x.1 i.rises (lead_valid base basis i.of i.member) h.0.0 i.valid in
        let lt : rank (fill_slot i.at x.1) < rank (host i) = rank_less (fill_slot i.at x.1) (host i) v i.valid (fill_slot-fits base.arity i.of.arity i.at i.of.lead x.1 (lead_valid base basis i.of i.member) h.0.0 i.fits f.0) i.fits
        (less_kept base order i.of.arity n i.at x.1 i.of.lead i.rises h.0.0 (lead_valid base basis i.of i.member) i.valid h.0.1) in
        let z : choose (tree_discrete (fill_slot i.at x.1) t) x.0 0 ≡ 0 = hit_less (fill_slot i.at x.1) t x.0 (rank (host i)) (tree_discrete (fill_slot i.at x.1) t) lt le in
        rw (z, low_tail i l t h.1 f.1 le) (omega arith)

    monic : HaveLeadingTerms {I = Placed base n} tree_discrete rank base.q value host
    unfolding coef
    monic = record {
      at_lead = λ i.
          let z : coef tree_discrete (moved (fill_slot i.at) i.of.tail) (host i) ≡ 0 = low_tail i i.of.tail (host i) (tail_valid base basis i.of i.member) (tail_fits base basis i.of i.member) (omega arith) in
          let o : choose {B = ℕ} (tree_discrete (host i) (host i)) 1 0 ≡ 1 = choose-yes {B = ℕ} (tree_discrete (host i) (host i)) 1 0 refl in
          let e : 1 + 0 ≡ 1 = omega arith in
          rw (z, o, e);
      above = λ i t ne le.
          let z : coef tree_discrete (moved (fill_slot i.at) i.of.tail) t ≡ 0 = low_tail i i.of.tail t (tail_valid base basis i.of i.member) (tail_fits base basis i.of i.member) le in
          let o : choose {B = ℕ} (tree_discrete (host i) t) 1 0 ≡ 0 = choose-no {B = ℕ} (tree_discrete (host i) t) 1 0 (λ e. ne (sym e)) in
          let e : 0 + 0 ≡ 0 = omega arith in
          rw (z, o, e);
    }

    ranked : (w : Tree ℕ) → IsShuffle n w → (Fits base.arity) w → (l : List (ℕ × Placed base n)) → HostsLess base n w l
        → LeadsBelow rank host (rank w) l
    ranked w v f [] h = tt
    ranked w v f (x ∷ l) h = (rank_less (host x.1) w x.1.valid v x.1.fits f h.0, ranked w v f l h.1)

    -- Every sum of insertions is zero, or its greatest tree is the host of an insertion.
    pub diamond_lemma : (l : List (ℕ × Placed base n))
        → Same tree_discrete base.q (expand value l) []
        ⊎ Led {I = Placed base n} tree_discrete rank base.q host (expand value l)
    diamond_lemma l = diamond (Tree ℕ) tree_discrete rank base.q (Placed base n) value host monic
        (λ i j one. let m = meets i j one in record { uses = m.uses; lower = ranked (host i) i.valid i.fits m.uses m.lower; adds_up = m.adds_up })
        (λ i j e. rank_one (host i) (host j) i.valid j.valid i.fits j.fits e) l
