-- Two places that share a vertex: the premise on small common multiples, carried into the host.
use Rattle.std.proofs.Common.{◌≡◌, ℕ, ◌<◌, ◌≤◌, List, [], ◌∷◌, refl, sym, ◌∙◌, ap, arith, subst}
use mathlib.Core.Path.{ap₂}
use mathlib.Core.List.{◌++◌}
use native.Mathlib.Decide.{ℕ_discrete, dec_lt}
use Rattle.labelled_trees.specs.Labelled.{Fits}
use Rattle.labelled_trees.specs.Equality.{tree_discrete}
use Rattle.shuffle_insertions.specs.Orders.{IsTreeOrder}
use Rattle.shuffle_insertions.proofs.Insertions.{fill_slot-fits, fits_of_slot}
use Rattle.shuffle_bases.specs.Elements.{terms, Setting, IsLess, AreMonic}
use Rattle.shuffle_bases.proofs.Placed.{laid, Placed, host, value, HostsLess, Meets, IsSmall, SmallMeet, lead_valid, terms_valid, less_kept}
use Rattle.labelled_trees.specs.Trees.{IsNode, Tree, graft}
use Rattle.labelled_trees.specs.Contexts.{compose, Ctx, hole, fill, graft_ctx}
use Rattle.shuffle_insertions.specs.ShuffleTrees.{IsShuffle}
use Rattle.labelled_trees.specs.Leaves.{one_if, occurs}
use Rattle.shuffle_insertions.specs.Slots.{Slot, fill_slot}
use Rattle.modular_sums.specs.Sums.{Same, scale, expand, moved}
use Rattle.modular_sums.proofs.Images.{moved-moved, moved_ext, moved_eq, moved-append, moved-scale, moved-expand, Same-moved}
use Rattle.labelled_trees.proofs.Grafts.{graft_assoc}
use Rattle.labelled_trees.proofs.Contexts.{same_ctx, graft_ctx_assoc, fill-compose, graft-fill}
use Rattle.labelled_trees.proofs.GraftLeaves.{graft_ext}
use Rattle.labelled_trees.proofs.Leaves.{by_leaf}
use Rattle.shuffle_insertions.proofs.Rising.{rising_of_fill}
use Rattle.shuffle_insertions.proofs.Insertions.{fill_slot-valid}
use Rattle.labelled_trees.proofs.ContextLeaves.{sum_of_fill}
use Rattle.shuffle_places.proofs.Overlaps.{Common, common}
use Rattle.shuffle_insertions.proofs.NestedSlots.{fill_slot-into, into_rises, into}

module _ (base : Setting) (basis : AreMonic base) (order : IsTreeOrder base.arity base.compare)
    (most : ℕ) (reduce : SmallMeet base most) (n : ℕ) (n_le : n ≤ most) where
  module _ (i j : Placed base n) (one : host i ≡ host j)
      (front : Ctx ℕ) (part : Tree ℕ) (lead_is : i.of.lead ≡ fill front part) (shares_node : IsNode part)
      (second_is : j.at.context ≡ compose i.at.context (graft_ctx front i.at.parts))
      (inner : graft part i.at.parts ≡ graft j.of.lead j.at.parts)
      (differ : front ≡ hole → i.of.lead ≡ j.of.lead → ⊥) where
    low : (k : ℕ) → occurs k (graft i.of.lead i.at.parts) ≤ occurs k (host i)
    low k = sum_of_fill i.at.context (graft i.of.lead i.at.parts) (λ m. one_if (ℕ_discrete m k))

    once : (k : ℕ) → occurs k (host i) ≤ 1
    once k = go (dec_lt 0 (occurs k (host i)))
      where
        go : Dec (0 < occurs k (host i)) → occurs k (host i) ≤ 1
        go (yes o) = let r = i.valid.only k o in let e : occurs k (host i) ≡ 1 = i.valid.each k r.0 r.1 in omega arith
        go (no z) = omega arith

    c : Common n (laid base basis n i) (laid base basis n j) part
    c = common n (laid base basis n i) (laid base basis n j) front part lead_is inner
        (rising_of_fill i.at.context (graft i.of.lead i.at.parts) i.valid.rising)
        (λ k. omega (arith, low k, once k)) (λ k o. i.valid.only k (omega (arith, low k, o)))

    outer : Slot
    outer = record { context = i.at.context; parts = c.hung }

    small_fits : (Fits base.arity) (graft i.of.lead c.first)
    small_fits = fits_of_slot base.arity record { context = i.at.context; parts = c.hung } (graft i.of.lead c.first) (subst (Fits base.arity) (sym (ap (fill i.at.context) c.whole)) i.fits)

    first_small : Placed base c.size
    first_small = record { of = i.of; member = i.member; at = record { context = hole; parts = c.first }; rises = c.first_rise; valid = c.valid; fits = small_fits }

    one_small : graft i.of.lead c.first ≡ fill (graft_ctx front c.first) (graft j.of.lead c.second)
    one_small = ap (λ x. graft x c.first) lead_is ∙ graft-fill front part c.first ∙ ap (fill (graft_ctx front c.first)) c.meets

    second_small : Placed base c.size
    second_small = record { of = j.of; member = j.member; at = record { context = graft_ctx front c.first; parts = c.second }; rises = c.second_rise; valid = subst (IsShuffle c.size) one_small c.valid; fits = subst (Fits base.arity) one_small small_fits }

    small : IsSmall base c.size first_small second_small
    unfolding first_small second_small
    small = record { one_host = one_small; at_root = refl; front = front; part = part; lead_is = lead_is; second_at = refl; shares = shares_node; covers = c.covers; bare = c.bare; differ = differ }

    fewer : c.size ≤ most
    fewer = let h : c.size ≤ n = c.size_le in omega arith

    small_meets : Meets base c.size first_small second_small
    small_meets = reduce c.size fewer first_small second_small small

    whole : fill_slot outer (graft i.of.lead c.first) ≡ host i
    unfolding outer
    whole = ap (fill i.at.context) c.whole

    valid_in : (x : Tree ℕ) → IsShuffle c.size x → IsShuffle n (fill_slot outer x)
    unfolding outer
    valid_in x h = fill_slot-valid c.size n outer (graft i.of.lead c.first) x c.hung_rise c.valid h (subst (IsShuffle n) (sym whole) i.valid)

    placed : Placed base c.size → Placed base n
    unfolding outer
    placed k = record {
      of = k.of;
      member = k.member;
      at = into c.size n outer c.hung_rise k.at;
      rises = into_rises c.size n outer c.hung_rise k.of.arity k.at k.rises k.of.lead (lead_valid base basis k.of k.member) k.valid;
      valid = subst (IsShuffle n) (sym (fill_slot-into c.size n outer c.hung_rise k.at k.of.lead)) (valid_in (host k) k.valid);
      fits = subst (Fits base.arity) (sym (fill_slot-into c.size n outer c.hung_rise k.at k.of.lead))
          (fill_slot-fits base.arity c.size record { context = i.at.context; parts = c.hung } (graft i.of.lead c.first) (host k) c.valid k.valid (subst (Fits base.arity) (sym (ap (fill i.at.context) c.whole)) i.fits) k.fits);
    }

    placed_host : (k : Placed base c.size) → host (placed k) ≡ fill_slot outer (host k)
    unfolding placed outer
    placed_host k = fill_slot-into c.size n outer c.hung_rise k.at k.of.lead

    placed_value : (k : Placed base c.size) → value (placed k) ≡ moved (fill_slot outer) (value k)
    unfolding placed outer
    placed_value k =
        moved_ext (fill_slot (into c.size n outer c.hung_rise k.at)) (λ x. fill_slot outer (fill_slot k.at x)) (terms k.of) (fill_slot-into c.size n outer c.hung_rise k.at)
        ∙ sym (moved-moved (fill_slot k.at) (fill_slot outer) (terms k.of))

    lower : (l : List (ℕ × Placed base c.size)) → HostsLess base c.size (host first_small) l
        → HostsLess base n (host i) (moved placed l)
    unfolding first_small outer
    lower [] h = tt
    lower (x ∷ l) h = (
      subst (λ t. IsLess base t (host i)) (sym (placed_host x.1))
          (subst (IsLess base (fill_slot outer (host x.1))) whole
          (less_kept base order c.size n outer (host x.1) (graft i.of.lead c.first) c.hung_rise x.1.valid c.valid (valid_in (graft i.of.lead c.first) c.valid) h.0)),
      lower l h.1,
    )

    first_value : moved (fill_slot outer) (value first_small) ≡ value i
    unfolding first_small outer
    first_value =
        moved-moved (fill_slot first_small.at) (fill_slot outer) (terms i.of)
        ∙ moved_eq (λ x. fill_slot outer (fill_slot first_small.at x)) (fill_slot i.at) (IsShuffle i.of.arity) (terms i.of) (terms_valid base basis i.of i.member)
        (λ x h. ap (fill i.at.context) (graft_assoc x c.first c.hung
        ∙ graft_ext x (λ k. graft (c.first k) c.hung) i.at.parts (by_leaf x (λ k. graft (c.first k) c.hung ≡ i.at.parts k) (λ k o. c.first_hung k (h.only k o)))))

    fronts : graft_ctx (graft_ctx front c.first) c.hung ≡ graft_ctx front i.at.parts
    fronts =
        graft_ctx_assoc front c.first c.hung
        ∙ same_ctx front (λ k. graft (c.first k) c.hung) i.at.parts (graft part (λ k. graft (c.first k) c.hung)) (graft part i.at.parts)
        (sym (graft-fill front part (λ k. graft (c.first k) c.hung)) ∙ ap (λ x. graft x (λ k. graft (c.first k) c.hung)) (sym lead_is)
        ∙ sym (graft_assoc i.of.lead c.first c.hung) ∙ c.whole ∙ ap (λ x. graft x i.at.parts) lead_is ∙ graft-fill front part i.at.parts)

    second_value : moved (fill_slot outer) (value second_small) ≡ value j
    unfolding second_small outer
    second_value =
        moved-moved (fill_slot second_small.at) (fill_slot outer) (terms j.of)
        ∙ moved_eq (λ x. fill_slot outer (fill_slot second_small.at x)) (fill_slot j.at) (IsShuffle j.of.arity) (terms j.of) (terms_valid base basis j.of j.member)
        (λ x h.
        ap (fill i.at.context)
        (graft-fill (graft_ctx front c.first) (graft x c.second) c.hung
        ∙ ap₂ fill fronts (graft_assoc x c.second c.hung
        ∙ graft_ext x (λ k. graft (c.second k) c.hung) j.at.parts (by_leaf x (λ k. graft (c.second k) c.hung ≡ j.at.parts k) (λ k o. c.second_hung k (h.only k o)))))
        ∙ sym (fill-compose i.at.context (graft_ctx front i.at.parts) (graft x j.at.parts))
        ∙ ap (λ d. fill d (graft x j.at.parts)) (sym second_is))

    pub meets_over : Meets base n i j
    meets_over = record {
      uses = moved placed small_meets.uses;
      lower = lower small_meets.uses small_meets.lower;
      adds_up =
          let both = value first_small ++ scale base.q (value second_small) in
          let right = expand value small_meets.uses in
          let e1 : moved (fill_slot outer) both ≡ value i ++ scale base.q (value j)
          = moved-append (fill_slot outer) (value first_small) (scale base.q (value second_small))
          ∙ ap₂ (λ a b. a ++ b) first_value (moved-scale (fill_slot outer) base.q (value second_small) ∙ ap (scale base.q) second_value) in
          let e2 : moved (fill_slot outer) right ≡ expand value (moved placed small_meets.uses)
          = moved-expand value value (fill_slot outer) placed placed_value small_meets.uses in
          subst (λ v. Same tree_discrete base.q v (expand value (moved placed small_meets.uses))) e1
          (subst (λ v. Same tree_discrete base.q (moved (fill_slot outer) both) v) e2 (Same-moved tree_discrete tree_discrete base.q (fill_slot outer) both right small_meets.adds_up));
    }
