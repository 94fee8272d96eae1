-- The premise on small common multiples by vertices gives that by contexts.
use Rattle.std.proofs.Common.{◌≡◌, ℕ, suc, List, [], ◌∷◌, refl, sym, ◌∙◌, ap, arith, subst, inl, inr, ◌⊎◌}
use mathlib.Core.Path.{ap₂}
use mathlib.Core.List.{◌++◌}
use Rattle.modular_sums.specs.Lists.{Mem}
use Rattle.labelled_trees.specs.Equality.{tree_discrete}
use Rattle.shuffle_insertions.specs.Orders.{IsTreeOrder}
use Rattle.shuffle_bases.specs.Elements.{Element, Setting, IsLess, AreMonic}
use Rattle.shuffle_bases.specs.Elements.{inserted, value_of, s_element, InOrder}
use Rattle.shuffle_bases.specs.Reductions.{ReducesBelow, SElementsReduce}
use Rattle.shuffle_places.proofs.Covers.{fill_one}
use Rattle.shuffle_places.proofs.Overlays.{turned as turned_overlap}
use Rattle.shuffle_places.proofs.SmallOverlaps.{overlap_of_parts}
use Rattle.shuffle_insertions.specs.ShuffleTrees.{IsShuffle}
use Rattle.shuffle_bases.proofs.Placed.{placed, placed_host, placed_value, value_inserted, turned, Placed, host, value, set_of, Meets, IsSmall, SmallMeet, lead_valid, lead_node}
use Rattle.std.specs.declared.cmp.Ordering.TheVariants.{Less as LessIs}
use Rattle.std.specs.Ordering.{nat_cmp}
use Rattle.std.specs.Cmp.Lexicographic.{slice_cmp}
use Rattle.labelled_trees.specs.Trees.{Tree, leaf, node, graft, IsNode}
use Rattle.labelled_trees.specs.Contexts.{Ctx, hole, inside, fill, graft_ctx, graft_row_ctx}
use Rattle.shuffle_places.specs.Cuts.{numbers, numbers_row, start, start_row}
use Rattle.shuffle_places.specs.Multiples.{IsMultiple, IsOverlap}
use Rattle.modular_sums.specs.Sums.{Same, scale, expand, moved}
use Rattle.modular_sums.proofs.Sums.{expand-moved, AllTerms-moved}
use Rattle.modular_sums.proofs.Images.{AllTerms-imp}
use Rattle.labelled_trees.proofs.Contexts.{graft-fill}
use Rattle.shuffle_insertions.proofs.Comparing.{less_nat, then_first}
use Rattle.shuffle_places.proofs.PatternSets.{start_row_in}

pub in_order_self : (g : Element) (l : List Element) → Mem g l → InOrder g g l
in_order_self g [] m = absurd m
in_order_self g (x ∷ l) (inl e) = inl (e, inl e)
in_order_self g (x ∷ l) (inr m) = inr (in_order_self g l m)

pub in_order_total : (g h : Element) (l : List Element) → Mem g l → Mem h l → InOrder g h l ⊎ InOrder h g l
in_order_total g h [] m n = absurd m
in_order_total g h (x ∷ l) (inl e) n = inl (inl (e, n))
in_order_total g h (x ∷ l) (inr m) (inl e) = inr (inl (e, inr m))
in_order_total g h (x ∷ l) (inr m) (inr n) = go (in_order_total g h l m n)
  where
    go : InOrder g h l ⊎ InOrder h g l → InOrder g h (x ∷ l) ⊎ InOrder h g (x ∷ l)
    go (inl o) = inl (inr o)
    go (inr o) = inr (inr o)

module _ (base : Setting) (basis : AreMonic base) (order : IsTreeOrder base.arity base.compare) where
  -- the structural form gives the vertex form
  module _ (m : ℕ) (i j : Placed base m) (small : IsSmall base m i j) where
    at_the_root : set_of i ≡ numbers i.at.parts 1 i.of.lead
    at_the_root = ap (λ c. numbers i.at.parts (start 1 c) i.of.lead) small.at_root

    host_is : host i ≡ graft i.of.lead i.at.parts
    host_is = ap (λ c. fill c (graft i.of.lead i.at.parts)) small.at_root

    second_set : set_of j ≡ numbers j.at.parts (start 1 (graft_ctx small.front i.at.parts)) j.of.lead
    second_set = ap (λ c. numbers j.at.parts (start 1 c) j.of.lead) small.second_at

    whole : host i ≡ graft (fill small.front small.part) i.at.parts
    whole = ap₂ (λ c x. fill c (graft x i.at.parts)) small.at_root small.lead_is

    meet : graft small.part i.at.parts ≡ graft j.of.lead j.at.parts
    meet = fill_one (graft_ctx small.front i.at.parts) (graft small.part i.at.parts) (graft j.of.lead j.at.parts)
        (sym (graft-fill small.front small.part i.at.parts) ∙ sym whole ∙ small.one_host ∙ ap (λ c. fill c (graft j.of.lead j.at.parts)) small.second_at)

    pub overlap_of : IsOverlap m i.of.lead j.of.lead (host i) (set_of i) (set_of j)
    overlap_of = subst (λ t. IsOverlap m i.of.lead j.of.lead t (set_of i) (set_of j)) (sym host_is)
        (subst (λ l. IsOverlap m i.of.lead j.of.lead (graft i.of.lead i.at.parts) l (set_of j)) (sym at_the_root)
        (subst (λ l. IsOverlap m i.of.lead j.of.lead (graft i.of.lead i.at.parts) (numbers i.at.parts 1 i.of.lead) l) (sym second_set)
        (overlap_of_parts m i.of.arity j.of.arity i.of.lead j.of.lead i.at.parts j.at.parts small.front small.part
        (lead_valid base basis i.of i.member) (lead_valid base basis j.of j.member) (lead_node base basis j.of j.member) small.lead_is small.shares i.rises j.rises
        (subst (IsShuffle m) host_is i.valid) meet small.covers small.bare)))

    first_less : (c : Ctx ℕ) (t : Tree ℕ) (u : Tree ℕ) → IsNode t → IsNode u → (c ≡ hole → ⊥) → slice_cmp nat_cmp (numbers i.at.parts 1 t) (numbers j.at.parts (start 1 (graft_ctx c i.at.parts)) u) ≡ LessIs
    first_less hole t u nt nu f = absurd (f refl)
    first_less (inside l c) (leaf a) u nt nu f = absurd nt
    first_less (inside l c) (node k r) (leaf b) nt nu f = absurd nu
    first_less (inside l c) (node k r) (node h s) nt nu f =
        let e = start_row_in 2 (graft_row_ctx c i.at.parts) (leaf 0) in
        then_first (nat_cmp 1 (start_row 2 (graft_row_ctx c i.at.parts))) (slice_cmp nat_cmp (numbers_row i.at.parts 2 r) (numbers_row j.at.parts (suc (start_row 2 (graft_row_ctx c i.at.parts))) s))
        (less_nat 1 (start_row 2 (graft_row_ctx c i.at.parts)) (omega (arith, e.0)))

    -- where the leads are one, the first place comes first
    pub in_order : i.of.lead ≡ j.of.lead → slice_cmp nat_cmp (set_of i) (set_of j) ≡ LessIs
    in_order e =
        ap₂ (slice_cmp nat_cmp) (ap (λ c. numbers i.at.parts (start 1 c) i.of.lead) small.at_root) second_set
        ∙ first_less small.front i.of.lead j.of.lead (lead_node base basis i.of i.member) (lead_node base basis j.of j.member) (λ h. small.differ h e)

  -- a reduced S-element at the places of two insertions in one host
  from_reduced : (m : ℕ) (i j : Placed base m) → host i ≡ host j → ReducesBelow base m (host i) (s_element base.q i.of j.of (host i) (set_of i) (set_of j)) → Meets base m i j
  from_reduced m i j one r = record {
    uses = moved (placed base basis m) r.uses;
    lower = AllTerms-moved (placed base basis m) r.uses (λ k. IsLess base (host k) (host i))
        (AllTerms-imp (λ u. IsLess base u.tree (host i)) (λ u. IsLess base (host (placed base basis m u)) (host i)) r.uses
        (λ u h. subst (λ t. IsLess base t (host i)) (sym (placed_host base basis m u)) h) r.lower);
    adds_up = subst (λ e. Same tree_discrete base.q e (expand value (moved (placed base basis m) r.uses)))
        (ap₂ (λ a b. a ++ scale base.q b) (sym (value_inserted base basis m i)) (ap (λ t. inserted j.of t (set_of j)) one ∙ sym (value_inserted base basis m j)))
        (subst (λ e. Same tree_discrete base.q (s_element base.q i.of j.of (host i) (set_of i) (set_of j)) e)
        (sym (expand-moved value_of value (placed base basis m) (placed_value base basis m) r.uses)) r.adds_up);
  }

  -- where each S-element reduces, the premise on small common multiples holds
  pub small_meet : (N : ℕ) → SElementsReduce base N → SmallMeet base N
  small_meet N rows m le i j small = go (tree_discrete i.of.lead j.of.lead) (in_order_total i.of j.of base.elements i.member j.member)
    where
      o : IsOverlap m i.of.lead j.of.lead (host i) (set_of i) (set_of j)
      o = overlap_of m i j small

      first_second : IsMultiple m i.of.lead j.of.lead (host i) (set_of i) (set_of j)
      first_second = record { overlap = overlap_of m i j small; ordered = in_order m i j small }

      go : Dec (i.of.lead ≡ j.of.lead) → InOrder i.of j.of base.elements ⊎ InOrder j.of i.of base.elements → Meets base m i j
      go (yes e) b = from_reduced m i j small.one_host
          (rows m le i.of j.of (subst (λ h. InOrder i.of h base.elements) (basis.apart i.of j.of i.member j.member e) (in_order_self i.of base.elements i.member)) (host i) (set_of i) (set_of j) first_second)
      go (no f) (inl b) = from_reduced m i j small.one_host (rows m le i.of j.of b (host i) (set_of i) (set_of j) first_second)
      go (no f) (inr b) = turned base m i j small.one_host (from_reduced m j i (sym small.one_host)
          (subst (λ t. ReducesBelow base m t (s_element base.q j.of i.of t (set_of j) (set_of i))) small.one_host
          (rows m le j.of i.of b (host i) (set_of j) (set_of i)
          record { overlap = turned_overlap m i.of.lead j.of.lead (host i) (set_of i) (set_of j) o; ordered = λ e. absurd (f (sym e)) })))
