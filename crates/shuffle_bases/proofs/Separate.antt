-- Two places without a common vertex: their insertions differ by insertions in smaller hosts.
use Rattle.std.proofs.Common.{◌≡◌, ℕ, List, [], ◌∷◌, sym, ◌∙◌, ap, subst}
use mathlib.Core.Path.{ap₂}
use mathlib.Core.List.{◌++◌}
use Rattle.labelled_trees.specs.Labelled.{Fits}
use Rattle.labelled_trees.specs.Equality.{tree_discrete}
use Rattle.shuffle_insertions.specs.Orders.{IsTreeOrder}
use Rattle.shuffle_insertions.proofs.Insertions.{fill_slot-fits}
use Rattle.shuffle_bases.specs.Elements.{terms, Setting, IsLess, AreMonic}
use Rattle.shuffle_places.proofs.Independent.{Separate}
use Rattle.shuffle_bases.proofs.Placed.{laid, Placed, host, value, HostsLess, Meets, lead_valid, lead_fits, tail_fits, tail_valid, terms_valid, less_kept}
use Rattle.labelled_trees.specs.Trees.{Tree}
use Rattle.shuffle_insertions.specs.ShuffleTrees.{IsShuffle}
use Rattle.shuffle_insertions.specs.Slots.{fill_slot}
use Rattle.modular_sums.specs.Sums.{Same, scale, expand, moved, AllTerms}
use Rattle.modular_sums.proofs.Replacements.{pair_adds_up}
use Rattle.modular_sums.proofs.Images.{proved, moved-proved, moved-moved, moved_ext, moved_eq}
use Rattle.shuffle_insertions.proofs.Insertions.{fill_slot-valid}
use Rattle.modular_sums.proofs.Sums.{AllTerms-scale, AllTerms-append}

both_hold : (l : List (ℕ × Tree ℕ)) (P Q : Tree ℕ → Type 0) → AllTerms l P → AllTerms l Q → AllTerms l (λ x. P x × Q x)
both_hold [] P Q h k = tt
both_hold (x ∷ l) P Q h k = ((h.0, k.0), both_hold l P Q h.1 k.1)

module _ (base : Setting) (basis : AreMonic base) (order : IsTreeOrder base.arity base.compare) where
  abbrev Of : ℕ → Tree ℕ → Type 0
  Of k x = IsShuffle k x × (Fits base.arity) x

  module _ (n : ℕ) (i j : Placed base n) (one : host i ≡ host j) (s : Separate (laid base basis n i) (laid base basis n j)) where
    abbrev X : Type 0
    X = (x : Tree ℕ) × (IsShuffle i.of.arity x × IsLess base x i.of.lead)

    abbrev First : Type 0
    First = (x : Tree ℕ) × Of i.of.arity x

    abbrev Second : Type 0
    Second = (y : Tree ℕ) × Of j.of.arity y

    by_first : Second → Placed base n
    by_first y = record {
      of = i.of;
      member = i.member;
      at = s.first_at y.0;
      rises = s.first_rise y.0 y.1.0;
      valid = subst (IsShuffle n) (sym (s.first_is i.of.lead y.0 (lead_valid base basis i.of i.member) y.1.0 ∙ s.at_first_lead y.0 y.1.0))
          (fill_slot-valid j.of.arity n j.at j.of.lead y.0 j.rises (lead_valid base basis j.of j.member) y.1.0 j.valid);
      fits = subst (Fits base.arity) (sym (s.first_is i.of.lead y.0 (lead_valid base basis i.of i.member) y.1.0 ∙ s.at_first_lead y.0 y.1.0))
          (fill_slot-fits base.arity j.of.arity j.at j.of.lead y.0 (lead_valid base basis j.of j.member) y.1.0 j.fits y.1.1);
    }

    by_second : First → Placed base n
    by_second x = record {
      of = j.of;
      member = j.member;
      at = s.second_at x.0;
      rises = s.second_rise x.0 x.1.0;
      valid = subst (IsShuffle n) (sym (s.second_is x.0 j.of.lead x.1.0 (lead_valid base basis j.of j.member) ∙ s.at_second_lead x.0 x.1.0))
          (fill_slot-valid i.of.arity n i.at i.of.lead x.0 i.rises (lead_valid base basis i.of i.member) x.1.0 i.valid);
      fits = subst (Fits base.arity) (sym (s.second_is x.0 j.of.lead x.1.0 (lead_valid base basis j.of j.member) ∙ s.at_second_lead x.0 x.1.0))
          (fill_slot-fits base.arity i.of.arity i.at i.of.lead x.0 (lead_valid base basis i.of i.member) x.1.0 i.fits x.1.1);
    }

    first_tail : AllTerms i.of.tail (Of i.of.arity)
    first_tail = both_hold i.of.tail (IsShuffle i.of.arity) (Fits base.arity) (terms_valid base basis i.of i.member).1 (tail_fits base basis i.of i.member)

    second_tail : AllTerms j.of.tail (Of j.of.arity)
    second_tail = both_hold j.of.tail (IsShuffle j.of.arity) (Fits base.arity) (terms_valid base basis j.of j.member).1 (tail_fits base basis j.of j.member)

    firsts : List (ℕ × First)
    firsts = proved (Of i.of.arity) i.of.tail first_tail

    seconds : List (ℕ × Second)
    seconds = proved (Of j.of.arity) j.of.tail second_tail

    a : First
    a = (i.of.lead, (lead_valid base basis i.of i.member, lead_fits base basis i.of i.member))

    b : Second
    b = (j.of.lead, (lead_valid base basis j.of j.member, lead_fits base basis j.of j.member))

    both_of : First → Second → Tree ℕ
    both_of x y = s.both x.0 y.0

    first_value : (y : Second) → value (by_first y) ≡ moved (λ x. both_of x y) ((1, a) ∷ firsts)
    unfolding by_first both_of a firsts
    first_value y =
        ap (λ l. (1, fill_slot (s.first_at y.0) i.of.lead) ∷ moved (fill_slot (s.first_at y.0)) l) (sym (moved-proved (Of i.of.arity) i.of.tail first_tail))
        ∙ ap₂ (λ t l. (1, t) ∷ l) (s.first_is i.of.lead y.0 (lead_valid base basis i.of i.member) y.1.0)
        (moved-moved (λ p. p.0) (fill_slot (s.first_at y.0)) (proved (Of i.of.arity) i.of.tail first_tail)
        ∙ moved_ext (λ p. fill_slot (s.first_at y.0) p.0) (λ p. s.both p.0 y.0) (proved (Of i.of.arity) i.of.tail first_tail) (λ p. s.first_is p.0 y.0 p.1.0 y.1.0))

    second_value : (x : First) → value (by_second x) ≡ moved (both_of x) ((1, b) ∷ seconds)
    unfolding by_second both_of b seconds
    second_value x =
        ap (λ l. (1, fill_slot (s.second_at x.0) j.of.lead) ∷ moved (fill_slot (s.second_at x.0)) l) (sym (moved-proved (Of j.of.arity) j.of.tail second_tail))
        ∙ ap₂ (λ t l. (1, t) ∷ l) (s.second_is x.0 j.of.lead x.1.0 (lead_valid base basis j.of j.member))
        (moved-moved (λ p. p.0) (fill_slot (s.second_at x.0)) (proved (Of j.of.arity) j.of.tail second_tail)
        ∙ moved_ext (λ p. fill_slot (s.second_at x.0) p.0) (λ p. s.both x.0 p.0) (proved (Of j.of.arity) j.of.tail second_tail) (λ p. s.second_is x.0 p.0 x.1.0 p.1.0))

    first_again : value (by_first b) ≡ value i
    unfolding by_first b
    first_again = moved_eq (fill_slot (s.first_at j.of.lead)) (fill_slot i.at) (IsShuffle i.of.arity) (terms i.of) (terms_valid base basis i.of i.member)
        (λ x h. s.first_is x j.of.lead h (lead_valid base basis j.of j.member) ∙ s.at_second_lead x h)

    second_again : value (by_second a) ≡ value j
    unfolding by_second a
    second_again = moved_eq (fill_slot (s.second_at i.of.lead)) (fill_slot j.at) (IsShuffle j.of.arity) (terms j.of) (terms_valid base basis j.of j.member)
        (λ y h. s.second_is i.of.lead y (lead_valid base basis i.of i.member) h ∙ s.at_first_lead y h)

    lower_first : (l : List (ℕ × Tree ℕ)) (h : AllTerms l (Of j.of.arity)) → AllTerms l (λ y. IsShuffle j.of.arity y × IsLess base y j.of.lead)
        → HostsLess base n (host i) (moved by_first (proved (Of j.of.arity) l h))
    unfolding by_first
    lower_first [] h k = tt
    lower_first (y ∷ l) h k = (
      subst (λ t. IsLess base t (host i)) (sym (s.first_is i.of.lead y.1 (lead_valid base basis i.of i.member) h.0.0 ∙ s.at_first_lead y.1 h.0.0))
          (subst (IsLess base (fill_slot j.at y.1)) (sym one) (less_kept base order j.of.arity n j.at y.1 j.of.lead j.rises h.0.0 (lead_valid base basis j.of j.member) j.valid k.0.1)),
      lower_first l h.1 k.1,
    )

    lower_second : (l : List (ℕ × Tree ℕ)) (h : AllTerms l (Of i.of.arity)) → AllTerms l (λ x. IsShuffle i.of.arity x × IsLess base x i.of.lead)
        → HostsLess base n (host i) (moved by_second (proved (Of i.of.arity) l h))
    unfolding by_second
    lower_second [] h k = tt
    lower_second (x ∷ l) h k = (
      subst (λ t. IsLess base t (host i)) (sym (s.second_is x.1 j.of.lead h.0.0 (lead_valid base basis j.of j.member) ∙ s.at_second_lead x.1 h.0.0))
          (less_kept base order i.of.arity n i.at x.1 i.of.lead i.rises h.0.0 (lead_valid base basis i.of i.member) i.valid k.0.1),
      lower_second l h.1 k.1,
    )

    pub meets_apart : Meets base n i j
    unfolding firsts seconds
    meets_apart = record {
      uses = moved by_second firsts ++ scale base.q (moved by_first seconds);
      lower = AllTerms-append (moved by_second firsts) (scale base.q (moved by_first seconds)) (λ k. IsLess base (host k) (host i))
          (lower_second i.of.tail first_tail (tail_valid base basis i.of i.member))
          (AllTerms-scale base.q (moved by_first seconds) (λ k. IsLess base (host k) (host i)) (lower_first j.of.tail second_tail (tail_valid base basis j.of j.member)));
      adds_up = subst (λ v. Same tree_discrete base.q (v ++ scale base.q (value j)) sum_of) first_again
          (subst (λ v. Same tree_discrete base.q (value (by_first b) ++ scale base.q v) sum_of) second_again
          (pair_adds_up tree_discrete value base.q both_of a firsts b seconds by_first by_second first_value second_value));
    }
      where
        sum_of : List (ℕ × Tree ℕ)
        sum_of = expand value
            (moved by_second firsts ++ scale base.q (moved by_first seconds))
