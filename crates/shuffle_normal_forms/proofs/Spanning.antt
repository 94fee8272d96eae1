-- Free trees span modulo the insertions, by the rank of a tree.
use Rattle.std.proofs.Common.{◌≡◌, ℕ, zero, suc, ◌<◌, List, [], ◌∷◌, sym, ◌∙◌, ap, arith, subst, inl, inr, ◌⊎◌}
use mathlib.Core.List.{◌++◌}
use Rattle.modular_sums.specs.Sums.{scale, AllTerms}
use Rattle.modular_sums.proofs.Sums.{AllTerms-append, AllTerms-scale}
use Rattle.modular_sums.proofs.Images.{AllTerms-imp}
use Rattle.labelled_trees.specs.Trees.{Tree}
use Rattle.labelled_trees.specs.Equality.{tree_discrete}
use Rattle.shuffle_insertions.specs.ShuffleTrees.{IsShuffleTree}
use Rattle.shuffle_insertions.specs.Labels.{AreLabels}
use Rattle.shuffle_insertions.specs.Orders.{IsTreeOrder}
use Rattle.shuffle_bases.specs.Elements.{Setting, IsLess, AreMonic, Insertion}
use Rattle.shuffle_bases.proofs.Ranking.{rank, rank_less}
use Rattle.shuffle_normal_forms.specs.FreeTrees.{IsFree, IsFreeTree}
use Rattle.shuffle_normal_forms.specs.NormalForms.{InSpan, IsShuffleNormalForm, IsAtMost}
use Rattle.modular_sums.proofs.Differences.{same_negated, same_added, same_gone}
use Rattle.shuffle_normal_forms.proofs.Listing.{inserted_or_free}
use Rattle.shuffle_normal_forms.proofs.Insertions.{span, rest_of, value_is, IsLower, rest_lower}

abbrev Sum : Type 0
Sum = List (ℕ × Tree ℕ)

module _ (labels : ℕ) (s : Setting) (are : AreLabels labels s.arity) (order : IsTreeOrder s.arity s.compare) (monic : AreMonic s) (n : ℕ) where
  -- a normal form within each bound of the sum's trees
  pub record Form (e : Sum) : Type 0 where
    pub by : Sum
    pub normal : IsShuffleNormalForm s n e by
    pub within : (t : Tree ℕ) → AllTerms e (λ u. IsAtMost s u t) → AllTerms by (λ u. IsAtMost s u t)

  at_most_trans : (x y z : Tree ℕ) → IsAtMost s x y → IsAtMost s y z → IsAtMost s x z
  at_most_trans x y z (inl e) k = subst (λ u. IsAtMost s u z) (sym e) k
  at_most_trans x y z (inr l) (inl e) = inr (subst (IsLess s x) e l)
  at_most_trans x y z (inr l) (inr k) = inr (order.transitive x y z l k)

  free_form : (t : Tree ℕ) → IsFreeTree s n t → Form ((1, t) ∷ [])
  free_form t h = record {
    by = (1, t) ∷ [];
    normal = record {
      on_free = (h, tt);
      rest = (span s n).same (((1, t) ∷ []) ++ scale s.q ((1, t) ∷ [])) [] (same_gone tree_discrete s.q ((1, t) ∷ [])) (span s n).none;
    };
    within = λ u k. k;
  }

  inserted_form : (t : Tree ℕ) (i : Insertion s n) → i.tree ≡ t → Form (rest_of i) → Form ((1, t) ∷ [])
  inserted_form t i e f = record {
    by = scale s.q f.by;
    normal = record {
      on_free = AllTerms-scale s.q f.by (IsFreeTree s n) f.normal.on_free;
      rest = (span s n).same (((1, t) ∷ []) ++ scale s.q (scale s.q f.by)) (((1, t) ∷ rest_of i) ++ scale s.q (rest_of i ++ scale s.q f.by))
          (same_negated tree_discrete s.q ((1, t) ∷ []) (rest_of i) f.by)
          ((span s n).added ((1, t) ∷ rest_of i) (scale s.q (rest_of i ++ scale s.q f.by))
          (subst (InSpan s n) (value_is s order monic n i ∙ ap (λ x. (1, x) ∷ rest_of i) e) ((span s n).instances i))
          ((span s n).scaled s.q (rest_of i ++ scale s.q f.by) f.normal.rest));
    };
    within = λ u k. AllTerms-scale s.q f.by (λ x. IsAtMost s x u)
        (f.within u (AllTerms-imp (IsLower s order monic n i) (λ x. IsAtMost s x u) (rest_of i)
        (λ x h. at_most_trans x t u (inr (subst (IsLess s x) e h.1)) k.0) (rest_lower s order monic n i)));
  }

  added_form : (c : ℕ) (x : Tree ℕ) (e : Sum) → Form ((1, x) ∷ []) → Form e → Form ((c, x) ∷ e)
  added_form c x e f g = record {
    by = scale c f.by ++ g.by;
    normal = record {
      on_free = AllTerms-append (scale c f.by) g.by (IsFreeTree s n) (AllTerms-scale c f.by (IsFreeTree s n) f.normal.on_free) g.normal.on_free;
      rest = (span s n).same (((c, x) ∷ e) ++ scale s.q (scale c f.by ++ g.by)) (scale c (((1, x) ∷ []) ++ scale s.q f.by) ++ (e ++ scale s.q g.by))
          (same_added tree_discrete s.q c x e f.by g.by)
          ((span s n).added (scale c (((1, x) ∷ []) ++ scale s.q f.by)) (e ++ scale s.q g.by)
          ((span s n).scaled c (((1, x) ∷ []) ++ scale s.q f.by) f.normal.rest) g.normal.rest);
    };
    within = λ u k. AllTerms-append (scale c f.by) g.by (λ y. IsAtMost s y u)
        (AllTerms-scale c f.by (λ y. IsAtMost s y u) (f.within u (k.0, tt))) (g.within u k.1);
  }

  sum_form : (e : Sum) → AllTerms e (λ x. Form ((1, x) ∷ [])) → Form e
  sum_form [] h = record {
    by = [];
    normal = record { on_free = tt; rest = (span s n).same ([] ++ scale s.q []) [] (same_gone tree_discrete s.q []) (span s n).none };
    within = λ u k. tt;
  }
  sum_form (x ∷ e) h = added_form x.0 x.1 e h.0 (sum_form e h.1)

  rank_of : Tree ℕ → ℕ
  rank_of = rank labels s are order n

  form_below : (k : ℕ) (t : Tree ℕ) → IsShuffleTree s.arity n t → rank_of t < k → Form ((1, t) ∷ [])
  unfolding rank_of
  form_below zero t h lt = absurd (omega (arith, lt))
  form_below (suc k) t h lt = go (inserted_or_free s monic n t h) (form_below k)
    where
      go : ((i : Insertion s n) × (i.tree ≡ t)) ⊎ IsFree s t → ((x : Tree ℕ) → IsShuffleTree s.arity n x → rank_of x < k → Form ((1, x) ∷ [])) → Form ((1, t) ∷ [])
      go (inl p) ih = inserted_form t p.0 p.1 (sum_form (rest_of p.0)
          (AllTerms-imp (IsLower s order monic n p.0) (λ x. Form ((1, x) ∷ [])) (rest_of p.0)
          (λ x l. ih x l.0 (let r = rank_less labels s are order n x t l.0 (subst (IsLess s x) p.1 l.1) in omega (arith, r, lt))) (rest_lower s order monic n p.0)))
      go (inr f) ih = free_form t record { valid = h; free = f }

  pub tree_form : (t : Tree ℕ) → IsShuffleTree s.arity n t → Form ((1, t) ∷ [])
  tree_form t h = form_below (suc (rank_of t)) t h (omega arith)

  pub any_form : (e : Sum) → AllTerms e (IsShuffleTree s.arity n) → Form e
  any_form e h = sum_form e (AllTerms-imp (IsShuffleTree s.arity n) (λ x. Form ((1, x) ∷ [])) e tree_form h)
