-- Free trees lead no sum in the span of insertions, and each other shuffle tree leads one.
use Rattle.std.proofs.Common.{◌≡◌, ℕ, ◌<◌, ◌≤◌, ◌%◌, suc, [], ◌∷◌, refl, sym, ◌∙◌, ap, arith, subst, inl, inr, ◌⊎◌}
use Rattle.std.proofs.Math.Nat.{mod-eq_of_lt}
use Rattle.std.specs.declared.cmp.Ordering.{Ordering}
use Rattle.std.specs.declared.cmp.Ordering.TheVariants.{Less, Equal, Greater}
use Rattle.std.specs.Ordering.{ordering_reverse}
use Rattle.modular_sums.specs.Residues.{IsCongruent}
use Rattle.modular_sums.specs.Sums.{coef, Same, expand, AllTerms}
use Rattle.modular_sums.proofs.Images.{AllTerms-imp}
use Rattle.labelled_trees.specs.Trees.{Tree}
use Rattle.labelled_trees.specs.Equality.{tree_discrete}
use Rattle.shuffle_insertions.specs.ShuffleTrees.{IsShuffleTree}
use Rattle.shuffle_insertions.specs.Labels.{AreLabels}
use Rattle.shuffle_insertions.specs.Orders.{IsTreeOrder}
use Rattle.shuffle_bases.specs.Elements.{Setting, IsLess, AreMonic, Insertion, value_of}
use Rattle.shuffle_bases.specs.Reductions.{SElementsReduce, IsLed}
use Rattle.shuffle_bases.proofs.Laws.{diamond}
use Rattle.shuffle_normal_forms.specs.FreeTrees.{IsFree}
use Rattle.shuffle_normal_forms.specs.NormalForms.{IsLeadingTree, LeadsNone}
use Rattle.modular_sums.proofs.Coefficients.{coef_absent, coef_first, coef_nothing}
use Rattle.shuffle_normal_forms.proofs.Listing.{inserted_or_free, not_free}
use Rattle.shuffle_normal_forms.proofs.Insertions.{span, rest_of, value_is, IsLower, rest_lower, value_valid}

pub one_not_zero : (q : ℕ) → 0 < q → IsCongruent q 1 0 → ⊥
one_not_zero q h e =
    let a : 1 % suc q ≡ 1 = mod-eq_of_lt (omega (arith, h)) in
    let z : 0 % suc q ≡ 0 = mod-eq_of_lt (omega arith) in
    absurd (omega (arith, e, a, z))

-- ---- an insertion is led by its tree

module _ (s : Setting) (order : IsTreeOrder s.arity s.compare) (monic : AreMonic s) (n : ℕ) where
  pub not_less : (x y : Tree ℕ) → IsLess s x y → x ≡ y → ⊥
  not_less x y l e =
      let less : s.compare y y ≡ Less = subst (λ z. IsLess s z y) e l in
      let greater : s.compare y y ≡ Greater = order.turned y y ∙ ap ordering_reverse less in
      absurd (cc (less, greater))

  rest_absent : (i : Insertion s n) (u : Tree ℕ) → (i.tree ≡ u) ⊎ IsLess s i.tree u → AllTerms (rest_of i) (λ x. x ≡ u → ⊥)
  rest_absent i u o = AllTerms-imp (IsLower s order monic n i) (λ x. x ≡ u → ⊥) (rest_of i) (λ x h e. not_less x u (go x h.1 o) e) (rest_lower s order monic n i)
    where
      go : (x : Tree ℕ) → IsLess s x i.tree → (i.tree ≡ u) ⊎ IsLess s i.tree u → IsLess s x u
      go x l (inl e) = subst (IsLess s x) e l
      go x l (inr k) = order.transitive x i.tree u l k

  pub coef_tree : (i : Insertion s n) → coef tree_discrete (value_of i) i.tree ≡ 1
  coef_tree i = ap (λ e. coef tree_discrete e i.tree) (value_is s order monic n i)
      ∙ coef_first tree_discrete 1 i.tree (rest_of i) (coef_absent tree_discrete (rest_of i) i.tree (rest_absent i i.tree (inl refl)))

  pub coef_greater : (i : Insertion s n) (u : Tree ℕ) → IsLess s i.tree u → coef tree_discrete (value_of i) u ≡ 0
  coef_greater i u l = ap (λ e. coef tree_discrete e u) (value_is s order monic n i)
      ∙ coef_absent tree_discrete ((1, i.tree) ∷ rest_of i) u (not_less i.tree u l, rest_absent i u (inr l))

  leads : 0 < s.q → (i : Insertion s n) → IsLeadingTree s n (value_of i) i.tree
  leads positive i = record {
    there = λ z. one_not_zero s.q positive (ap (λ c. c % suc s.q) (sym (coef_tree i)) ∙ z);
    above = λ u h l. ap (λ c. c % suc s.q) (coef_greater i u l);
  }

  pub free_of_none : 0 < s.q → (t : Tree ℕ) → IsShuffleTree s.arity n t → LeadsNone s n t → IsFree s t
  free_of_none positive t h none = go (inserted_or_free s monic n t h)
    where
      go : ((i : Insertion s n) × (i.tree ≡ t)) ⊎ IsFree s t → IsFree s t
      go (inl p) = absurd (none (value_of p.0) (value_valid s order monic n p.0) ((span s n).instances p.0)
          (subst (IsLeadingTree s n (value_of p.0)) p.1 (leads positive p.0)))
      go (inr f) = f

-- ---- a free tree leads none

module _ (labels : ℕ) (s : Setting) (are : AreLabels labels s.arity) (order : IsTreeOrder s.arity s.compare) (monic : AreMonic s)
    (N n : ℕ) (reduce : SElementsReduce s N) (le : n ≤ N) where
  pub none_of_free : (t : Tree ℕ) → IsShuffleTree s.arity n t → IsFree s t → LeadsNone s n t
  none_of_free t h f e v m lead = go (diamond labels s are order monic N n reduce le m.uses)
    where
      at : (d : IsLed s n (expand value_of m.uses)) (o : Ordering) → s.compare t d.by.tree ≡ o → ⊥
      at d Less c = d.there (sym (m.adds_up d.by.tree) ∙ lead.above d.by.tree d.by.valid c)
      at d Equal c = not_free s monic n d.by t (order.equal_only n t d.by.tree h d.by.valid c) f
      at d Greater c = lead.there (m.adds_up t ∙ d.above t h (order.turned d.by.tree t ∙ ap ordering_reverse c))

      go : Same tree_discrete s.q (expand value_of m.uses) [] ⊎ IsLed s n (expand value_of m.uses) → ⊥
      go (inl z) = lead.there (m.adds_up t ∙ z t ∙ ap (λ c. c % suc s.q) (coef_nothing tree_discrete t))
      go (inr d) = at d (s.compare t d.by.tree) refl
