-- A sum has one reduced form.
use Rattle.std.proofs.Common.{◌≡◌, ◌≢◌, ℕ, suc, ◌+◌, ◌-◌, ◌%◌, ◌<◌, List, [], ◌∷◌, refl, ap, ap₂, sym, ◌∙◌, arith}
use Rattle.std.specs.List.{AllByRecursion}
use Rattle.std.proofs.Math.Nat.{mod-eq_of_lt}
use Rattle.std.proofs.lemmas.List.Elements.{recursion_from_All}
use Rattle.std.specs.declared.cmp.Ordering.{Ordering}
use Rattle.std.specs.declared.cmp.Ordering.TheVariants.{Less, Equal, Greater}
use Rattle.std.specs.Ordering.{ordering_reverse}
use Rattle.modular_sums.specs.Residues.{IsCongruent}
use Rattle.modular_sums.specs.Sums.{coef, Same}
use Rattle.modular_sums.proofs.Residues.{congruent_cancel}
use Rattle.modular_sums.proofs.Coefficients.{coef_nothing}
use Rattle.labelled_trees.specs.Trees.{Tree}
use Rattle.labelled_trees.specs.Equality.{tree_discrete}
use Rattle.operad_ideals.specs.Parts.{Part}
use Rattle.operad_ideals.specs.SpellingOrder.{order}
use Rattle.operad_ideals.proofs.TreeOrder.{order_is_total}
use Rattle.operad_ideals.specs.Collected.{IsReduced, OneCollectedForm}
use Rattle.operad_ideals.specs.Pairs.{Pairs}
use Rattle.operad_ideals.proofs.SortedLists.{every_weaker}
use Rattle.operad_ideals.proofs.LastOnes.{pairs_from_AllPairs}
use Rattle.modular_sums.specs.Lists.{choose}

-- the coefficient of t, where t is first, and where it isn't
coef-here : (x : ℕ × Tree ℕ) (e : List (ℕ × Tree ℕ)) → coef tree_discrete (x ∷ e) x.1 ≡ x.0 + coef tree_discrete e x.1
unfolding coef
coef-here x e = go (tree_discrete x.1 x.1)
  where
    go : (d : Dec (x.1 ≡ x.1)) → choose d x.0 0 + coef tree_discrete e x.1 ≡ x.0 + coef tree_discrete e x.1
    go (yes _) = refl
    go (no n) = absurd (n refl)

pub coef-other : (x : ℕ × Tree ℕ) (e : List (ℕ × Tree ℕ)) (t : Tree ℕ) → x.1 ≢ t → coef tree_discrete (x ∷ e) t ≡ coef tree_discrete e t
unfolding coef
coef-other x e t ne = go (tree_discrete x.1 t)
  where
    go : (d : Dec (x.1 ≡ t)) → choose d x.0 0 + coef tree_discrete e t ≡ coef tree_discrete e t
    go (yes s) = absurd (ne s)
    go (no _) = omega arith

-- a tree that is before another isn't that one
pub not_itself : (t u : Tree ℕ) → order t u ≡ Less → u ≢ t
not_itself t u l e = let equal : order t u ≡ Equal = (order_is_total.equal t u).1 (sym e) in let wrong : Less ≡ Equal = sym l ∙ equal in cc

coef-after : (t : Tree ℕ) (e : List (ℕ × Tree ℕ)) → AllByRecursion (λ x. order t x.1 ≡ Less) e → coef tree_discrete e t ≡ 0
coef-after t [] h = coef_nothing tree_discrete t
coef-after t (x ∷ e) h = coef-other x e t (not_itself t x.1 h.0) ∙ coef-after t e h.1

later : (t u : Tree ℕ) (e : List (ℕ × Tree ℕ)) → order t u ≡ Less → AllByRecursion (λ x. order u x.1 ≡ Less) e → AllByRecursion (λ x. order t x.1 ≡ Less) e
later t u e l h = every_weaker (λ x. order u x.1 ≡ Less) (λ x. order t x.1 ≡ Less) e (λ x k. order_is_total.transitive t u x.1 l k) h

one_residue : (p a b : ℕ) → a < p → b < p → IsCongruent (p - 1) a b → a ≡ b
one_residue p a b la lb h =
    let a_small : a < suc (p - 1) = omega (arith, la) in
    let b_small : b < suc (p - 1) = omega (arith, lb) in
    sym (mod-eq_of_lt a_small) ∙ h ∙ mod-eq_of_lt b_small

module _ (p : ℕ) where
  abbrev Rising : List (ℕ × Tree ℕ) → Type 0
  Rising e = Pairs (λ x y. order x.1 y.1 ≡ Less) e

  abbrev Small : List (ℕ × Tree ℕ) → Type 0
  Small e = AllByRecursion (λ x. (0 < x.0) × (x.0 < p)) e

  abbrev Alikes : List (ℕ × Tree ℕ) → List (ℕ × Tree ℕ) → Type 0
  Alikes e f = Same tree_discrete (p - 1) e f

  -- the number at the first tree of a sum isn't 0
  pub coef-first : (x : ℕ × Tree ℕ) (e : List (ℕ × Tree ℕ)) → Rising (x ∷ e) → coef tree_discrete (x ∷ e) x.1 ≡ x.0
  coef-first x e r = let z : coef tree_discrete e x.1 ≡ 0 = coef-after x.1 e r.0 in coef-here x e ∙ omega (arith, z)

  not_gone : (x : ℕ × Tree ℕ) (e f : List (ℕ × Tree ℕ)) → Rising (x ∷ e) → (0 < x.0) × (x.0 < p) → coef tree_discrete f x.1 ≡ 0 → Alikes (x ∷ e) f → ⊥
  not_gone x e f r s z h =
      let same : x.0 ≡ 0 = one_residue p x.0 0 s.1 (omega (arith, s.1)) (ap (λ n. n % suc (p - 1)) (sym (coef-first x e r)) ∙ h x.1 ∙ ap (λ n. n % suc (p - 1)) z) in
      omega (arith, s.0, same)

  -- one first term taken from both
  without_first : (x y : ℕ × Tree ℕ) (e f : List (ℕ × Tree ℕ)) → x ≡ y → Alikes (x ∷ e) (y ∷ f) → Alikes e f
  unfolding coef
  without_first x y e f same h t =
      let share = choose (tree_discrete x.1 t) x.0 0 in
      let e₁ : share + coef tree_discrete e t ≡ coef tree_discrete e t + share = omega arith in
      let e₂ : choose (tree_discrete x.1 t) x.0 0 + coef tree_discrete f t ≡ coef tree_discrete f t + share = omega arith in
      let e₃ : coef tree_discrete (y ∷ f) t ≡ choose (tree_discrete x.1 t) x.0 0 + coef tree_discrete f t = ap (λ (z : ℕ × Tree ℕ). choose (tree_discrete z.1 t) z.0 0 + coef tree_discrete f t) (sym same) in
      congruent_cancel (p - 1) (coef tree_discrete e t) (coef tree_discrete f t) share
      (ap (λ n. n % suc (p - 1)) (sym e₁) ∙ h t ∙ ap (λ n. n % suc (p - 1)) (e₃ ∙ e₂))

  pub one_form : (e f : List (ℕ × Tree ℕ)) → Rising e → Rising f → Small e → Small f → Alikes e f → e ≡ f
  one_form [] [] r s a b h = refl
  one_form [] (y ∷ f) r s a b h = absurd (not_gone y f [] s b.0 (coef_nothing tree_discrete y.1) (λ t. sym (h t)))
  one_form (x ∷ e) [] r s a b h = absurd (not_gone x e [] r a.0 (coef_nothing tree_discrete x.1) h)
  one_form (x ∷ e) (y ∷ f) r s a b h = go (order x.1 y.1) refl (λ k. one_form e f r.1 s.1 a.1 b.1 k)
    where
      go : (o : Ordering) → order x.1 y.1 ≡ o → (Alikes e f → e ≡ f) → x ∷ e ≡ y ∷ f
      go Less l ih = absurd (not_gone x e (y ∷ f) r a.0 (coef-after x.1 (y ∷ f) (l, later x.1 y.1 f l s.0)) h)
      go Greater l ih =
          let k : order y.1 x.1 ≡ Less = order_is_total.turned x.1 y.1 ∙ ap ordering_reverse l in
          absurd (not_gone y f (x ∷ e) s b.0 (coef-after y.1 (x ∷ e) (k, later y.1 x.1 e k r.0)) (λ t. sym (h t)))
      go Equal l ih =
          let tree : x.1 ≡ y.1 = (order_is_total.equal x.1 y.1).0 l in
          let number : x.0 ≡ y.0 = one_residue p x.0 y.0 a.0.1 b.0.1
          (ap (λ n. n % suc (p - 1)) (sym (coef-first x e r)) ∙ h x.1 ∙ ap (λ n. n % suc (p - 1)) (ap (coef tree_discrete (y ∷ f)) tree ∙ coef-first y f s)) in
          let same : x ≡ y = ap₂ (λ m t. (m, t)) number tree in
          ap₂ (λ z g. z ∷ g) same (ih (without_first x y e f same h))

  -- reduced sums that are the same are equal
  pub one_reduced : (parts : ℕ → List Part) (e f : List (ℕ × Tree ℕ)) → IsReduced p parts e → IsReduced p parts f → Alikes e f → e ≡ f
  one_reduced parts e f a b h =
      one_form e f (pairs_from_AllPairs (λ x y. order x.1 y.1 ≡ Less) e a.ascending) (pairs_from_AllPairs (λ x y. order x.1 y.1 ≡ Less) f b.ascending)
      (recursion_from_All (λ x. (0 < x.0) × (x.0 < p)) e a.residues) (recursion_from_All (λ x. (0 < x.0) × (x.0 < p)) f b.residues) h

pub one_collected : OneCollectedForm
one_collected p parts e f g positive a b = one_reduced p parts f g a.reduced b.reduced (λ t. a.same t ∙ sym (b.same t))
