-- The steps of a merge.
use Rattle.std.proofs.Common.{◌≡◌, ℕ, zero, suc, ◌+◌, ◌-◌, ◌*◌, ◌<◌, ◌%◌, List, [], ◌∷◌, refl, ap, sym, ◌∙◌, subst, arith}
use mathlib.Core.List.{◌++◌}
use Rattle.std.specs.declared.cmp.Ordering.{Ordering}
use Rattle.std.specs.declared.cmp.Ordering.TheVariants.{Less}
use Rattle.modular_sums.specs.Residues.{IsCongruent}
use Rattle.modular_sums.specs.Sums.{coef, scale, Same}
use Rattle.modular_sums.proofs.Sums.{coef-append, coef-scale}
use Rattle.modular_sums.proofs.Residues.{congruent_add}
use Rattle.modular_sums.specs.Falling.{IsAbove, Falls, AreNonzeroResidues, IsFalling}
use Rattle.modular_sums.specs.Merging.{unless_zero, IsMerging}
use Rattle.modular_sums.specs.Lists.{choose}

module _ {M : Type 0} (compare : M → M → Ordering) where
  -- what is behind the front falls too
  pub falls_right : (made l : List (ℕ × M)) → Falls compare (made ++ l) → Falls compare l
  falls_right [] l h = h
  falls_right (x ∷ made) l h = falls_right made l h.1

  -- the first of the rest is above what follows it
  pub above_next : (made : List (ℕ × M)) (x : ℕ × M) (l : List (ℕ × M)) → Falls compare (made ++ (x ∷ l)) → IsAbove compare x.1 l
  above_next made x l h = (falls_right made (x ∷ l) h).0

  above_switch : (m : M) (made : List (ℕ × M)) (x y : ℕ × M) (k l : List (ℕ × M)) → y.1 ≡ x.1 → IsAbove compare m (made ++ (x ∷ l)) → IsAbove compare m (made ++ (y ∷ k))
  above_switch m [] x y k l e h = subst (λ n. compare n m ≡ Less) (sym e) h
  above_switch m (z ∷ made) x y k l e h = h

  -- another list behind a term, below which it begins
  pub falls_switch : (made : List (ℕ × M)) (x y : ℕ × M) (k l : List (ℕ × M)) → y.1 ≡ x.1
      → Falls compare (made ++ (x ∷ l)) → IsAbove compare x.1 k → Falls compare k → Falls compare (made ++ (y ∷ k))
  falls_switch [] x y k l e h a f = (subst (λ n. IsAbove compare n k) (sym e) a, f)
  falls_switch (z ∷ made) x y k l e h a f = (above_switch z.1 made x y k l e h.0, falls_switch made x y k l e h.1 a f)

  module _ (trans : (x y z : M) → compare x y ≡ Less → compare y z ≡ Less → compare x z ≡ Less) where
    above_skip : (m : M) (made : List (ℕ × M)) (x : ℕ × M) (l : List (ℕ × M)) → IsAbove compare m (made ++ (x ∷ l)) → IsAbove compare x.1 l → IsAbove compare m (made ++ l)
    above_skip m [] x [] h a = tt
    above_skip m [] x (y ∷ l) h a = trans y.1 x.1 m a h
    above_skip m (z ∷ made) x l h a = h

    -- a term may be left out: here the order has to be transitive
    pub falls_skip : (made : List (ℕ × M)) (x : ℕ × M) (l : List (ℕ × M)) → Falls compare (made ++ (x ∷ l)) → Falls compare (made ++ l)
    falls_skip [] x l h = h.1
    falls_skip (z ∷ made) x l h = (above_skip z.1 made x l h.0 (above_next made x l h.1), falls_skip made x l h.1)

-- ---- coefficients

congruent_choose : {A : Type 0} (q : ℕ) (d : Dec A) (r a b c : ℕ) → IsCongruent q r (a + c * b) → IsCongruent q (choose d r 0) (choose d a 0 + c * choose d b 0)
congruent_choose q (yes _) r a b c h = h
congruent_choose q (no _) r a b c h = let e : 0 + c * 0 ≡ 0 = omega arith in rw e refl

choose-zero : {A : Type 0} (d : Dec A) → choose {B = ℕ} d 0 0 ≡ 0
choose-zero (yes _) = refl
choose-zero (no _) = refl

module _ {M : Type 0} (dec : Discrete M) where
  -- a term that was left out counts nothing
  pub coef-unless_zero : (c : ℕ) (m t : M) → coef dec (unless_zero c m) t ≡ choose (dec m t) c 0
  unfolding coef
  coef-unless_zero zero m t = sym (choose-zero (dec m t))
  coef-unless_zero (suc c) m t = omega arith

  -- the coefficient of what is made with what is left
  pub coef-left : (c : ℕ) (made left right : List (ℕ × M)) (t : M)
      → coef dec (made ++ (left ++ scale c right)) t ≡ coef dec made t + (coef dec left t + c * coef dec right t)
  coef-left c made left right t = coef-append dec made (left ++ scale c right) t
      ∙ ap (λ n. coef dec made t + n) (coef-append dec left (scale c right) t ∙ ap (λ n. coef dec left t + n) (coef-scale dec c right t))

  module _ (q c : ℕ) where
    -- a term of the first sum
    pub same_left : (made left right : List (ℕ × M)) (x : ℕ × M)
        → made ++ ((x ∷ left) ++ scale c right) ≡ (made ++ (x ∷ [])) ++ (left ++ scale c right)
    same_left [] left right x = refl
    same_left (y ∷ made) left right x = ap (λ l. y ∷ l) (same_left made left right x)

    -- a term of the second sum
    pub same_right : (made left right : List (ℕ × M)) (y : ℕ × M) (r : ℕ) → IsCongruent q r (c * y.0)
        → Same dec q ((made ++ unless_zero r y.1) ++ (left ++ scale c right)) (made ++ (left ++ scale c (y ∷ right)))
    unfolding coef
    same_right made left right y r h t =
        let new = coef-left c (made ++ unless_zero r y.1) left right t in
        let old = coef-left c made left (y ∷ right) t in
        let front = coef-append dec made (unless_zero r y.1) t in
        let term = coef-unless_zero r y.1 t in
        let zero_first : c * y.0 ≡ 0 + c * y.0 = omega arith in
        let here : IsCongruent q (choose (dec y.1 t) r 0) (choose {B = ℕ} (dec y.1 t) 0 0 + c * choose (dec y.1 t) y.0 0) = congruent_choose q (dec y.1 t) r 0 y.0 c (h ∙ ap (λ n. n % suc q) zero_first) in
        let none : choose {B = ℕ} (dec y.1 t) 0 0 ≡ 0 = choose-zero (dec y.1 t) in
        let rest = coef dec made t + (coef dec left t + c * coef dec right t) in
        let before : coef dec ((made ++ unless_zero r y.1) ++ (left ++ scale c right)) t ≡ rest + choose (dec y.1 t) r 0 = omega (arith, new, front, term) in
        let after : rest + (choose {B = ℕ} (dec y.1 t) 0 0 + c * choose (dec y.1 t) y.0 0) ≡ coef dec (made ++ (left ++ scale c (y ∷ right))) t = omega (arith, old, none) in
        ap (λ n. n % suc q) before ∙ congruent_add q rest rest _ _ refl here ∙ ap (λ n. n % suc q) after

    -- two terms with one monomial
    pub same_both : (made left right : List (ℕ × M)) (x y : ℕ × M) (r : ℕ) → y.1 ≡ x.1 → IsCongruent q r (x.0 + c * y.0)
        → Same dec q ((made ++ unless_zero r x.1) ++ (left ++ scale c right)) (made ++ ((x ∷ left) ++ scale c (y ∷ right)))
    unfolding coef
    same_both made left right x y r e h t =
        let new = coef-left c (made ++ unless_zero r x.1) left right t in
        let old = coef-left c made (x ∷ left) (y ∷ right) t in
        let front = coef-append dec made (unless_zero r x.1) t in
        let term = coef-unless_zero r x.1 t in
        let other : choose (dec y.1 t) y.0 0 ≡ choose (dec x.1 t) y.0 0 = ap (λ m. choose (dec m t) y.0 0) e in
        let here : IsCongruent q (choose (dec x.1 t) r 0) (choose (dec x.1 t) x.0 0 + c * choose (dec x.1 t) y.0 0) = congruent_choose q (dec x.1 t) r x.0 y.0 c h in
        let rest = coef dec made t + (coef dec left t + c * coef dec right t) in
        let before : coef dec ((made ++ unless_zero r x.1) ++ (left ++ scale c right)) t ≡ rest + choose (dec x.1 t) r 0 = omega (arith, new, front, term) in
        let after : rest + (choose (dec x.1 t) x.0 0 + c * choose (dec x.1 t) y.0 0) ≡ coef dec (made ++ ((x ∷ left) ++ scale c (y ∷ right))) t = omega (arith, old, ap (λ n. c * n) other) in
        ap (λ n. n % suc q) before ∙ congruent_add q rest rest _ _ refl here ∙ ap (λ n. n % suc q) after

-- ---- steps

behind : {X : Type 0} (made : List X) (x : X) (l : List X) → made ++ (x ∷ l) ≡ (made ++ (x ∷ [])) ++ l
behind [] x l = refl
behind (y ∷ made) x l = ap (λ k. y ∷ k) (behind made x l)

nothing_behind : {X : Type 0} (made : List X) → made ≡ made ++ []
nothing_behind [] = refl
nothing_behind (x ∷ made) = ap (λ k. x ∷ k) (nothing_behind made)

pub residues_append : {M : Type 0} (p : ℕ) (k l : List (ℕ × M)) → AreNonzeroResidues p k → AreNonzeroResidues p l → AreNonzeroResidues p (k ++ l)
residues_append p [] l h g = g
residues_append p (x ∷ k) l h g = (h.0, h.1, residues_append p k l h.2 g)

residues_unless_zero : {M : Type 0} (p r : ℕ) (m : M) → r < p → AreNonzeroResidues p (unless_zero r m)
residues_unless_zero p zero m h = tt
residues_unless_zero p (suc r) m h = (omega arith, h, tt)

module _ {M : Type 0} (compare : M → M → Ordering) (dec : Discrete M) (p c : ℕ) (one other : List (ℕ × M))
    (trans : (x y z : M) → compare x y ≡ Less → compare y z ≡ Less → compare x z ≡ Less) where
  -- the term or nothing, before what falls behind it
  falls_unless_zero : (made : List (ℕ × M)) (x : ℕ × M) (r : ℕ) (l k : List (ℕ × M)) → Falls compare (made ++ (x ∷ l)) → IsAbove compare x.1 k → Falls compare (made ++ k) → Falls compare ((made ++ unless_zero r x.1) ++ k)
  falls_unless_zero made x zero l k h a f = subst (λ g. Falls compare (g ++ k)) (nothing_behind made) f
  falls_unless_zero made x (suc r) l k h a f = subst (Falls compare) (behind made (suc r, x.1) k)
      (falls_switch compare made x (suc r, x.1) k l refl h a (falls_right compare made k f))

  -- a term of the first sum comes next, which is above what is left of the second
  pub left_step : (made left right : List (ℕ × M)) (x : ℕ × M) → IsMerging compare dec p c one other made (x ∷ left) right → IsAbove compare x.1 right
      → IsMerging compare dec p c one other (made ++ (x ∷ [])) left right
  left_step made left right x h a = record {
    left_falls = subst (Falls compare) (behind made x left) h.left_falls;
    right_falls = subst (Falls compare) (behind made x right) (falls_switch compare made x x right left refl h.left_falls a (falls_right compare made right h.right_falls));
    made_residues = residues_append p made (x ∷ []) h.made_residues (h.left_residues.0, h.left_residues.1, tt);
    left_residues = h.left_residues.2;
    right_residues = h.right_residues;
    adds_up = λ t. ap (λ l. coef dec l t % suc (p - 1)) (sym (same_left dec (p - 1) c made left right x)) ∙ h.adds_up t;
  }

  -- a term of the second sum comes next, which is above what is left of the first
  pub right_step : (made left right : List (ℕ × M)) (y : ℕ × M) (r : ℕ) → IsMerging compare dec p c one other made left (y ∷ right) → IsAbove compare y.1 left
      → r < p → IsCongruent (p - 1) r (c * y.0) → IsMerging compare dec p c one other (made ++ unless_zero r y.1) left right
  right_step made left right y r h a below alike = record {
    left_falls = falls_unless_zero made y r right left h.right_falls a h.left_falls;
    right_falls = falls_unless_zero made y r right right h.right_falls (above_next compare made y right h.right_falls) (falls_skip compare trans made y right h.right_falls);
    made_residues = residues_append p made (unless_zero r y.1) h.made_residues (residues_unless_zero p r y.1 below);
    left_residues = h.left_residues;
    right_residues = h.right_residues.2;
    adds_up = λ t. same_right dec (p - 1) c made left right y r alike t ∙ h.adds_up t;
  }

  -- two terms with one monomial come next
  pub both_step : (made left right : List (ℕ × M)) (x y : ℕ × M) (r : ℕ) → IsMerging compare dec p c one other made (x ∷ left) (y ∷ right) → y.1 ≡ x.1
      → r < p → IsCongruent (p - 1) r (x.0 + c * y.0) → IsMerging compare dec p c one other (made ++ unless_zero r x.1) left right
  both_step made left right x y r h e below alike = record {
    left_falls = falls_unless_zero made x r left left h.left_falls (above_next compare made x left h.left_falls) (falls_skip compare trans made x left h.left_falls);
    right_falls = falls_unless_zero made x r left right h.left_falls (subst (λ m. IsAbove compare m right) e (above_next compare made y right h.right_falls)) (falls_skip compare trans made y right h.right_falls);
    made_residues = residues_append p made (unless_zero r x.1) h.made_residues (residues_unless_zero p r x.1 below);
    left_residues = h.left_residues.2;
    right_residues = h.right_residues.2;
    adds_up = λ t. same_both dec (p - 1) c made left right x y r e alike t ∙ h.adds_up t;
  }

  -- at the start nothing is made
  pub merge_start : IsFalling compare p one → IsFalling compare p other → IsMerging compare dec p c one other [] one other
  merge_start f g = record {
    left_falls = f.falls;
    right_falls = g.falls;
    made_residues = tt;
    left_residues = f.residues;
    right_residues = g.residues;
    adds_up = λ t. refl;
  }

  -- at the end nothing is left
  pub merge_end : (made : List (ℕ × M)) → IsMerging compare dec p c one other made [] [] → IsFalling compare p made × Same dec (p - 1) made (one ++ scale c other)
  unfolding scale
  merge_end made h = (
    record { residues = h.made_residues; falls = subst (Falls compare) (sym (nothing_behind made)) h.left_falls },
    λ t. ap (λ l. coef dec l t % suc (p - 1)) (nothing_behind made) ∙ h.adds_up t,
  )
