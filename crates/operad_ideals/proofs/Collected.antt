-- Elements with one collected form differ by instances of symmetry rules.
use Rattle.std.proofs.Common.{◌≡◌, ℕ, zero, suc, ◌+◌, ◌*◌, ◌%◌, ◌<◌, List, [], ◌∷◌, ◌++◌, length, refl, sym, ap, ◌∙◌, subst, arith}
use mathlib.Core.Path.{ap₂}
use Rattle.modular_sums.specs.Residues.{IsCongruent}
use Rattle.modular_sums.specs.Sums.{coef, scale, Same, expand, moved, AllTerms}
use Rattle.modular_sums.proofs.Residues.{congruent_add, congruent_mul, congruent_of_gone, less_alike}
use Rattle.modular_sums.proofs.Sums.{choose-mul, coef-append, coef-scale}
use Rattle.modular_sums.proofs.Coefficients.{coef_nothing}
use Rattle.modular_sums.proofs.Replacements.{sum_over}
use Rattle.modular_sums.proofs.Images.{same_sum}
use Rattle.labelled_trees.specs.Trees.{Tree, Row, node, none, more, row, inputs, width, graft, graft_row}
use Rattle.labelled_trees.specs.Contexts.{Ctx, RowCtx, hole, inside, here, past, fill, fill_row}
use Rattle.labelled_trees.specs.Equality.{tree_discrete}
use Rattle.labelled_trees.specs.Labelled.{IsLabelled}
use Rattle.labelled_trees.proofs.Rows.{row-inputs}
use Rattle.labelled_trees.proofs.Numbered.{labelled_once}
use Rattle.labelled_trees.proofs.Fitting.{fits_of_fill}
use Rattle.operad_ideals.specs.Parts.{Sign, minus, times, InOnePart}
use Rattle.operad_ideals.specs.Spelling.{Agrees, exchanged, inside as inside_one}
use Rattle.operad_ideals.specs.Sorting.{spelled, spelled_sign}
use Rattle.operad_ideals.specs.Presentations.{Presentation, residue_of, parts, arity_of, without_relations}
use Rattle.operad_ideals.specs.SpelledSums.{spelled_sum}
use Rattle.operad_ideals.specs.Rules.{numbered, exchanged_at, Rule, relation, symmetry, rule_terms}
use Rattle.operad_ideals.specs.Ideals.{InIdeal}
use Rattle.operad_ideals.specs.HoleInstances.{HoleInstance, hole_element}
use Rattle.operad_ideals.specs.IdealLaws.{less_signed, CollectedForms}
use Rattle.operad_ideals.proofs.Signs.{times_assoc}
use Rattle.modular_sums.proofs.Links.{two_gone}
use Rattle.operad_ideals.proofs.Residues.{residue-times, residue_gone}
use Rattle.operad_ideals.proofs.Exchanged.{graft_row-exchanged}
use Rattle.operad_ideals.proofs.Spellings.{spelled-agrees}
use Rattle.operad_ideals.proofs.Ideals.{ideal_zero, ideal-append, ideal-scale, ideal-same}
use Rattle.operad_ideals.proofs.HoleInstances.{ideals_are_one}
use Rattle.operad_ideals.proofs.AgreementLinks.{near_spelled}
use Rattle.operad_ideals.proofs.ArityOne.{part_below}
use Rattle.modular_sums.specs.Lists.{choose}

-- ---- exchanges in a context

-- a row with the inputs i and i + 1
record Pair (i : ℕ) (r : Row ℕ) : Type 0 where
  front : List (Tree ℕ)
  first : Tree ℕ
  second : Tree ℕ
  back : List (Tree ℕ)
  size : length front ≡ i
  is : r ≡ row (front ++ first ∷ (second ∷ back))
  turned : exchanged_at i r ≡ row (front ++ second ∷ (first ∷ back))

pair_at : (i : ℕ) (r : Row ℕ) → suc i < width r → Pair i r
pair_at i none h = absurd (omega (arith, h))
pair_at zero (more t none) h = absurd (omega (arith, h))
pair_at zero (more t (more u r)) h = record {
  front = [];
  first = t;
  second = u;
  back = inputs r;
  size = refl;
  is = ap (λ s. more t (more u s)) (sym (row-inputs r));
  turned = ap (λ s. more u (more t s)) (sym (row-inputs r));
}
pair_at (suc i) (more t r) h =
    let k = pair_at i r (omega (arith, h)) in
    record { front = t ∷ k.front; first = k.first; second = k.second; back = k.back; size = ap suc k.size; is = ap (more t) k.is; turned = ap (more t) k.turned }

-- the input with the hole, among the others
record Among (c : RowCtx ℕ) : Type 0 where
  front : List (Tree ℕ)
  inner : Ctx ℕ
  back : List (Tree ℕ)
  is : (x : Tree ℕ) → fill_row c x ≡ row (front ++ fill inner x ∷ back)

-- the spelled sum over a presentation
abbrev collected : Presentation → List (ℕ × Tree ℕ) → List (ℕ × Tree ℕ)
collected p e = spelled_sum p.q (parts p) e

module _ (p : Presentation) where
  abbrev Agree : Sign → Tree ℕ → Tree ℕ → Type 0
  Agree = Agrees (parts p)

  agree_among : (g : ℕ) (s : Sign) (a b : Tree ℕ) (c : RowCtx ℕ) (k : Among c) → Agree s (fill k.inner a) (fill k.inner b) → Agree s (node g (fill_row c a)) (node g (fill_row c b))
  agree_among g s a b c k h = subst (λ x. Agree s (node g x) (node g (fill_row c b))) (sym (k.is a))
      (subst (λ x. Agree s (node g (row (k.front ++ fill k.inner a ∷ k.back))) (node g x)) (sym (k.is b)) (inside_one g s k.front (fill k.inner a) (fill k.inner b) k.back h))

  record Below (s : Sign) (a b : Tree ℕ) (c : RowCtx ℕ) : Type 0 where
    at : Among c
    agree : Agree s (fill at.inner a) (fill at.inner b)

  mutual
    -- trees that agree, in a context
    agree_fill : (s : Sign) (a b : Tree ℕ) → Agree s a b → (c : Ctx ℕ) → Agree s (fill c a) (fill c b)
    agree_fill s a b h hole = h
    agree_fill s a b h (inside g c) = let k = agree_fill_row s a b h c in agree_among g s a b c k.at k.agree

    agree_fill_row : (s : Sign) (a b : Tree ℕ) → Agree s a b → (c : RowCtx ℕ) → Below s a b c
    agree_fill_row s a b h (here c r) = record {
      at = record { front = []; inner = c; back = inputs r; is = λ x. ap (more (fill c x)) (sym (row-inputs r)) };
      agree = agree_fill s a b h c;
    }
    agree_fill_row s a b h (past t c) =
        let k = agree_fill_row s a b h c in
        record { at = record { front = t ∷ k.at.front; inner = k.at.inner; back = k.at.back; is = λ x. ap (more t) (k.at.is x) }; agree = k.agree }

  agree_exchanged : (g i : ℕ) (s : Sign) (r : Row ℕ) → InOnePart (parts p g) i s → suc i < width r → Agree s (node g r) (node g (exchanged_at i r))
  agree_exchanged g i s r h l =
      let k = pair_at i r l in
      subst (λ x. Agree s (node g x) (node g (exchanged_at i r))) (sym k.is)
      (subst (λ x. Agree s (node g (row (k.front ++ k.first ∷ (k.second ∷ k.back)))) (node g x)) (sym k.turned)
      (exchanged g s k.front k.first k.second k.back (subst (λ m. InOnePart (parts p g) m s) (sym k.size) h)))

  -- ---- the collected form depends on the coefficients alone

  collected-append : (d e : List (ℕ × Tree ℕ)) → collected p (d ++ e) ≡ collected p d ++ collected p e
  collected-append [] e = refl
  collected-append (x ∷ d) e = ap (λ l. (x.0 * residue_of p.q (spelled_sign (parts p) x.1), spelled (parts p) x.1) ∷ l) (collected-append d e)

  collected-scale : (c : ℕ) (e : List (ℕ × Tree ℕ)) → collected p (scale c e) ≡ scale c (collected p e)
  unfolding scale
  collected-scale c [] = refl
  collected-scale c (x ∷ e) =
      let r : ℕ = residue_of p.q (spelled_sign (parts p) x.1) in
      let a : c * x.0 * r ≡ c * (x.0 * r) = omega arith in
      ap₂ (λ k l. (k, spelled (parts p) x.1) ∷ l) a (collected-scale c e)

  coef-collected : (e : List (ℕ × Tree ℕ)) (t : Tree ℕ) → coef tree_discrete (collected p e) t ≡ sum_over e (λ x. choose (tree_discrete (spelled (parts p) x) t) (residue_of p.q (spelled_sign (parts p) x)) 0)
  unfolding coef
  coef-collected [] t = refl
  coef-collected (x ∷ e) t = ap₂ (λ a b. a + b) (choose-mul (tree_discrete (spelled (parts p) x.1) t) x.0 (residue_of p.q (spelled_sign (parts p) x.1))) (coef-collected e t)

  Same-collected : (d e : List (ℕ × Tree ℕ)) → Same tree_discrete p.q d e → Same tree_discrete p.q (collected p d) (collected p e)
  Same-collected d e h t = rw (coef-collected d t, coef-collected e t)
      (same_sum (Tree ℕ) tree_discrete p.q d e (λ x. choose (tree_discrete (spelled (parts p) x) t) (residue_of p.q (spelled_sign (parts p) x)) 0) h)

  -- ---- instances of symmetry rules collect to nothing

  signs_gone : (s t u : Sign) → t ≡ times s u → IsCongruent p.q (1 * residue_of p.q t + residue_of p.q (times minus s) * residue_of p.q u) 0
  signs_gone s t u e =
      let one : 1 * residue_of p.q t ≡ residue_of p.q t = omega arith in
      rw one (congruent_add p.q (residue_of p.q t) (residue_of p.q t) (residue_of p.q (times minus s) * residue_of p.q u) (residue_of p.q (times minus t)) refl
      (residue-times p.q (times minus s) u ∙ ap (λ r. residue_of p.q r % suc p.q) (times_assoc minus s u ∙ ap (times minus) (sym e)))
      ∙ residue_gone p.q t)

  gone : (n : ℕ) (s : Sign) (t u : Tree ℕ) → Agree s t u → IsLabelled (arity_of p) n t → Same tree_discrete p.q (collected p ((1, t) ∷ ((residue_of p.q (times minus s), u) ∷ []))) []
  gone n s t u h l =
      let k = spelled-agrees (parts p) s t u h l.fits (labelled_once l) in
      two_gone tree_discrete p.q (1 * residue_of p.q (spelled_sign (parts p) t)) (residue_of p.q (times minus s) * residue_of p.q (spelled_sign (parts p) u)) (spelled (parts p) t) (spelled (parts p) u) k.0
      (signs_gone s (spelled_sign (parts p) t) (spelled_sign (parts p) u) k.1)

  instance_gone : (n : ℕ) (i : HoleInstance (without_relations p) n) → Same tree_discrete p.q (collected p (hole_element (without_relations p) n i)) []
  instance_gone n i = at i.rule i.labelled
    where
      at : (rule : Rule (without_relations p)) → AllTerms (moved (λ x. fill i.context (graft x i.inputs)) (rule_terms (without_relations p) rule)) (IsLabelled (arity_of p) n)
          → Same tree_discrete p.q (collected p (moved (λ x. fill i.context (graft x i.inputs)) (rule_terms (without_relations p) rule))) []
      at (relation r m) v = absurd m
      at (symmetry g j s h) v =
          let r : Row ℕ = graft_row (numbered 0 (arity_of p g)) i.inputs in
          let wide : width r ≡ arity_of p g = (fits_of_fill (arity_of p) i.context (node g r) v.0.fits).1 in
          let agrees : Agree s (fill i.context (node g r)) (fill i.context (node g (exchanged_at j r)))
          = agree_fill s (node g r) (node g (exchanged_at j r)) (agree_exchanged g j s r h (omega (arith, wide, part_below (parts p g) j s h))) i.context in
          subst (λ x. Same tree_discrete p.q (collected p ((1, fill i.context (node g r)) ∷ ((residue_of p.q (times minus s), fill i.context (node g x)) ∷ []))) [])
          (sym (graft_row-exchanged j (numbered 0 (arity_of p g)) i.inputs)) (gone n s (fill i.context (node g r)) (fill i.context (node g (exchanged_at j r))) agrees v.0)

  all_gone : (n : ℕ) (l : List (ℕ × HoleInstance (without_relations p) n)) → Same tree_discrete p.q (collected p (expand (hole_element (without_relations p) n) l)) []
  unfolding expand
  all_gone n [] t = refl
  all_gone n (x ∷ l) t = go (instance_gone n x.1 t) (all_gone n l t)
    where
      first : List (ℕ × Tree ℕ)
      first = hole_element (without_relations p) n x.1

      others : List (ℕ × Tree ℕ)
      others = expand (hole_element (without_relations p) n) l

      zeros : (a : ℕ) → a ≡ 0 → IsCongruent p.q (x.0 * a + a) a
      zeros a e = let z : x.0 * a + a ≡ a = rw e (omega arith) in ap (λ k. k % suc p.q) z

      go : IsCongruent p.q (coef tree_discrete (collected p first) t) (coef {M = Tree ℕ} tree_discrete [] t) → IsCongruent p.q (coef tree_discrete (collected p others) t) (coef {M = Tree ℕ} tree_discrete [] t)
          → IsCongruent p.q (coef tree_discrete (collected p (scale x.0 first ++ others)) t) (coef {M = Tree ℕ} tree_discrete [] t)
      go a b = rw (collected-append (scale x.0 first) others, collected-scale x.0 first, coef-append tree_discrete (scale x.0 (collected p first)) (collected p others) t, coef-scale tree_discrete x.0 (collected p first) t)
          (congruent_add p.q (x.0 * coef tree_discrete (collected p first) t) (x.0 * coef {M = Tree ℕ} tree_discrete [] t) (coef tree_discrete (collected p others) t) (coef {M = Tree ℕ} tree_discrete [] t)
          (congruent_mul p.q x.0 x.0 (coef tree_discrete (collected p first) t) (coef {M = Tree ℕ} tree_discrete [] t) refl a) b ∙ zeros (coef {M = Tree ℕ} tree_discrete [] t) (coef_nothing tree_discrete t))

  -- ---- an element, less its collected form

  pub less_collected : (n : ℕ) (e : List (ℕ × Tree ℕ)) → AllTerms e (IsLabelled (arity_of p) n) → InIdeal (without_relations p) n (e ++ scale p.q (collected p e))
  unfolding scale coef
  less_collected n [] h = ideal_zero (without_relations p) n
  less_collected n (x ∷ e) h = ideal-same (without_relations p) n ((x ∷ e) ++ scale p.q (collected p (x ∷ e))) (scale x.0 (less_signed p.q x.1 s u) ++ (e ++ scale p.q (collected p e))) adds_up
      (ideal-append (without_relations p) n (scale x.0 (less_signed p.q x.1 s u)) (e ++ scale p.q (collected p e))
      (ideal-scale (without_relations p) n x.0 (less_signed p.q x.1 s u) near) (less_collected n e h.1))
    where
      s : Sign
      s = spelled_sign (parts p) x.1

      u : Tree ℕ
      u = spelled (parts p) x.1

      near : InIdeal (without_relations p) n (less_signed p.q x.1 (spelled_sign (parts p) x.1) (spelled (parts p) x.1))
      near = (ideals_are_one (without_relations p) n (less_signed p.q x.1 (spelled_sign (parts p) x.1) (spelled (parts p) x.1)) (λ r m. absurd m)).1 (near_spelled (without_relations p) n x.1 h.0)

      -- the coefficient of the sorted spelling
      signed : IsCongruent p.q (p.q * (x.0 * residue_of p.q (spelled_sign (parts p) x.1))) (x.0 * residue_of p.q (times minus (spelled_sign (parts p) x.1)))
      signed =
          let r : ℕ = residue_of p.q (spelled_sign (parts p) x.1) in
          let a : p.q * (x.0 * r) ≡ x.0 * (p.q * r) = omega arith in
          rw a (congruent_mul p.q x.0 x.0 (p.q * r) (residue_of p.q (times minus (spelled_sign (parts p) x.1))) refl (residue-times p.q minus (spelled_sign (parts p) x.1)))

      at_hit : {C : Type 0} (z : Dec C) → IsCongruent p.q (choose z (p.q * (x.0 * residue_of p.q (spelled_sign (parts p) x.1))) 0) (choose z (x.0 * residue_of p.q (times minus (spelled_sign (parts p) x.1))) 0)
      at_hit (yes _) = signed
      at_hit (no _) = refl

      adds_up : (t : Tree ℕ) → IsCongruent p.q (choose (tree_discrete x.1 t) x.0 0 + coef tree_discrete (e ++ ((p.q * (x.0 * residue_of p.q s), u) ∷ scale p.q (collected p e))) t)
          (choose (tree_discrete x.1 t) (x.0 * 1) 0 + (choose (tree_discrete u t) (x.0 * residue_of p.q (times minus s)) 0 + coef tree_discrete (e ++ scale p.q (collected p e)) t))
      adds_up t =
          let one : x.0 * 1 ≡ x.0 = omega arith in
          let a : coef tree_discrete (e ++ ((p.q * (x.0 * residue_of p.q s), u) ∷ scale p.q (collected p e))) t
          ≡ coef tree_discrete e t + (choose (tree_discrete u t) (p.q * (x.0 * residue_of p.q s)) 0 + coef tree_discrete (scale p.q (collected p e)) t)
          = coef-append tree_discrete e ((p.q * (x.0 * residue_of p.q s), u) ∷ scale p.q (collected p e)) t in
          let b : coef tree_discrete (e ++ scale p.q (collected p e)) t ≡ coef tree_discrete e t + coef tree_discrete (scale p.q (collected p e)) t = coef-append tree_discrete e (scale p.q (collected p e)) t in
          rw (one, a, b) (sums (choose (tree_discrete x.1 t) x.0 0) (coef tree_discrete e t) (coef tree_discrete (scale p.q (collected p e)) t)
          (choose (tree_discrete u t) (p.q * (x.0 * residue_of p.q s)) 0) (choose (tree_discrete u t) (x.0 * residue_of p.q (times minus s)) 0) (at_hit (tree_discrete u t)))
        where
          sums : (k l m v w : ℕ) → IsCongruent p.q v w → IsCongruent p.q (k + (l + (v + m))) (k + (w + (l + m)))
          sums k l m v w h =
              let y : k + (l + (v + m)) ≡ k + l + m + v = omega arith in
              let z : k + (w + (l + m)) ≡ k + l + m + w = omega arith in
              rw (y, z) (congruent_add p.q (k + l + m) (k + l + m) v w refl h)

pub collected_forms : CollectedForms
collected_forms p n d e hd he = (
  λ m t.
      let k = (ideals_are_one (without_relations p) n (d ++ scale p.q e) (λ r i. absurd i)).0 m in
      let z = Same-collected p (d ++ scale p.q e) (expand (hole_element (without_relations p) n) k.uses) k.adds_up t ∙ all_gone p n k.uses t in
      congruent_of_gone p.q (coef tree_discrete (collected p d) t) (coef tree_discrete (collected p e) t)
      (ap (λ a. a % suc p.q) (sym (ap (λ l. coef tree_discrete l t) (collected-append p d (scale p.q e) ∙ ap (λ l. collected p d ++ l) (collected-scale p p.q e))
      ∙ coef-append tree_discrete (collected p d) (scale p.q (collected p e)) t ∙ ap (λ a. coef tree_discrete (collected p d) t + a) (coef-scale tree_discrete p.q (collected p e) t)))
      ∙ z ∙ ap (λ a. a % suc p.q) (coef_nothing tree_discrete t)),
  λ s. ideal-same (without_relations p) n (d ++ scale p.q e) ((d ++ scale p.q (collected p d)) ++ scale p.q (e ++ scale p.q (collected p e)))
      (λ t. rw (
        coef-append tree_discrete d (scale p.q e) t,
        coef-scale tree_discrete p.q e t,
        coef-append tree_discrete (d ++ scale p.q (collected p d)) (scale p.q (e ++ scale p.q (collected p e))) t,
        coef-append tree_discrete d (scale p.q (collected p d)) t,
        coef-scale tree_discrete p.q (collected p d) t,
        coef-scale tree_discrete p.q (e ++ scale p.q (collected p e)) t,
        coef-append tree_discrete e (scale p.q (collected p e)) t,
        coef-scale tree_discrete p.q (collected p e) t,
      )
      (less_alike p.q (coef tree_discrete d t) (coef tree_discrete e t) (coef tree_discrete (collected p d) t) (coef tree_discrete (collected p e) t) (s t)))
      (ideal-append (without_relations p) n (d ++ scale p.q (collected p d)) (scale p.q (e ++ scale p.q (collected p e))) (less_collected p n d hd)
      (ideal-scale (without_relations p) n p.q (e ++ scale p.q (collected p e)) (less_collected p n e he))),
)
