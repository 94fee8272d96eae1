-- Instances with a built-in hole, and those whose context is a tree, give one ideal.
use Rattle.std.proofs.Common.{◌≡◌, ℕ, zero, suc, ◌+◌, ◌<◌, ◌≤◌, List, [], ◌∷◌, refl, sym, ◌∙◌, ap, arith, subst, inl, inr}
use Rattle.std.specs.Prelude.{flat_map}
use native.Mathlib.Decide.{ℕ_discrete}
use Rattle.modular_sums.specs.Lists.{Mem}
use Rattle.modular_sums.specs.Sums.{scale, expand, moved, AllTerms}
use Rattle.modular_sums.proofs.Sums.{combination-append, combination-scale, combination-same}
use Rattle.modular_sums.proofs.Images.{AllTerms-imp, moved_eq, moved_ext}
use Rattle.labelled_trees.specs.Trees.{Tree, leaf, node, graft}
use Rattle.labelled_trees.specs.Contexts.{fill}
use Rattle.labelled_trees.specs.Leaves.{one_if, AllLeaves, AllRow, occurs}
use Rattle.labelled_trees.specs.Equality.{tree_discrete}
use Rattle.labelled_trees.specs.Labelled.{IsLabelled}
use Rattle.labelled_trees.specs.Insertions.{IsContext, put, item, listed}
use Rattle.labelled_trees.proofs.Leaves.{by_leaf, at_leaf, AllLeaves-imp, AllLeaves-zero}
use Rattle.labelled_trees.proofs.ContextLeaves.{zero_once}
use Rattle.labelled_trees.proofs.Numbered.{numbered_of_labelled, numbered_no_zero}
use Rattle.labelled_trees.proofs.GraftLeaves.{graft_ext, sum_leaves-graft}
use Rattle.labelled_trees.proofs.Holes.{hole_at}
use Rattle.labelled_trees.proofs.Insertions.{put-fill, length-listed, item-listed}
use Rattle.operad_ideals.specs.Presentations.{Presentation, arity_of, IsSound}
use Rattle.operad_ideals.specs.Rules.{numbered, Rule, relation, symmetry, rule_arity, rule_terms}
use Rattle.operad_ideals.specs.Ideals.{placed, Instance, element, InIdeal}
use Rattle.operad_ideals.specs.HoleInstances.{HoleInstance, hole_element, InHoleIdeal}
use Rattle.operad_ideals.specs.IdealLaws.{OneIdeal}
use Rattle.modular_sums.proofs.Links.{member_zero, member_one}
use Rattle.operad_ideals.proofs.Exchanged.{all_row-exchanged, numbered_within, numbered_each}
use Rattle.operad_ideals.proofs.Ideals.{ideal_zero, ideal_one, ideal-append, ideal-same}

-- what stands in a list of the values of s
pub mem_listed : (s : ℕ → Tree ℕ) (a k : ℕ) (t : Tree ℕ) → Mem t (listed s a k) → (i : ℕ) × (t ≡ s i) × (a < i) × (i ≤ a + k)
mem_listed s a zero t m = absurd m
mem_listed s a (suc k) t (inl e) = (suc a, e, omega arith, omega arith)
mem_listed s a (suc k) t (inr m) = let r = mem_listed s (suc a) k t m in (r.0, r.1, omega (arith, r.2), omega (arith, r.3))

module _ (p : Presentation) (n : ℕ) (sound : IsSound p) where
  Within : ℕ → ℕ → Type 0
  Within m i = (0 < i) × (i ≤ m)

  -- the leaves of the terms of a rule
  rule_leaves : (rule : Rule p) → AllTerms (rule_terms p rule) (λ x. AllLeaves x (Within (rule_arity p rule)))
  unfolding Within
  rule_leaves (relation r m) = AllTerms-imp (IsLabelled (arity_of p) r.arity) (λ x. AllLeaves x (λ i. (0 < i) × (i ≤ r.arity))) r.terms (λ x h. by_leaf x (λ i. (0 < i) × (i ≤ r.arity)) h.only) (sound r m)
  rule_leaves (symmetry g i s p') =
      let k = arity_of p g in
      let z : 0 + k ≡ k = omega arith in
      let h : AllRow (numbered 0 k) (λ i. (0 < i) × (i ≤ k)) = subst (λ m. AllRow (numbered 0 k) (λ i. (0 < i) × (i ≤ m))) z (numbered_within 0 k) in
      (h, (all_row-exchanged (λ i. (0 < i) × (i ≤ k)) i (numbered 0 k) h, tt))

  -- each number stands in each term of a relation, and in the first of a symmetry rule
  rule_each : (rule : Rule p) (x : ℕ × Tree ℕ) (l : List (ℕ × Tree ℕ)) → rule_terms p rule ≡ x ∷ l → (i : ℕ) → Within (rule_arity p rule) i → 0 < occurs i x.1
  unfolding Within
  rule_each (relation r m) x l e i h =
      let v : AllTerms (x ∷ l) (IsLabelled (arity_of p) r.arity) = subst (λ t. AllTerms t (IsLabelled (arity_of p) r.arity)) e (sound r m) in
      let o : occurs i x.1 ≡ 1 = v.0.each i h.0 h.1 in
      omega (arith, o)
  rule_each (symmetry g j s p') x l e i h =
      let k = arity_of p g in
      let f : (1, node g (numbered 0 k)) ≡ x = cc e in
      subst (λ y. 0 < occurs i y.1) f (numbered_each 0 k i h.0 (omega (arith, h.1)))

  -- an instance with a hole, times a residue, as one whose context is a tree
  module _ (c : ℕ) (i : HoleInstance p n) where
    abbrev m : ℕ
    m = rule_arity p i.rule

    abbrev tree : Tree ℕ
    tree = fill i.context (leaf 0)

    abbrev given : List (Tree ℕ)
    given = listed i.inputs 0 m

    same_graft : (x : Tree ℕ) → AllLeaves x (Within m) → graft x (item given) ≡ graft x i.inputs
    unfolding Within
    same_graft x h = graft_ext x (item given) i.inputs (AllLeaves-imp x (λ k. (0 < k) × (k ≤ m)) (λ k. item given k ≡ i.inputs k) (λ k w. item-listed i.inputs m k w.0 w.1) h)

    same_terms : IsContext tree → moved (placed tree given) (rule_terms p i.rule) ≡ hole_element p n i
    same_terms o = moved_eq (placed tree given) (λ x. fill i.context (graft x i.inputs)) (λ x. AllLeaves x (Within m)) (rule_terms p i.rule) (rule_leaves i.rule)
        (λ x h. put-fill i.context (graft x (item given)) (omega (arith, o)) ∙ ap (fill i.context) (same_graft x h))

    nothing : scale {M = Tree ℕ} c [] ≡ []
    unfolding scale
    nothing = refl

    from_terms : (l : List (ℕ × Tree ℕ)) → rule_terms p i.rule ≡ l → InIdeal p n (scale c (hole_element p n i))
    unfolding Within
    from_terms [] e = subst (λ l. InIdeal p n (scale c (moved (λ x. fill i.context (graft x i.inputs)) l))) (sym e) (subst (InIdeal p n) (sym nothing) (ideal_zero p n))
    from_terms (x ∷ l) e =
        let v : AllTerms (moved (λ x. fill i.context (graft x i.inputs)) (x ∷ l)) (IsLabelled (arity_of p) n) = subst (λ k. AllTerms (moved (λ x. fill i.context (graft x i.inputs)) k) (IsLabelled (arity_of p) n)) e i.labelled in
        let o = zero_once i.context (graft x.1 i.inputs) (numbered_no_zero (numbered_of_labelled v.0)) in
        let zs = AllLeaves-zero x.1 (λ k. occurs 0 (i.inputs k)) (sym (sum_leaves-graft x.1 i.inputs (λ k. one_if (ℕ_discrete k 0))) ∙ o.1) in
        subst (λ k. InIdeal p n (scale c k)) (same_terms o.0) (ideal_one p n record {
          residue = c;
          context = tree;
          rule = i.rule;
          inputs = given;
          is_context = o.0;
          as_many = length-listed i.inputs 0 m;
          no_zero = λ t k.
              let r = mem_listed i.inputs 0 m t k in
              subst (λ y. occurs 0 y ≡ 0) (sym r.1) (at_leaf x.1 (λ j. occurs 0 (i.inputs j) ≡ 0) r.0 zs (rule_each i.rule x l e r.0 (r.2, omega (arith, r.3))));
          labelled = subst (λ k. AllTerms k (IsLabelled (arity_of p) n)) (sym (same_terms o.0)) i.labelled;
        })

  -- so are sums of instances with a hole
  from_holes : (l : List (ℕ × HoleInstance p n)) → InIdeal p n (expand (hole_element p n) l)
  unfolding expand
  from_holes [] = ideal_zero p n
  from_holes (x ∷ l) = ideal-append p n (scale x.0 (hole_element p n x.1)) (expand (hole_element p n) l) (from_terms x.0 x.1 (rule_terms p x.1.rule) refl) (from_holes l)

module _ (p : Presentation) (n : ℕ) where
  -- an instance whose context is a tree, as one with a hole
  to_hole : (i : Instance p n) → InHoleIdeal p n (element p n i)
  to_hole i =
      let s = hole_at 0 i.context (let o = i.is_context in omega (arith, o)) in
      let once : occurs 0 (fill s.around (leaf 0)) ≡ 1 = subst IsContext s.is i.is_context in
      let same = moved_ext (λ x. fill s.around (graft x (item i.inputs))) (placed i.context i.inputs) (rule_terms p i.rule)
      (λ x. sym (ap (λ c. put c (graft x (item i.inputs))) s.is ∙ put-fill s.around (graft x (item i.inputs)) (omega (arith, once)))) in
      combination-scale tree_discrete (hole_element p n) p.q i.residue {e = moved (placed i.context i.inputs) (rule_terms p i.rule)}
      (subst (InHoleIdeal p n) same (member_one tree_discrete (hole_element p n) p.q record {
        rule = i.rule;
        context = s.around;
        inputs = item i.inputs;
        labelled = subst (λ k. AllTerms k (IsLabelled (arity_of p) n)) (sym same) i.labelled;
      }))

  to_holes : (l : List (Instance p n)) → InHoleIdeal p n (flat_map (element p n) l)
  to_holes [] = member_zero tree_discrete (hole_element p n) p.q
  to_holes (i ∷ l) = combination-append tree_discrete (hole_element p n) p.q {e = element p n i} {f = flat_map (element p n) l} (to_hole i) (to_holes l)

pub ideals_are_one : OneIdeal
ideals_are_one p n e sound = (
  λ h. combination-same tree_discrete (hole_element p n) p.q {e = e} {f = flat_map (element p n) h.instances} h.adds_up (to_holes p n h.instances),
  λ h. ideal-same p n e (expand (hole_element p n) h.uses) h.adds_up (from_holes p n sound h.uses),
)
