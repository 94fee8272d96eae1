-- In arity one no rule with terms has an instance.
use Rattle.std.proofs.Common.{◌≡◌, ◌⊎◌, inl, inr, ℕ, zero, suc, ◌<◌, ◌≤◌, List, [], ◌∷◌, ◌++◌, refl, ap, ◌∙◌, subst, arith}
use Rattle.modular_sums.specs.Lists.{Mem}
use Rattle.modular_sums.specs.Sums.{scale, expand, Same, moved, AllTerms}
use Rattle.labelled_trees.specs.Trees.{Tree, node, graft}
use Rattle.labelled_trees.specs.Contexts.{Ctx, fill}
use Rattle.labelled_trees.specs.Leaves.{sum_leaves, AllLeaves, leaf_count, leaf_count_row}
use Rattle.labelled_trees.specs.Equality.{tree_discrete}
use Rattle.labelled_trees.specs.Labelled.{Fits, IsLabelled}
use Rattle.labelled_trees.proofs.Leaves.{sum_leaves-≤, AllLeaves-imp}
use Rattle.labelled_trees.proofs.Counts.{leaf_count-labelled}
use Rattle.labelled_trees.proofs.ContextLeaves.{sum_of_fill}
use Rattle.labelled_trees.proofs.GraftLeaves.{sum_leaves-graft}
use Rattle.labelled_trees.proofs.Fitting.{fits_of_fill, fits_parts, some_leaf}
use Rattle.operad_ideals.specs.Parts.{Part, Sign, total, InOnePart}
use Rattle.operad_ideals.specs.Presentations.{Relation, Presentation, parts, arity_of, IsSound, IsProper}
use Rattle.operad_ideals.specs.Rules.{numbered, Rule, relation, symmetry, rule_terms}
use Rattle.operad_ideals.specs.HoleInstances.{HoleInstance, hole_element}
use Rattle.operad_ideals.specs.IdealLaws.{OnlyZeroInArityOne}
use Rattle.operad_ideals.proofs.HoleInstances.{ideals_are_one}

-- inputs in one part are two of all inputs
pub part_below : (ps : List Part) (i : ℕ) (s : Sign) → InOnePart ps i s → suc i < total ps
part_below [] i s h = absurd h
part_below (p ∷ ps) i s (inl h) = omega (arith, h.0)
part_below (p ∷ ps) i s (inr h) = let k : suc h.0 < total ps = part_below ps h.0 s h.2 in omega (arith, k, h.1)

numbered_leaves : (a k : ℕ) → leaf_count_row (numbered a k) ≡ k
numbered_leaves a zero = refl
numbered_leaves a (suc k) = omega (arith, numbered_leaves (suc a) k)

-- a tree with two leaves in a context, with trees for its leaves, isn't labelled by 1 alone
two_leaves : (arity : ℕ → ℕ) (c : Ctx ℕ) (x : Tree ℕ) (s : ℕ → Tree ℕ) → 2 ≤ leaf_count x → IsLabelled arity 1 (fill c (graft x s)) → ⊥
two_leaves arity c x s two h =
    let parts : AllLeaves x (λ i. Fits arity (s i)) = fits_parts arity x s (fits_of_fill arity c (graft x s) h.fits) in
    let a : leaf_count x ≤ sum_leaves x (λ i. leaf_count (s i)) = sum_leaves-≤ x (λ i. 1) (λ i. leaf_count (s i)) (AllLeaves-imp x (λ i. Fits arity (s i)) (λ i. 1 ≤ leaf_count (s i)) (λ i f. some_leaf arity (s i) f) parts) in
    let b : leaf_count (graft x s) ≤ leaf_count (fill c (graft x s)) = sum_of_fill c (graft x s) (λ i. 1) in
    omega (arith, two, a, b, sum_leaves-graft x s (λ i. 1), leaf_count-labelled arity 1 (fill c (graft x s)) h)

module _ (p : Presentation) (sound : IsSound p) (proper : IsProper p) where
  no_terms : (i : HoleInstance p 1) → rule_terms p i.rule ≡ []
  no_terms i = at i.rule i.labelled
    where
      by_terms : (m : ℕ) → 2 ≤ m → (l : List (ℕ × Tree ℕ)) → AllTerms l (IsLabelled (arity_of p) m) → AllTerms (moved (λ x. fill i.context (graft x i.inputs)) l) (IsLabelled (arity_of p) 1) → l ≡ []
      by_terms m two [] h v = refl
      by_terms m two (x ∷ l) h v = absurd (two_leaves (arity_of p) i.context x.1 i.inputs (omega (arith, two, leaf_count-labelled (arity_of p) m x.1 h.0)) v.0)

      one_of : (r : Relation) → Mem r p.relations → (r.terms ≡ []) ⊎ (2 ≤ r.arity) → AllTerms (moved (λ x. fill i.context (graft x i.inputs)) r.terms) (IsLabelled (arity_of p) 1) → r.terms ≡ []
      one_of r m (inl e) v = e
      one_of r m (inr two) v = by_terms r.arity two r.terms (sound r m) v

      at : (rule : Rule p) → AllTerms (moved (λ x. fill i.context (graft x i.inputs)) (rule_terms p rule)) (IsLabelled (arity_of p) 1) → rule_terms p rule ≡ []
      at (relation r m) v = one_of r m (proper r m) v
      at (symmetry g j s h) v = absurd (two_leaves (arity_of p) i.context (node g (numbered 0 (arity_of p g))) i.inputs (omega (arith, numbered_leaves 0 (arity_of p g), part_below (parts p g) j s h)) v.0)

  all_zero : (l : List (ℕ × HoleInstance p 1)) → expand (hole_element p 1) l ≡ []
  unfolding expand scale
  all_zero [] = refl
  all_zero (x ∷ l) = nothing (rule_terms p x.1.rule) (no_terms x.1) ∙ all_zero l
    where
      nothing : (t : List (ℕ × Tree ℕ)) → t ≡ [] → scale x.0 (moved (λ y. fill x.1.context (graft y x.1.inputs)) t) ++ expand (hole_element p 1) l ≡ expand (hole_element p 1) l
      nothing t e = ap (λ u. scale x.0 (moved (λ y. fill x.1.context (graft y x.1.inputs)) u) ++ expand (hole_element p 1) l) e

pub only_zero : OnlyZeroInArityOne
only_zero p sound proper e m =
    let h = (ideals_are_one p 1 e sound).0 m in
    subst (Same tree_discrete p.q e) (all_zero p sound proper h.uses) h.adds_up
