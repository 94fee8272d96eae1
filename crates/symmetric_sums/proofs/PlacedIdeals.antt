-- The ideal is closed under filling contexts and grafting inputs.
use Rattle.std.proofs.Common.{◌≡◌, ℕ, suc, ◌*◌, ◌<◌, List, ap, sym, ◌∙◌, subst, arith}
use native.Mathlib.Decide.{ℕ_discrete, dec_lt}
use Rattle.modular_sums.specs.Sums.{moved, AllTerms}
use Rattle.modular_sums.proofs.Images.{AllTerms-imp, moved-moved, moved_ext}
use Rattle.modular_sums.proofs.Sums.{AllTerms-moved}
use Rattle.modular_sums.proofs.Laws.{image_law}
use Rattle.labelled_trees.specs.Trees.{Tree, graft}
use Rattle.labelled_trees.specs.Contexts.{Ctx, fill, compose, graft_ctx}
use Rattle.labelled_trees.specs.Equality.{tree_discrete}
use Rattle.labelled_trees.specs.Labelled.{Fits, IsLabelled}
use Rattle.labelled_trees.specs.Leaves.{one_if, sum_leaves, occurs, AllLeaves}
use Rattle.labelled_trees.proofs.ContextLeaves.{sum-fill}
use Rattle.labelled_trees.proofs.Contexts.{fill-compose, graft-fill}
use Rattle.labelled_trees.proofs.Fitting.{fits-fill, fits-graft, fits_parts, fits_of_fill}
use Rattle.labelled_trees.proofs.GraftLeaves.{sum_leaves-graft}
use Rattle.labelled_trees.proofs.Grafts.{graft_assoc}
use Rattle.labelled_trees.proofs.Leaves.{by_leaf, at_leaf}
use Rattle.labelled_trees.proofs.RangeSums.{by_counts, range_sum_ext}
use Rattle.operad_ideals.specs.Presentations.{Presentation, arity_of}
use Rattle.operad_ideals.specs.Rules.{rule_terms}
use Rattle.operad_ideals.specs.HoleInstances.{HoleInstance, hole_element, InHoleIdeal}

-- ---- trees with the same labels

once_or_never : (arity : ℕ → ℕ) (m i : ℕ) (x y : Tree ℕ) → IsLabelled arity m x → IsLabelled arity m y → Dec (0 < occurs i x) → Dec (0 < occurs i y) → occurs i x ≡ occurs i y
once_or_never arity m i x y a b (yes o) d = let w = a.only i o in a.each i w.0 w.1 ∙ sym (b.each i w.0 w.1)
once_or_never arity m i x y a b (no z) (yes o) = let w = b.only i o in absurd (let e = a.each i w.0 w.1 in z (omega (arith, e)))
once_or_never arity m i x y a b (no z) (no w) = omega (arith, z, w)

same_sums : (arity : ℕ → ℕ) (m : ℕ) (x y : Tree ℕ) (f : ℕ → ℕ) → IsLabelled arity m x → IsLabelled arity m y → sum_leaves x f ≡ sum_leaves y f
same_sums arity m x y f a b =
    by_counts (suc m) x f (by_leaf x (λ i. i < suc m) (λ i o. let w = a.only i o in omega (arith, w.1)))
    ∙ range_sum_ext (suc m) (λ i. occurs i x * f i) (λ i. occurs i y * f i) (λ i. ap (λ k. k * f i) (once_or_never arity m i x y a b (dec_lt 0 (occurs i x)) (dec_lt 0 (occurs i y))))
    ∙ sym (by_counts (suc m) y f (by_leaf y (λ i. i < suc m) (λ i o. let w = b.only i o in omega (arith, w.1))))

-- where one tree, placed, is labelled, so is each other one with its labels
pub relabelled : (arity : ℕ → ℕ) (m n : ℕ) (c : Ctx ℕ) (s : ℕ → Tree ℕ) (x y : Tree ℕ) → IsLabelled arity m x → IsLabelled arity n (fill c (graft x s)) → IsLabelled arity m y → IsLabelled arity n (fill c (graft y s))
relabelled arity m n c s x y a p b =
    let same : (i : ℕ) → occurs i (fill c (graft y s)) ≡ occurs i (fill c (graft x s)) =
    λ i. sum-fill c (graft y s) (graft x s) (λ k. one_if (ℕ_discrete k i))
    (sum_leaves-graft y s (λ k. one_if (ℕ_discrete k i)) ∙ same_sums arity m y x (λ k. sum_leaves (s k) (λ j. one_if (ℕ_discrete j i))) b a ∙ sym (sum_leaves-graft x s (λ k. one_if (ℕ_discrete k i)))) in
    let parts : AllLeaves x (λ k. Fits arity (s k)) = fits_parts arity x s (fits_of_fill arity c (graft x s) p.fits) in
    record {
      fits = fits-fill arity c (graft x s) (graft y s) p.fits
          (fits-graft arity y s b.fits (by_leaf y (λ k. Fits arity (s k)) (λ i o. let w = b.only i o in at_leaf x (λ k. Fits arity (s k)) i parts (let e = a.each i w.0 w.1 in omega (arith, e)))));
      each = λ i l k. same i ∙ p.each i l k;
      only = λ i o. p.only i (omega (arith, o, same i));
    }

-- ---- instances, placed

module _ (p : Presentation) (m n : ℕ) (c : Ctx ℕ) (s : ℕ → Tree ℕ) (x : Tree ℕ) (small : IsLabelled (arity_of p) m x) (large : IsLabelled (arity_of p) n (fill c (graft x s))) where
  abbrev place : Tree ℕ → Tree ℕ
  place y = fill c (graft y s)

  placed_twice : (d : Ctx ℕ) (t : ℕ → Tree ℕ) (y : Tree ℕ) → fill (compose c (graft_ctx d s)) (graft y (λ a. graft (t a) s)) ≡ place (fill d (graft y t))
  placed_twice d t y =
      fill-compose c (graft_ctx d s) (graft y (λ a. graft (t a) s))
      ∙ ap (fill c) (ap (fill (graft_ctx d s)) (sym (graft_assoc y t s)) ∙ sym (graft-fill d (graft y t) s))

  labels_kept : (e : List (ℕ × Tree ℕ)) → AllTerms e (IsLabelled (arity_of p) m) → AllTerms (moved place e) (IsLabelled (arity_of p) n)
  labels_kept e h = AllTerms-moved place e (IsLabelled (arity_of p) n)
      (AllTerms-imp (IsLabelled (arity_of p) m) (λ y. IsLabelled (arity_of p) n (place y)) e (λ y l. relabelled (arity_of p) m n c s x y small large l) h)

  whole : (i : HoleInstance p m) → moved (λ y. fill (compose c (graft_ctx i.context s)) (graft y (λ a. graft (i.inputs a) s))) (rule_terms p i.rule) ≡ moved place (hole_element p m i)
  whole i =
      moved_ext (λ y. fill (compose c (graft_ctx i.context s)) (graft y (λ a. graft (i.inputs a) s))) (λ y. place (fill i.context (graft y i.inputs))) (rule_terms p i.rule) (placed_twice i.context i.inputs)
      ∙ sym (moved-moved (λ y. fill i.context (graft y i.inputs)) place (rule_terms p i.rule))

  placed_instance : HoleInstance p m → HoleInstance p n
  placed_instance i = record {
    rule = i.rule;
    context = compose c (graft_ctx i.context s);
    inputs = λ a. graft (i.inputs a) s;
    labelled = subst (λ e. AllTerms e (IsLabelled (arity_of p) n)) (sym (whole i)) (labels_kept (hole_element p m i) i.labelled);
  }

  -- an element of the ideal, placed
  pub placed_member : (e : List (ℕ × Tree ℕ)) → InHoleIdeal p m e → InHoleIdeal p n (moved place e)
  unfolding placed_instance
  placed_member e h = (image_law (Tree ℕ) (Tree ℕ) (HoleInstance p m) (HoleInstance p n) tree_discrete tree_discrete p.q place).1 (hole_element p m) (hole_element p n) placed_instance whole e h
