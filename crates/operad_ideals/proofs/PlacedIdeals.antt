-- The ideal is closed under composition: its elements may be placed in contexts, with trees on their leaves.
use Rattle.std.proofs.Common.{◌≡◌, ℕ, List, [], ◌∷◌, sym, ap, ◌∙◌, subst, arith}
use Rattle.modular_sums.specs.Sums.{scale, expand, moved, AllTerms}
use Rattle.modular_sums.proofs.Images.{AllTerms-imp, moved-moved, moved_ext}
use Rattle.modular_sums.proofs.Laws.{image_law}
use Rattle.modular_sums.proofs.Sums.{AllTerms-moved}
use Rattle.labelled_trees.specs.Trees.{Tree, leaf, graft}
use Rattle.labelled_trees.specs.Contexts.{Ctx, fill, compose, graft_ctx}
use Rattle.labelled_trees.specs.Equality.{tree_discrete}
use Rattle.labelled_trees.specs.Insertions.{IsContext, put, item}
use Rattle.labelled_trees.specs.Labelled.{IsLabelled}
use Rattle.labelled_trees.specs.Leaves.{occurs}
use Rattle.labelled_trees.proofs.Contexts.{fill-compose, graft-fill}
use Rattle.labelled_trees.proofs.Grafts.{graft_assoc}
use Rattle.labelled_trees.proofs.Holes.{hole_at}
use Rattle.labelled_trees.proofs.Insertions.{put-fill}
use Rattle.operad_ideals.specs.Presentations.{Presentation, arity_of}
use Rattle.operad_ideals.specs.Rules.{rule_terms}
use Rattle.operad_ideals.specs.Ideals.{placed, InIdeal}
use Rattle.operad_ideals.specs.HoleInstances.{HoleInstance, hole_element, InHoleIdeal}
use Rattle.operad_ideals.proofs.Ideals.{ideal_zero, ideal-append, ideal-scale}
use Rattle.operad_ideals.proofs.HoleInstances.{ideals_are_one}
use Rattle.operad_ideals.specs.CompositeLaws.{CompositesInIdeal}

module _ (p : Presentation) (m n : ℕ) (c : Ctx ℕ) (s : ℕ → Tree ℕ) (keeps : (y : Tree ℕ) → IsLabelled (arity_of p) m y → IsLabelled (arity_of p) n (fill c (graft y s))) where
  placed_twice : (d : Ctx ℕ) (t : ℕ → Tree ℕ) (y : Tree ℕ) → fill (compose c (graft_ctx d s)) (graft y (λ a. graft (t a) s)) ≡ fill c (graft (fill d (graft y t)) s)
  placed_twice d t y =
      fill-compose c (graft_ctx d s) (graft y (λ a. graft (t a) s))
      ∙ ap (fill c) (ap (fill (graft_ctx d s)) (sym (graft_assoc y t s)) ∙ sym (graft-fill d (graft y t) s))

  whole : (i : HoleInstance p m) → moved (λ y. fill (compose c (graft_ctx i.context s)) (graft y (λ a. graft (i.inputs a) s))) (rule_terms p i.rule) ≡ moved (λ y. fill c (graft y s)) (hole_element p m i)
  whole i =
      moved_ext (λ y. fill (compose c (graft_ctx i.context s)) (graft y (λ a. graft (i.inputs a) s))) (λ y. fill c (graft (fill i.context (graft y i.inputs)) s)) (rule_terms p i.rule) (placed_twice i.context i.inputs)
      ∙ sym (moved-moved (λ y. fill i.context (graft y i.inputs)) (λ y. fill c (graft y s)) (rule_terms p i.rule))

  labels_kept : (e : List (ℕ × Tree ℕ)) → AllTerms e (IsLabelled (arity_of p) m) → AllTerms (moved (λ y. fill c (graft y s)) e) (IsLabelled (arity_of p) n)
  labels_kept e h = AllTerms-moved (λ y. fill c (graft y s)) e (IsLabelled (arity_of p) n) (AllTerms-imp (IsLabelled (arity_of p) m) (λ y. IsLabelled (arity_of p) n (fill c (graft y s))) e keeps h)

  placed_instance : HoleInstance p m → HoleInstance p n
  placed_instance i = record {
    rule = i.rule;
    context = compose c (graft_ctx i.context s);
    inputs = λ a. graft (i.inputs a) s;
    labelled = subst (λ e. AllTerms e (IsLabelled (arity_of p) n)) (sym (whole i)) (labels_kept (hole_element p m i) i.labelled);
  }

  -- an element of the ideal, placed
  placed_member : (e : List (ℕ × Tree ℕ)) → InHoleIdeal p m e → InHoleIdeal p n (moved (λ y. fill c (graft y s)) e)
  unfolding placed_instance
  placed_member e h = (image_law (Tree ℕ) (Tree ℕ) (HoleInstance p m) (HoleInstance p n) tree_discrete tree_discrete p.q (λ y. fill c (graft y s))).1 (hole_element p m) (hole_element p n) placed_instance whole e h

pub placed_in_ideal : CompositesInIdeal
placed_in_ideal p m n context inputs e sound is_context keeps h =
    let s = hole_at 0 context (let o = is_context in omega (arith, o)) in
    let once : occurs 0 (fill s.around (leaf 0)) ≡ 1 = subst IsContext s.is is_context in
    let same : (y : Tree ℕ) → fill s.around (graft y (item inputs)) ≡ placed context inputs y = λ y. sym (ap (λ c. put c (graft y (item inputs))) s.is ∙ put-fill s.around (graft y (item inputs)) (omega (arith, once))) in
    let moved_same = moved_ext (λ y. fill s.around (graft y (item inputs))) (placed context inputs) e same in
    subst (InIdeal p n) moved_same ((ideals_are_one p n (moved (λ y. fill s.around (graft y (item inputs))) e) sound).1
    (placed_member p m n s.around (item inputs) (λ y l. subst (IsLabelled (arity_of p) n) (sym (same y)) (keeps y l)) e ((ideals_are_one p m e sound).0 h)))

-- a sum of elements of the ideal
pub ideal-expand : {I : Type 0} (p : Presentation) (n : ℕ) (value : I → List (ℕ × Tree ℕ)) (P : I → Type 0) (l : List (ℕ × I)) → AllTerms l P → ((i : I) → P i → InIdeal p n (value i)) → InIdeal p n (expand value l)
unfolding expand
ideal-expand p n value P [] a h = ideal_zero p n
ideal-expand p n value P (x ∷ l) a h = ideal-append p n (scale x.0 (value x.1)) (expand value l) (ideal-scale p n x.0 (value x.1) (h x.1 a.0)) (ideal-expand p n value P l a.1 h)
