-- The shuffle form of a sum of instances is a sum of insertions.
use Rattle.std.proofs.Common.{◌≡◌, ℕ, ◌+◌, ◌*◌, ◌^◌, ◌<◌, ◌≤◌, List, [], ◌∷◌, refl, sym, ◌∙◌, ap, arith, subst}
use mathlib.Core.Path.{ap₂}
use native.Mathlib.Decide.{ℕ_discrete}
use Rattle.std.proofs.lemmas.Nat.{pow-add}
use Rattle.modular_sums.specs.Lists.{Mem}
use Rattle.modular_sums.specs.Sums.{scale, expand, IsLinearCombination, moved, AllTerms}
use Rattle.modular_sums.proofs.Sums.{combination-scale, combination-same}
use Rattle.modular_sums.proofs.Images.{moved_eq}
use Rattle.labelled_trees.specs.Trees.{Tree, leaf, graft}
use Rattle.labelled_trees.specs.Contexts.{Ctx, fill}
use Rattle.labelled_trees.specs.Leaves.{one_if, sum_leaves, occurs}
use Rattle.labelled_trees.specs.Equality.{tree_discrete}
use Rattle.labelled_trees.specs.Labelled.{Fits, IsLabelled}
use Rattle.labelled_trees.proofs.Leaves.{by_leaf}
use Rattle.labelled_trees.proofs.GraftLeaves.{graft_ext, sum_leaves-graft}
use Rattle.labelled_trees.proofs.ContextLeaves.{sum_of_fill, once_inside}
use Rattle.labelled_trees.proofs.Fitting.{fits_of_fill, fits-renamed}
use Rattle.shuffle_insertions.specs.ShuffleTrees.{least, IsShuffleTree}
use Rattle.shuffle_insertions.specs.Slots.{Slot, fill_slot, PartsRise}
use Rattle.labelled_trees.proofs.Numbered.{numbered_of_labelled, numbered_sums}
use Rattle.shuffle_insertions.proofs.Rising.{least_same}
use Rattle.shuffle_insertions.proofs.Insertions.{InRange}
use Rattle.operad_ideals.specs.Presentations.{Relation, Presentation, parts, arity_of, IsSound}
use Rattle.operad_ideals.specs.Rules.{Rule, relation, symmetry, rule_terms}
use Rattle.operad_ideals.specs.HoleInstances.{HoleInstance, hole_element}
use Rattle.modular_sums.proofs.Links.{member_one, member_zero}
use Rattle.shuffle_transfer.specs.Orderings.{IsOrdering, entry}
use Rattle.shuffle_transfer.specs.Labels.{label, inputs_of, shuffle_form}
use Rattle.shuffle_transfer.specs.Transfer.{relabelled}
use Rattle.shuffle_transfer.proofs.Orderings.{as_list}
use Rattle.shuffle_transfer.proofs.FormGrafts.{form-graft, turns-graft}
use Rattle.shuffle_transfer.proofs.FormContexts.{FormCtx, form_ctx}
use Rattle.shuffle_transfer.proofs.Forms.{form_rises, occurs-form}
use Rattle.shuffle_transfer.proofs.Signs.{twist}
use Rattle.shuffle_transfer.proofs.ShuffleFormsFit.{forth}
use Rattle.shuffle_transfer.proofs.Turned.{turns_of, turned, Same-turned, member_turned}
use Rattle.shuffle_transfer.proofs.Vanish.{symmetry_gone}
use Rattle.shuffle_transfer.proofs.SlotInsertions.{SlotInsertion, slot_inserted}
use Rattle.shuffle_transfer.proofs.Relations.{Inputs, ranked, rank_within, rank_apart, lined, lined_order, lined_back, lined_rise, lined_graft, relabel_among}

-- relabellings that agree on 1 to m
pub same_relabelled : (arity : ℕ → ℕ) (m : ℕ) (v : List ℕ) (f : ℕ → ℕ) → ((i : ℕ) → 0 < i → i ≤ m → entry v i ≡ f i) → (l : List (ℕ × Tree ℕ)) → AllTerms l (IsLabelled arity m)
    → relabelled v l ≡ moved (λ x. graft x (λ i. leaf (f i))) l
same_relabelled arity m v f h l k = moved_eq (λ x. graft x (λ i. leaf (entry v i))) (λ x. graft x (λ i. leaf (f i))) (IsLabelled arity m) l k
    (λ x t. graft_ext x (λ i. leaf (entry v i)) (λ i. leaf (f i)) (by_leaf x (λ i. leaf (entry v i) ≡ leaf (f i)) (λ i o. let r = t.only i o in ap leaf (h i r.0 r.1))))

module _ (p : Presentation) (n : ℕ) where
  abbrev arity : ℕ → ℕ
  arity = arity_of p

  abbrev lab : ℕ → List ℕ → ℕ
  lab = label p.generators

  abbrev turn : ℕ → List ℕ → ℕ
  turn = twist (parts p) (label p.generators)

  abbrev Shuffles : Tree ℕ → Type 0
  Shuffles = IsShuffleTree (inputs_of p.generators) n

  abbrev InSpan : List (ℕ × Tree ℕ) → Type 0
  InSpan e = IsLinearCombination tree_discrete (slot_inserted p n) p.q e

  -- a relation of arity m with the first term x0, in a context with inputs
  module _ (m : ℕ) (x0 : Tree ℕ) (c : Ctx ℕ) (s : ℕ → Tree ℕ) (h0 : IsLabelled arity m x0) (v0 : IsLabelled arity n (fill c (graft x0 s))) where
    fits0 : Fits arity (graft x0 s)
    fits0 = fits_of_fill arity c (graft x0 s) v0.fits

    single0 : (i : ℕ) → occurs i (graft x0 s) ≤ 1
    single0 = once_inside arity n c (graft x0 s) v0

    range0 : (i : ℕ) → 0 < occurs i (graft x0 s) → i ≤ n
    range0 i o = let k : occurs i (graft x0 s) ≤ occurs i (fill c (graft x0 s)) = sum_of_fill c (graft x0 s) (λ l. one_if (ℕ_discrete l i)) in
        let r = v0.only i (omega (arith, k, o)) in omega (arith, r.1)

    abbrev given : Inputs arity m n
    given = record { tree = x0; parts = s; labelled = h0; fits = fits0; single = single0; range = range0 }

    abbrev rank : ℕ → ℕ
    rank = ranked lab arity m n given

    abbrev lines : ℕ → Tree ℕ
    lines = lined lab arity m n given

    abbrev named : Tree ℕ → Tree ℕ
    named y = graft y (λ i. leaf (rank i))

    low : ℕ
    low = least (shuffle_form p.generators (graft x0 s))

    ctx : FormCtx lab turn low c
    ctx = form_ctx lab turn low c

    inner : ℕ
    inner = sum_leaves (named x0) (λ i. turns_of p (lines i))

    abbrev slot : Slot
    slot = record { context = ctx.context; parts = λ j. shuffle_form p.generators (lines j) }

    inner_is : (y : Tree ℕ) → IsLabelled arity m y → sum_leaves (named y) (λ i. turns_of p (lines i)) ≡ inner
    unfolding inner
    inner_is y h =
        sum_leaves-graft y (λ i. leaf (rank i)) (λ i. turns_of p (lines i))
        ∙ numbered_sums (numbered_of_labelled h) (numbered_of_labelled h0) (λ i. turns_of p (lines (rank i)))
        ∙ sym (sum_leaves-graft x0 (λ i. leaf (rank i)) (λ i. turns_of p (lines i)))

    low_is : (y : Tree ℕ) → IsLabelled arity m y → IsLabelled arity n (fill c (graft y s)) → least (shuffle_form p.generators (graft y s)) ≡ low
    unfolding low
    low_is y h v = least_same (shuffle_form p.generators (graft y s)) (shuffle_form p.generators (graft x0 s))
        (form_rises lab arity (graft y s) (fits_of_fill arity c (graft y s) v.fits) (once_inside arity n c (graft y s) v))
        (form_rises lab arity (graft x0 s) fits0 single0)
        (λ i. occurs-form lab i (graft y s) ∙ sum_leaves-graft y s (λ k. one_if (ℕ_discrete k i)) ∙ numbered_sums (numbered_of_labelled h) (numbered_of_labelled h0) (λ a. occurs i (s a))
        ∙ sym (sum_leaves-graft x0 s (λ k. one_if (ℕ_discrete k i))) ∙ sym (occurs-form lab i (graft x0 s)))

    part_form : (y : Tree ℕ) → IsLabelled arity m y → shuffle_form p.generators (graft y s) ≡ graft (shuffle_form p.generators (named y)) (λ j. shuffle_form p.generators (lines j))
    part_form y h =
        ap (shuffle_form p.generators) (lined_graft lab arity m n given y h)
        ∙ form-graft arity lab (InRange m) lines (lined_order lab arity m n given) (lined_back lab arity m n given)
        (named y) (fits-renamed arity y rank h.fits) (relabel_among lab arity m n given y h)

    part_turns : (y : Tree ℕ) → IsLabelled arity m y → turns_of p (graft y s) ≡ turns_of p (named y) + inner
    part_turns y h =
        ap (turns_of p) (lined_graft lab arity m n given y h)
        ∙ turns-graft arity lab (InRange m) lines (lined_order lab arity m n given) (lined_back lab arity m n given) turn
        (named y) (fits-renamed arity y rank h.fits) (relabel_among lab arity m n given y h)
        ∙ ap (λ k. turns_of p (named y) + k) (inner_is y h)

    form_at : (y : Tree ℕ) → IsLabelled arity m y → IsLabelled arity n (fill c (graft y s)) → shuffle_form p.generators (fill c (graft y s)) ≡ fill_slot slot (shuffle_form p.generators (named y))
    form_at y h v = ctx.form_is (graft y s) (low_is y h v) ∙ ap (fill ctx.context) (part_form y h)

    turns_at : (y : Tree ℕ) → IsLabelled arity m y → IsLabelled arity n (fill c (graft y s)) → turns_of p (fill c (graft y s)) ≡ (ctx.count + inner) + turns_of p (named y)
    turns_at y h v = let a : turns_of p (fill c (graft y s)) ≡ ctx.count + turns_of p (graft y s) = ctx.turns_is (graft y s) (low_is y h v) in omega (arith, a, part_turns y h)

    abbrev renamed : List (ℕ × Tree ℕ) → List (ℕ × Tree ℕ)
    renamed l = moved (λ x. graft x (λ i. leaf (rank i))) l

    all_at : (l : List (ℕ × Tree ℕ)) → AllTerms l (IsLabelled arity m) → AllTerms (moved (λ x. fill c (graft x s)) l) (IsLabelled arity n)
        → turned p (moved (λ x. fill c (graft x s)) l) ≡ scale (p.q ^ (ctx.count + inner)) (moved (fill_slot slot) (turned p (renamed l)))
    unfolding scale
    all_at [] h v = refl
    all_at (x ∷ l) h v =
        let t : turns_of p (fill c (graft x.1 s)) ≡ (ctx.count + inner) + turns_of p (named x.1) = turns_at x.1 h.0 v.0 in
        let e : x.0 * p.q ^ turns_of p (fill c (graft x.1 s)) ≡ p.q ^ (ctx.count + inner) * (x.0 * p.q ^ turns_of p (named x.1)) = rw (t, pow-add p.q (ctx.count + inner) (turns_of p (named x.1))) (omega arith) in
        ap₂ (λ y k. y ∷ k) (ap₂ (λ k y. (k, y)) e (form_at x.1 h.0 v.0)) (all_at l h.1 v.1)

    all_valid : (l : List (ℕ × Tree ℕ)) → AllTerms l (IsLabelled arity m) → AllTerms (moved (λ x. fill c (graft x s)) l) (IsLabelled arity n)
        → AllTerms (moved (fill_slot slot) (turned p (renamed l))) Shuffles
    all_valid [] h v = tt
    all_valid (x ∷ l) h v = (subst Shuffles (form_at x.1 h.0 v.0) (forth p.generators n (fill c (graft x.1 s)) v.0), all_valid l h.1 v.1)

    -- the permutation as a list
    ordering : (v : List ℕ) × IsOrdering m v × ((i : ℕ) → 0 < i → i ≤ m → entry v i ≡ rank i)
    ordering = as_list m rank
        (λ i a b. let r = rank_within lab arity m n given i (a, b) in (r.0, r.1))
        (λ i j a b c' d e. rank_apart lab arity m n given i j (a, b) (c', d) e)

    pub relation_inserted : (r : Relation) → Mem r p.relations → r.arity ≡ m → AllTerms r.terms (IsLabelled arity m) → AllTerms (moved (λ x. fill c (graft x s)) r.terms) (IsLabelled arity n)
        → InSpan (turned p (moved (λ x. fill c (graft x s)) r.terms))
    relation_inserted r there e h v = subst InSpan (sym (all_at r.terms h v ∙ ap (λ k. scale (p.q ^ (ctx.count + inner)) (moved (fill_slot slot) (turned p k))) (sym same)))
        (combination-scale tree_discrete (slot_inserted p n) p.q (p.q ^ (ctx.count + inner)) {e = slot_inserted p n instance} (member_one tree_discrete (slot_inserted p n) p.q instance))
      where
        same : relabelled ordering.0 r.terms ≡ renamed r.terms
        same = same_relabelled arity m ordering.0 rank ordering.2 r.terms h

        instance : SlotInsertion p n
        instance = record {
          relation = r;
          there = there;
          permutation = ordering.0;
          permutes = subst (λ k. IsOrdering k ordering.0) (sym e) ordering.1;
          slot = slot;
          rises = subst (λ k. PartsRise k (λ j. shuffle_form p.generators (lines j))) (sym e) (lined_rise lab arity m n given);
          valid = subst (λ k. AllTerms (moved (fill_slot slot) (turned p k)) Shuffles) (sym same) (all_valid r.terms h v);
        }

  relation_at : (r : Relation) → Mem r p.relations → (c : Ctx ℕ) (s : ℕ → Tree ℕ) (l : List (ℕ × Tree ℕ)) → r.terms ≡ l → AllTerms l (IsLabelled arity r.arity) → AllTerms (moved (λ x. fill c (graft x s)) l) (IsLabelled arity n)
      → InSpan (turned p (moved (λ x. fill c (graft x s)) l))
  relation_at r there c s [] e h v = member_zero tree_discrete (slot_inserted p n) p.q
  relation_at r there c s (x ∷ l) e h v =
      subst (λ k. InSpan (turned p (moved (λ y. fill c (graft y s)) k))) e
      (relation_inserted r.arity x.1 c s h.0 v.0 r there refl (subst (λ k. AllTerms k (IsLabelled arity r.arity)) (sym e) h)
      (subst (λ k. AllTerms (moved (λ y. fill c (graft y s)) k) (IsLabelled arity n)) (sym e) v))

  module _ (sound : IsSound p) where
    instance_moves : (i : HoleInstance p n) → InSpan (turned p (hole_element p n i))
    instance_moves i = go i.rule i.labelled
      where
        go : (u : Rule p) → AllTerms (moved (λ x. fill i.context (graft x i.inputs)) (rule_terms p u)) (IsLabelled arity n) → InSpan (turned p (moved (λ x. fill i.context (graft x i.inputs)) (rule_terms p u)))
        go (relation r m) v = relation_at r m i.context i.inputs r.terms refl (sound r m) v
        go (symmetry g j s h) v = combination-same tree_discrete (slot_inserted p n) p.q
            {e = turned p (moved (λ x. fill i.context (graft x i.inputs)) (rule_terms p (symmetry g j s h)))} {f = []}
            (symmetry_gone p n g j s h i.context i.inputs v.0) (member_zero tree_discrete (slot_inserted p n) p.q)

    -- the shuffle form of a sum of instances
    pub forward : (e : List (ℕ × Tree ℕ)) → IsLinearCombination tree_discrete (hole_element p n) p.q e → InSpan (turned p e)
    forward e h = combination-same tree_discrete (slot_inserted p n) p.q {e = turned p e} {f = turned p (expand (hole_element p n) h.uses)}
        (Same-turned p e (expand (hole_element p n) h.uses) h.adds_up)
        (member_turned p (hole_element p n) (slot_inserted p n) instance_moves h.uses)
