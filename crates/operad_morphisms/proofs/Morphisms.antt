-- A map that meets all obligations sends the ideal into the ideal, and conversely.
use Rattle.std.proofs.Common.{◌≡◌, ℕ, zero, suc, ◌<◌, ◌≤◌, List, [], ◌∷◌, length, map, refl, sym, ◌∙◌, subst, arith}
use Rattle.std.specs.Prelude.{flat_map}
use Rattle.std.specs.List.{AllByRecursion}
use native.Mathlib.Decide.{ℕ_discrete}
use Rattle.modular_sums.specs.Sums.{Same, expand, moved, AllTerms}
use Rattle.modular_sums.proofs.Images.{moved_ext}
use Rattle.modular_sums.proofs.Replacements.{sum_over, sum_over_ext, sum_over_swap}
use Rattle.modular_sums.proofs.Links.{member_one}
use Rattle.labelled_trees.specs.Trees.{Tree, leaf, graft}
use Rattle.labelled_trees.specs.Contexts.{hole}
use Rattle.labelled_trees.specs.Equality.{tree_discrete}
use Rattle.labelled_trees.specs.Insertions.{IsContext, at_zero, put, item}
use Rattle.labelled_trees.specs.Labelled.{Fits, IsLabelled}
use Rattle.labelled_trees.specs.Leaves.{sum_leaves, AllLeaves, one_if}
use Rattle.labelled_trees.proofs.Fitting.{fits_of_graft, fits_parts, fits-graft}
use Rattle.labelled_trees.proofs.GraftLeaves.{sum_leaves-graft}
use Rattle.labelled_trees.proofs.Grafts.{graft_leaf}
use Rattle.labelled_trees.proofs.Leaves.{AllLeaves-each, at_leaf, sum_leaves-same}
use Rattle.labelled_trees.proofs.Numbered.{numbered_of_labelled, numbered_sums}
use Rattle.operad_ideals.specs.Presentations.{Presentation, parts, arity_of, IsSound}
use Rattle.operad_ideals.specs.Rules.{Rule, relation, symmetry, rule_arity, rule_terms}
use Rattle.operad_ideals.specs.Ideals.{placed, Instance, element, InIdeal}
use Rattle.operad_ideals.specs.HoleInstances.{HoleInstance, hole_element, InHoleIdeal}
use Rattle.operad_ideals.proofs.ArityOne.{part_below}
use Rattle.operad_ideals.proofs.Corollas.{corolla_labelled, exchanged_labelled}
use Rattle.operad_ideals.proofs.Ideals.{ideal_zero, ideal-append, ideal-scale, ideal-same}
use Rattle.operad_ideals.proofs.HoleInstances.{ideals_are_one}
use Rattle.operad_morphisms.specs.Compositions.{choices}
use Rattle.operad_morphisms.specs.Images.{image, image_sum}
use Rattle.operad_morphisms.specs.Maps.{IsMap, AreMet, SendsIdeal}
use Rattle.operad_morphisms.specs.Laws.{Morphism}
use Rattle.operad_morphisms.specs.Obligations.{obligation_arity, obligation_terms}
use Rattle.modular_sums.proofs.Counted.{CountAlike, same-count, count-moved, count-expand, count_eq, expand-append, expand-scale, same-expand}
use Rattle.operad_morphisms.proofs.ImageLeaves.{IsOver, AreOver, graft_over, image_over, choices_list_over, labelled_over}
use Rattle.operad_morphisms.proofs.ImageSums.{moved-itself}
use Rattle.operad_morphisms.proofs.Composing.{image-put, image-grafted}
use Rattle.operad_ideals.proofs.PlacedIdeals.{placed_in_ideal, ideal-expand}
use Rattle.operad_morphisms.proofs.ObligationList.{each_rule, only_rules}

-- trees that fit, by their numbers
all_fit : (arity : ℕ → ℕ) (ts : List (Tree ℕ)) → ((i : ℕ) → 0 < i → i ≤ length ts → Fits arity (item ts i)) → AllByRecursion (Fits arity) ts
all_fit arity [] h = tt
all_fit arity (t ∷ ts) h = (h 1 (omega arith) (omega arith), all_fit arity ts (λ i a b. later i a b))
  where
    later : (i : ℕ) → 0 < i → i ≤ length ts → Fits arity (item ts i)
    later zero a b = absurd (omega (arith, a))
    later (suc i) a b = h (suc (suc i)) (omega arith) (omega (arith, b))

-- ---- the image of an element that is placed

module _ (from to : Presentation) (images : List (List (ℕ × Tree ℕ))) (given : IsMap from to images) where
  -- what is over a placed tree: what is over the context, with a tree of the same labels, with what is over the inputs
  placed_over : (m : ℕ) (c d x z : Tree ℕ) (ts us : List (Tree ℕ)) → IsLabelled (arity_of from) m x → IsOver from to images given c d → IsLabelled (arity_of to) m z → AreOver from to images given ts us
      → IsOver from to images given (placed c ts x) (placed d us z)
  placed_over m c d x z ts us l o k a =
      let inner = graft_over from to images given z ts us k.fits a in
      let same : (f : ℕ → ℕ) → sum_leaves (graft z (item us)) f ≡ sum_leaves (graft x (item ts)) f =
      λ f. inner.1 f ∙ sum_leaves-graft z (item ts) f ∙ numbered_sums (numbered_of_labelled k) (numbered_of_labelled l) (λ i. sum_leaves (item ts i) f) ∙ sym (sum_leaves-graft x (item ts) f) in
      record {
        fits = fits-graft (arity_of to) d (at_zero (graft z (item us))) o.fits (AllLeaves-each d (λ i. Fits (arity_of to) (at_zero (graft z (item us)) i)) (λ i. fits_at i inner.0));
        leaves = λ f. sum_leaves-graft d (at_zero (graft z (item us))) f
            ∙ sum_leaves-same d (λ i. sum_leaves (at_zero (graft z (item us)) i) f) (λ i. sum_leaves (at_zero (graft x (item ts)) i) f)
            (AllLeaves-each d (λ i. sum_leaves (at_zero (graft z (item us)) i) f ≡ sum_leaves (at_zero (graft x (item ts)) i) f) (λ i. leaves_at f i (same f)))
            ∙ o.leaves (λ i. sum_leaves (at_zero (graft x (item ts)) i) f)
            ∙ sym (sum_leaves-graft c (at_zero (graft x (item ts))) f);
      }
    where
      fits_at : (i : ℕ) → Fits (arity_of to) (graft z (item us)) → Fits (arity_of to) (at_zero (graft z (item us)) i)
      fits_at zero h = h
      fits_at (suc i) h = tt

      leaves_at : (f : ℕ → ℕ) (i : ℕ) → sum_leaves (graft z (item us)) f ≡ sum_leaves (graft x (item ts)) f → sum_leaves (at_zero (graft z (item us)) i) f ≡ sum_leaves (at_zero (graft x (item ts)) i) f
      leaves_at f zero h = h
      leaves_at f (suc i) h = refl

  -- the image of an element, placed in each context over c with each choice of trees over the inputs
  abbrev spread : Tree ℕ → List (Tree ℕ) → List (ℕ × Tree ℕ) → List (ℕ × Tree ℕ)
  spread c ts e = expand (λ d. expand (λ us. moved (placed d us) (image_sum images e)) (choices (map (image images) ts))) (image images c)

  image-placed : (c : Tree ℕ) (ts : List (Tree ℕ)) (e : List (ℕ × Tree ℕ)) → Fits (arity_of from) c → IsContext c → AllTerms e (IsLabelled (arity_of from) (length ts))
      → CountAlike (image_sum images (moved (placed c ts) e)) (spread c ts e)
  image-placed c ts e f o l h =
      count-expand (image images) (moved (placed c ts) e) h
      ∙ count-moved (placed c ts) e (λ y. sum_over (image images y) h)
      ∙ count_eq (IsLabelled (arity_of from) (length ts)) e (λ x. sum_over (image images (placed c ts x)) h)
      (λ x. sum_over (image images c) (λ d. sum_over (choices (map (image images) ts)) (λ us. sum_over (image images x) (λ z. h (placed d us z))))) l each
      ∙ sum_over_swap e (image images c) (λ x d. sum_over (choices (map (image images) ts)) (λ us. sum_over (image images x) (λ z. h (placed d us z))))
      ∙ sum_over_ext (image images c) (λ d. sum_over e (λ x. sum_over (choices (map (image images) ts)) (λ us. sum_over (image images x) (λ z. h (placed d us z)))))
      (λ d. sum_over (expand (λ us. moved (placed d us) (image_sum images e)) (choices (map (image images) ts))) h) back
      ∙ sym (count-expand (λ d. expand (λ us. moved (placed d us) (image_sum images e)) (choices (map (image images) ts))) (image images c) h)
    where
      each : (x : Tree ℕ) → IsLabelled (arity_of from) (length ts) x
          → sum_over (image images (placed c ts x)) h ≡ sum_over (image images c) (λ d. sum_over (choices (map (image images) ts)) (λ us. sum_over (image images x) (λ z. h (placed d us z))))
      each x k =
          image-put from to images given c (graft x (item ts)) f o h
          ∙ sum_over_ext (image images c) (λ d. sum_over (image images (graft x (item ts))) (λ y. h (put d y))) (λ d. sum_over (choices (map (image images) ts)) (λ us. sum_over (image images x) (λ z. h (placed d us z))))
          (λ d. image-grafted from to images given x ts k (λ y. h (put d y)) ∙ sum_over_swap (image images x) (choices (map (image images) ts)) (λ z us. h (placed d us z)))

      back : (d : Tree ℕ) → sum_over e (λ x. sum_over (choices (map (image images) ts)) (λ us. sum_over (image images x) (λ z. h (placed d us z)))) ≡ sum_over (expand (λ us. moved (placed d us) (image_sum images e)) (choices (map (image images) ts))) h
      back d =
          sum_over_swap e (choices (map (image images) ts)) (λ x us. sum_over (image images x) (λ z. h (placed d us z)))
          ∙ sum_over_ext (choices (map (image images) ts)) (λ us. sum_over e (λ x. sum_over (image images x) (λ z. h (placed d us z)))) (λ us. sum_over (moved (placed d us) (image_sum images e)) h)
          (λ us. sym (count-moved (placed d us) (image_sum images e) h ∙ count-expand (image images) e (λ z. h (placed d us z))))
          ∙ sym (count-expand (λ us. moved (placed d us) (image_sum images e)) (choices (map (image images) ts)) h)

  -- where the image of an element is in the ideal, so is that of the element, placed
  pub placed_image : IsSound to → (n : ℕ) (c : Tree ℕ) (ts : List (Tree ℕ)) (e : List (ℕ × Tree ℕ)) → IsContext c → AllTerms e (IsLabelled (arity_of from) (length ts)) → AllTerms (moved (placed c ts) e) (IsLabelled (arity_of from) n)
      → InIdeal to (length ts) (image_sum images e) → InIdeal to n (image_sum images (moved (placed c ts) e))
  unfolding expand
  placed_image sound n c ts [] o l k m = ideal_zero to n
  placed_image sound n c ts (x ∷ e) o l k m =
      let f : Fits (arity_of from) c = fits_of_graft (arity_of from) c (at_zero (graft x.1 (item ts))) k.0.fits in
      let grafted : Fits (arity_of from) (graft x.1 (item ts)) = at_leaf c (λ i. Fits (arity_of from) (at_zero (graft x.1 (item ts)) i)) 0 (fits_parts (arity_of from) c (at_zero (graft x.1 (item ts))) k.0.fits) (omega (arith, o)) in
      let parts : AllLeaves x.1 (λ i. Fits (arity_of from) (item ts i)) = fits_parts (arity_of from) x.1 (item ts) grafted in
      let each : AllByRecursion (Fits (arity_of from)) ts = all_fit (arity_of from) ts (λ i a b. at_leaf x.1 (λ j. Fits (arity_of from) (item ts j)) i parts (let once = l.0.each i a b in omega (arith, once))) in
      ideal-same to n (image_sum images (moved (placed c ts) (x ∷ e))) (spread c ts (x ∷ e)) (same-count tree_discrete to.q (image_sum images (moved (placed c ts) (x ∷ e))) (spread c ts (x ∷ e)) (image-placed c ts (x ∷ e) f o l))
      (ideal-expand to n (λ d. expand (λ us. moved (placed d us) (image_sum images (x ∷ e))) (choices (map (image images) ts))) (IsOver from to images given c) (image images c) (image_over from to images given c f)
      (λ d a. ideal-expand to n (λ us. moved (placed d us) (image_sum images (x ∷ e))) (AreOver from to images given ts) (choices (map (image images) ts)) (choices_list_over from to images given ts each)
      (λ us b. placed_in_ideal to (length ts) n d us (image_sum images (x ∷ e)) sound (a.leaves (λ j. one_if (ℕ_discrete j 0)) ∙ o)
      (λ z w. labelled_over from to images given n (placed c ts x.1) (placed d us z) k.0 (placed_over (length ts) c d x.1 z ts us l.0 a w b)) m)))

-- ---- rules

module _ (p : Presentation) (sound : IsSound p) where
  pub rule_labelled : (rule : Rule p) → AllTerms (rule_terms p rule) (IsLabelled (arity_of p) (rule_arity p rule))
  rule_labelled (relation r m) = sound r m
  rule_labelled (symmetry g i s h) =
      let two : 2 ≤ arity_of p g = let k = part_below (parts p g) i s h in omega (arith, k) in
      (corolla_labelled (arity_of p) g two, (exchanged_labelled (arity_of p) g i two, tt))

  -- a rule is in the ideal of its arity
  pub rule_in_ideal : (rule : Rule p) → InIdeal p (rule_arity p rule) (rule_terms p rule)
  rule_in_ideal rule =
      let n = rule_arity p rule in
      let same : moved (λ x. graft x leaf) (rule_terms p rule) ≡ rule_terms p rule = moved_ext (λ x. graft x leaf) (λ x. x) (rule_terms p rule) (λ x. graft_leaf x) ∙ moved-itself (rule_terms p rule) in
      let i : HoleInstance p n = record { rule = rule; context = hole; inputs = leaf; labelled = subst (λ e. AllTerms e (IsLabelled (arity_of p) n)) (sym same) (rule_labelled rule) } in
      (ideals_are_one p n (rule_terms p rule) sound).1 (subst (InHoleIdeal p n) same (member_one tree_discrete (hole_element p n) p.q i))

-- ---- all obligations are met exactly where the image of every rule is in the ideal

-- a sum without terms has no image
no_terms : (to : Presentation) (images : List (List (ℕ × Tree ℕ))) (n : ℕ) → InIdeal to n (image_sum images [])
unfolding expand
no_terms to images n = ideal_zero to n

module _ (from to : Presentation) (images : List (List (ℕ × Tree ℕ))) where
  rule_by : AreMet from to images → (rule : Rule from) (l : List (ℕ × Tree ℕ)) → rule_terms from rule ≡ l → InIdeal to (rule_arity from rule) (image_sum images (rule_terms from rule))
  rule_by met rule [] e = subst (λ t. InIdeal to (rule_arity from rule) (image_sum images t)) (sym e) (no_terms to images (rule_arity from rule))
  rule_by met rule (x ∷ l) e =
      let o = each_rule from rule (λ z. let w : x ∷ l ≡ [] = sym e ∙ z in cc w) in
      subst (λ n. InIdeal to n (image_sum images (rule_terms from rule))) o.2 (subst (λ t. InIdeal to (obligation_arity from o.0) (image_sum images t)) o.3 (met o.0 o.1))

  pub rule_met : AreMet from to images → (rule : Rule from) → InIdeal to (rule_arity from rule) (image_sum images (rule_terms from rule))
  rule_met met rule = rule_by met rule (rule_terms from rule) refl

  pub met_by_rules : ((rule : Rule from) → InIdeal to (rule_arity from rule) (image_sum images (rule_terms from rule))) → AreMet from to images
  met_by_rules h o m =
      let r = only_rules from o m in
      subst (λ n. InIdeal to n (image_sum images (obligation_terms from o))) (sym r.2) (subst (λ t. InIdeal to (rule_arity from r.0) (image_sum images t)) (sym r.3) (h r.0))

-- ---- ideals

module _ (from to : Presentation) (images : List (List (ℕ × Tree ℕ))) (sound_from : IsSound from) (sound : IsSound to) (given : IsMap from to images) where
  module _ (met : AreMet from to images) where
    instance_image : (n : ℕ) (i : Instance from n) → InIdeal to n (image_sum images (element from n i))
    instance_image n i =
        let terms = rule_terms from i.rule in
        subst (InIdeal to n) (sym (expand-scale (image images) i.residue (moved (placed i.context i.inputs) terms)))
        (ideal-scale to n i.residue (image_sum images (moved (placed i.context i.inputs) terms))
        (placed_image from to images given sound n i.context i.inputs terms i.is_context
        (subst (λ m. AllTerms terms (IsLabelled (arity_of from) m)) (sym i.as_many) (rule_labelled from sound_from i.rule)) i.labelled
        (subst (λ m. InIdeal to m (image_sum images terms)) (sym i.as_many) (rule_met from to images met i.rule))))

    instances_image : (n : ℕ) (l : List (Instance from n)) → InIdeal to n (image_sum images (flat_map (element from n) l))
    instances_image n [] = no_terms to images n
    instances_image n (i ∷ l) =
        subst (InIdeal to n) (sym (expand-append (image images) (element from n i) (flat_map (element from n) l)))
        (ideal-append to n (image_sum images (element from n i)) (image_sum images (flat_map (element from n) l)) (instance_image n i) (instances_image n l))

    pub any_image : (n : ℕ) (e : List (ℕ × Tree ℕ)) → InIdeal from n e → InIdeal to n (image_sum images e)
    any_image n e h =
        ideal-same to n (image_sum images e) (image_sum images (flat_map (element from n) h.instances))
        (same-expand tree_discrete tree_discrete to.q (image images) e (flat_map (element from n) h.instances) (subst (λ q. Same tree_discrete q e (flat_map (element from n) h.instances)) given.one_prime h.adds_up))
        (instances_image n h.instances)

  pub all_met : SendsIdeal from to images → AreMet from to images
  all_met sends = met_by_rules from to images (λ rule. sends (rule_arity from rule) (rule_terms from rule) (rule_labelled from sound_from rule) (rule_in_ideal from sound_from rule))

pub morphism_law : Morphism
morphism_law from to images sound_from sound given = record {
  every_rule = (rule_met from to images, met_by_rules from to images);
  exactly = (λ met n e l h. any_image from to images sound_from sound given met n e h, all_met from to images sound_from sound given);
  any_element = any_image from to images sound_from sound given;
}
