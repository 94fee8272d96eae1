-- Uses of the entries of a basis, for the steps of a reduction.
use Rattle.std.proofs.Common.{◌≡◌, ℕ, suc, ◌*◌, ◌%◌, ◌<◌, List, [], ◌∷◌, ◌++◌, length, map, refl, sym, ap, ap₂, ◌∙◌, subst, arith}
use Rattle.std.specs.Prelude.{slice_index}
use Rattle.std.proofs.Math.ListN.{length-map}
use Rattle.std.specs.declared.cmp.Ordering.{Ordering}
use Rattle.modular_sums.specs.Residues.{IsCongruent}
use Rattle.modular_sums.specs.Sums.{coef, scale, Same, moved}
use Rattle.modular_sums.proofs.Coefficients.{coef_absent, coef_first}
use Rattle.modular_sums.proofs.Images.{AllTerms-imp}
use Rattle.modular_sums.proofs.Sums.{scale-scale}
use Rattle.labelled_trees.specs.Trees.{Tree}
use Rattle.labelled_trees.specs.Equality.{tree_discrete}
use Rattle.labelled_trees.specs.Meaning.{tree_of}
use Rattle.operad_ideals.specs.Ideals.{placed}
use Rattle.operad_ideals.specs.Presentations.{Presentation}
use Rattle.shuffle_insertions.specs.Frames.{Frame}
use Rattle.shuffle_insertions.specs.Orders.{IsTreeOrder}
use Rattle.shuffle_insertions.specs.ShuffleTrees.{IsShuffleTree}
use Rattle.shuffle_places.specs.Places.{frame_at}
use Rattle.shuffle_places.proofs.Laws.{place_frames}
use Rattle.shuffle_places.proofs.Sizes.{one_size}
use Rattle.shuffle_bases.specs.Elements.{Element, terms, Setting, IsLess, AreMonic, Insertion, value_of}
use Rattle.shuffle_normal_forms.proofs.Leading.{not_less, one_not_zero}
use Rattle.shuffle_transfer.specs.GroebnerBases.{setting}
use Rattle.shuffle_transfer.specs.Labels.{inputs_of, symmetric_tree}
use Rattle.shuffle_transfer.specs.Transfer.{shuffled}
use Rattle.symmetric_trees.specs.declared.generators.Generator.{Generator}
use Rattle.symmetric_sums.specs.Instances.{in_place, rule_element, sum_at}
use Rattle.symmetric_sums.specs.Membership.{presentation_of}
use Rattle.symmetric_sums.specs.declared.term.Term.{Term}
use Rattle.symmetric_sums.specs.declared.instance.Rule.{Rule}
use Rattle.symmetric_sums.specs.declared.instance.Instance.{Instance}
use Rattle.tree_store.specs.Stores.{tree_at}
use Rattle.shuffle_sums.specs.Shelves.{Shelf}
use Rattle.division.specs.Cofactors.{AreOf, IsOf}
use Rattle.division.specs.declared.cofactor.Cofactor.{Cofactor}
use Rattle.symmetric_sums.specs.Uses.{IsGoodUse, CitesElement}
use Rattle.logged_steps.specs.Standing.{StandsFor, placed_back}
use Rattle.logged_steps.proofs.Insertions.{insertions_law}
use Rattle.logged_steps.proofs.Standing.{same-append}
use Rattle.logged_steps.proofs.Valid.{valid_law}
use Rattle.arity_completion.specs.Trails.{AreEntriesOf, taken}
use Rattle.arity_completion.specs.Uses.{AddUpTo, IsStepUse, AreUsesOf}
use Rattle.arity_completion.proofs.Adding.{add_none, add_one, add_same, same_multiples, scale_both}
use Rattle.symmetric_trees.specs.Generators.{generators_of}

module _ (m : ℕ) (generators : List Generator) (rels earlier : List (List Term)) (shelf : Shelf) (numbers : List ℕ) (factor : ℕ)
    (compare : Tree ℕ → Tree ℕ → Ordering) (elements : List Element) (n : ℕ) (prime : 1 < m)
    (order : IsTreeOrder (inputs_of (generators_of generators)) compare) (monic : AreMonic (setting (presentation_of m generators rels) compare elements))
    (entries : AreEntriesOf (presentation_of m generators rels) earlier numbers elements) where
  abbrev p : Presentation
  p = presentation_of m generators rels

  abbrev s : Setting
  s = setting (presentation_of m generators rels) compare elements

  abbrev element : Rule → List (ℕ × Tree ℕ)
  element = rule_element m generators rels earlier

  module _ (x : ℕ × Insertion (setting (presentation_of m generators rels) compare elements) n) (c : Cofactor) (item : Instance)
      (of : IsOf (setting (presentation_of m generators rels) compare elements) n shelf x c) (u : IsStepUse m generators shelf numbers factor c item) where
    abbrev g : Element
    g = x.1.of

    abbrev f : Frame
    f = frame_at x.1.set x.1.tree

    is_element : element item.rule ≡ sum_at earlier (slice_index numbers c.element)
    is_element = ap element u.rule

    stands : StandsFor p x.1.of.arity (element item.rule) (terms x.1.of)
    stands = subst (λ e. StandsFor p x.1.of.arity e (terms x.1.of)) (sym is_element) (entries.stand c.element x.1.of of.element)

    is_frame : frame_at c.place (tree_at shelf.trees c.host) ≡ frame_at x.1.set x.1.tree
    is_frame = ap₂ frame_at of.place of.host

    is_placed : moved (in_place item) (element item.rule) ≡ moved (placed_back p.generators (frame_at x.1.set x.1.tree)) (element item.rule)
    is_placed =
        ap₂ (λ (k : Tree ℕ) (inputs : List (Tree ℕ)). moved (placed k inputs) (element item.rule)) u.context u.inputs
        ∙ ap (λ (f : Frame). moved (placed_back p.generators f) (element item.rule)) is_frame

    pub step_stands : StandsFor p n (moved (in_place item) (element item.rule)) (value_of x.1)
    step_stands = subst (λ l. StandsFor p n l (value_of x.1)) (sym is_placed) (insertions_law p compare elements order monic n x.1 (λ _. element item.rule) stands)

    lead_absent : coef tree_discrete x.1.of.tail x.1.of.lead ≡ 0
    lead_absent = coef_absent tree_discrete x.1.of.tail x.1.of.lead
        (AllTerms-imp (λ t. IsShuffleTree s.arity x.1.of.arity t × IsLess s t x.1.of.lead) (λ t. t ≡ x.1.of.lead → ⊥) x.1.of.tail
        (λ t h e. not_less s order monic x.1.of.arity t x.1.of.lead h.1 e) (monic.each x.1.of x.1.member).tail_valid)

    has_terms : element item.rule ≡ [] → ⊥
    unfolding coef
    has_terms e =
        let one = coef_first tree_discrete 1 x.1.of.lead x.1.of.tail lead_absent in
        let same : IsCongruent p.q 0 (coef tree_discrete (terms x.1.of) x.1.of.lead) = subst (λ l. Same tree_discrete p.q (shuffled p l) (terms x.1.of)) e stands.same x.1.of.lead in
        one_not_zero p.q (omega (arith, prime)) (ap (λ k. k % suc p.q) (sym one) ∙ sym same)

    as_many : length item.inputs ≡ x.1.of.arity
    as_many =
        let at = place_frames.0 n x.1.tree x.1.set x.1.of.lead x.1.valid.shuffle x.1.place in
        sym (length-map item.inputs tree_of) ∙ ap length u.inputs ∙ ap (λ (f : Frame). length (map (symmetric_tree p.generators) f.inputs)) is_frame
        ∙ length-map (frame_at x.1.set x.1.tree).inputs (symmetric_tree p.generators) ∙ at.2.as_many
        ∙ one_size at.0 x.1.of.arity x.1.of.lead at.1 (monic.each x.1.of x.1.member).lead_valid.shuffle

    pub step_good : IsGoodUse m generators rels earlier n item
    step_good = record {
      cites = subst CitesElement (sym u.rule) tt;
      valid = valid_law generators x.1.of.arity n (element item.rule) item has_terms stands.labelled u.hole as_many step_stands.labelled;
    }

  pub steps_add : (steps : List (ℕ × Insertion (setting (presentation_of m generators rels) compare elements) n)) (cofactors : List Cofactor) (uses : List Instance)
      → AreOf (setting (presentation_of m generators rels) compare elements) n shelf steps cofactors → AreUsesOf (IsStepUse m generators shelf numbers factor) cofactors uses
      → AddUpTo m generators rels earlier n uses (scale factor (taken steps))
  unfolding scale
  steps_add [] [] [] of u = add_none m generators rels earlier n
  steps_add [] [] (item ∷ uses) of u = absurd u
  steps_add [] (c ∷ cofactors) uses of u = absurd of
  steps_add (x ∷ steps) [] uses of u = absurd of
  steps_add (x ∷ steps) (c ∷ cofactors) [] of u = absurd u
  steps_add (x ∷ steps) (c ∷ cofactors) (item ∷ uses) of u =
      let q = p.q in
      let one = add_one m generators rels earlier n item uses (value_of x.1) (scale factor (taken steps)) u.0.residue (step_good x c item of.0 u.0) (step_stands x c item of.0 u.0) (steps_add steps cofactors uses of.1 u.1) in
      let number : IsCongruent p.q item.coef (factor * (p.q * x.0)) = u.0.coef ∙ ap (λ k. (factor * (p.q * k)) % suc p.q) of.0.number in
      let first : Same tree_discrete p.q (scale item.coef (value_of x.1) ++ scale factor (taken steps)) (scale (factor * (p.q * x.0)) (value_of x.1) ++ scale factor (taken steps)) =
      same-append p.q (scale item.coef (value_of x.1)) (scale factor (taken steps)) (scale (factor * (p.q * x.0)) (value_of x.1)) (scale factor (taken steps)) (same_multiples p.q item.coef (factor * (p.q * x.0)) (value_of x.1) number) (λ t. refl) in
      subst (AddUpTo m generators rels earlier n (item ∷ uses))
      (ap (λ l. l ++ scale factor (taken steps)) (scale-scale factor (p.q * x.0) (value_of x.1)) ∙ scale_both factor (scale (p.q * x.0) (value_of x.1)) (taken steps))
      (add_same m generators rels earlier n (item ∷ uses) (scale item.coef (value_of x.1) ++ scale factor (taken steps)) (scale (factor * (p.q * x.0)) (value_of x.1) ++ scale factor (taken steps)) first one)
