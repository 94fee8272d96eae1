-- Each comparison has a verdict.
use Rattle.std.proofs.Common.{◌≡◌, ℕ, suc, ◌-◌, ◌%◌, List, [], ◌∷◌, map, refl, sym, ◌∙◌, ap, subst, arith, inl, inr}
use Rattle.std.specs.Prelude.{codes, ◌++◌, flat_map}
use Rattle.std.specs.List.{AllByRecursion}
use Rattle.std.specs.Fmt.{decimal}
use Rattle.std.proofs.lemmas.List.{append-nil}
use Rattle.std.proofs.lemmas.List.Elements.{All-from_recursion}
use Rattle.modular_sums.specs.Lists.{Mem}
use Rattle.modular_sums.specs.Sums.{scale, Same, AllTerms}
use Rattle.modular_sums.proofs.Sums.{coef-scale, AllTerms-append, AllTerms-scale}
use Rattle.labelled_trees.specs.Equality.{tree_discrete}
use Rattle.operad_ideals.specs.Ideals.{InIdeal}
use Rattle.operad_ideals.specs.Presentations.{without_relations}
use Rattle.operad_ideals.proofs.Ideals.{ideal-same}
use Rattle.symmetric_trees.specs.Generators.{parts_at}
use Rattle.symmetric_trees.specs.Trees.{IsLabelled}
use Rattle.operad_ideals.specs.Collected.{HaveOneForm, IsCollected}
use Rattle.symmetric_sums.specs.Instances.{products, without_zeros}
use Rattle.symmetric_sums.specs.Terms.{terms_of}
use Rattle.symmetric_sums.specs.declared.instance.Instance.{Instance as Use}
use Rattle.presentation_text.specs.PrintedElements.{IsWrittenTerm, IsWrittenOver}
use Rattle.presentation_text.specs.ReadBack.{IsWritable}
use Rattle.presentation_text.specs.SumText.{sum_text}
use Rattle.presentation_text.specs.declared.document.Document.{Document}
use Rattle.certificate_text.specs.Plain.{plain_block, plain_step, plain_use}
use Rattle.certificate_text.specs.PrintedBlocks.{block_text}
use Rattle.certificate_text.specs.Writable.{IsWrittenSum, IsWritableUse, IsWritableStep}
use Rattle.certificate_text.specs.declared.block.Step.{Step}
use Rattle.certificate_text.proofs.ReadyBlocks.{prime_positive}
use Rattle.symmetric_sums.specs.Uses.{IsGoodUse, sum_of}
use Rattle.operad_answers.specs.OrderedPresentations.{presentation, written, IsWellFormed, asks_of}
use Rattle.operad_answers.specs.Parts.{line}
use Rattle.operad_answers.specs.Texts.{Sum, EachWith, IsNarrow, IsForm}
use Rattle.operad_answers.specs.Verdicts.{Sides, difference, comparisons, numbered_from, yes_line, WantingBlock, IsVerdict, IsProveText}
use Rattle.operad_answers.specs.Laws.{MembersHaveBlocks, VerdictsExist}
use Rattle.operad_answers.proofs.CollectedForms.{one_form_of}
use Rattle.operad_answers.proofs.Forms.{has_form}
use Rattle.operad_answers.proofs.Members.{parted, uses_labelled, same_beside}
use Rattle.symmetric_sums.proofs.MadeSums.{program_terms, made_terms}
use Rattle.operad_answers.proofs.ProgramSums.{multiple-same, multiple_writable}
use Rattle.operad_answers.proofs.Questions.{questions_are_elements}
use Rattle.operad_answers.proofs.WellFormed.{writable_labelled, writable_well_formed}

writable_uses : (d : Document) (uses : List Use) → AllByRecursion (λ i. IsWritableUse d.field d.gens (plain_use i)) uses → AllByRecursion (IsWritableUse d.field d.gens) (map plain_use uses)
writable_uses d [] h = tt
writable_uses d (x ∷ uses) h = (h.0, writable_uses d uses h.1)

module _ (d : Document) (formed : IsWritable d) (n : ℕ) (e : Sum) (narrow : IsNarrow d.gens n e) where
  well_formed : IsWellFormed (written d)
  well_formed = writable_well_formed d formed

  abbrev q : ℕ
  q = d.field - 1

  -- the element, with residues
  abbrev wanted : Sum
  wanted = without_zeros (products d.field 1 e)

  wanted_same : Same tree_discrete q wanted e
  wanted_same t =
      multiple-same d.field 1 e (prime_positive d.field formed.field) t
      ∙ ap (λ k. k % suc q) (coef-scale tree_discrete 1 e t ∙ omega arith)

  wanted_writable : IsWrittenOver d.field d.gens n wanted
  wanted_writable = All-from_recursion (IsWrittenTerm d.field d.gens n) wanted (multiple_writable d.field 1 d.gens n e (prime_positive d.field formed.field) narrow.0 narrow.1)

  wanted_labelled : AllTerms wanted (IsLabelled d.gens n)
  wanted_labelled = writable_labelled d.field d.gens n wanted wanted_writable

  pub wanting_block : InIdeal (presentation (written d)) n e → WantingBlock d e
  wanting_block h =
      let k = parted d formed n narrow.0 h.instances in
      let sum : Sum = sum_of d.field d.gens d.rels [] k.uses in
      let apart : InIdeal (without_relations (presentation (written d))) n (wanted ++ scale q sum)
      = ideal-same (without_relations (presentation (written d))) n (wanted ++ scale q sum) k.symmetric
      (same_beside q wanted k.symmetric sum (λ t. wanted_same t ∙ h.adds_up t ∙ k.same t)) k.in_ideal in
      let one : HaveOneForm d.field (parts_at d.gens) wanted sum = one_form_of (written d) well_formed n wanted sum wanted_labelled (uses_labelled d formed n narrow.0 k.uses k.good) apart in
      let back = sym (made_terms wanted) in
      let form : IsCollected d.field (parts_at d.gens) (terms_of (program_terms wanted)) one.0 = subst (λ w. IsCollected d.field (parts_at d.gens) w one.0) back one.1 in
      let writable : IsWrittenSum d.field d.gens (terms_of (program_terms wanted)) = subst (IsWrittenSum d.field d.gens) back (n, wanted_writable) in
      let step : Step = record { element = program_terms wanted; uses = k.uses } in
      record {
        block = record { want = program_terms wanted; steps = step ∷ [] };
        writable = record {
          want = writable;
          steps = All-from_recursion (IsWritableStep d.field d.gens) (plain_step step ∷ []) (record { element = writable; uses = All-from_recursion (IsWritableUse d.field d.gens) (map plain_use k.uses) (writable_uses d k.uses k.writable) }, tt);
        };
        wanted = subst (λ w. Same tree_discrete q w e) back wanted_same;
        holds = record {
          steps_hold = (record { uses = (n, All-from_recursion (IsGoodUse d.field d.gens d.rels [] n) k.uses k.good); same = (one.0, form, one.2) }, tt);
          wanted = (one.0, form, form);
        };
      }

pub members_have_blocks : MembersHaveBlocks
members_have_blocks d formed n e narrow h = wanting_block d formed n e narrow h

module _ (d : Document) (formed : IsWritable d) where
  open_well_formed : IsWellFormed (written d)
  open_well_formed = writable_well_formed d formed

  -- a yes or a no, as the normal form is 0 or not
  pub verdict_of : (k n : ℕ) (sides : Sides) → IsNarrow d.gens n sides.left → IsNarrow d.gens n sides.right → (text : List ℕ) × IsVerdict d (k, sides) text
  unfolding scale
  verdict_of k n sides left right = go f.0 refl
    where
      labelled : AllTerms (difference d.field sides) (IsLabelled d.gens n)
      labelled = AllTerms-append sides.left (scale (d.field - 1) sides.right) (IsLabelled d.gens n) left.1 (AllTerms-scale (d.field - 1) sides.right (IsLabelled d.gens n) right.1)

      f : (f : Sum) × IsForm (written d) n (difference d.field sides) f
      f = has_form (written d) open_well_formed n (difference d.field sides) labelled

      member : f.0 ≡ [] → InIdeal (presentation (written d)) n (difference d.field sides)
      member z =
          let rest : InIdeal (presentation (written d)) n (difference d.field sides ++ []) = subst (λ g. InIdeal (presentation (written d)) n (difference d.field sides ++ scale (d.field - 1) g)) z f.1.as_sum.rest in
          subst (InIdeal (presentation (written d)) n) (append-nil (difference d.field sides)) rest

      go : (g : Sum) → f.0 ≡ g → (text : List ℕ) × IsVerdict d (k, sides) text
      go [] z =
          let b = wanting_block d formed n (difference d.field sides) (left.0, labelled) (member z) in (
            yes_line k ++ block_text d.field d.gens (plain_block b.block),
            inl record { shown = b; text_is = refl },
          )
      go (x ∷ g) z = (
        line (codes "# " ++ (decimal k ++ (codes " no " ++ sum_text d.field d.gens f.0))),
        inr record { arity = n; labelled = labelled; form = f.0; is_form = f.1; nonzero = λ e. absurd (cc (e, z)); text_is = refl },
      )

  verdicts_of : (k : ℕ) (l : List Sides) → ((sides : Sides) → Mem sides l → (n : ℕ) × IsNarrow d.gens n sides.left × IsNarrow d.gens n sides.right)
      → (texts : List (List ℕ)) × EachWith (IsVerdict d) (numbered_from k l) texts
  verdicts_of k [] h = ([], tt)
  verdicts_of k (s ∷ l) h =
      let w = h s (inl refl) in
      let v = verdict_of k w.0 s w.1 w.2 in
      let rest = verdicts_of (suc k) l (λ x m. h x (inr m)) in
      (v.0 ∷ rest.0, (v.1, rest.1))

  pub prove_text : (text : List ℕ) × IsProveText d (asks_of d) text
  prove_text =
      let v = verdicts_of 1 (comparisons (asks_of d)) (questions_are_elements d formed).compared in
      (flat_map (λ verdict. verdict) v.0, record { verdicts = v.0; are_verdicts = v.1; text_is = refl })

pub verdicts_exist : VerdictsExist
verdicts_exist d formed = (verdict_of d formed, prove_text d formed)
