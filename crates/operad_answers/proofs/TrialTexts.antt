-- The text of a trial is one, and its first lines are the same for each seed.
use Rattle.std.proofs.Common.{◌≡◌, ℕ, zero, suc, ◌+◌, ◌≤◌, ◌⊎◌, codes, List, [], ◌∷◌, length, refl, sym, ◌∙◌, ap, ap₂, arith, subst, inl, inr}
use mathlib.Core.List.{◌++◌}
use Rattle.modular_sums.specs.Lists.{Mem}
use Rattle.modular_sums.specs.Sums.{scale, AllTerms}
use Rattle.operad_ideals.specs.Presentations.{IsProper}
use Rattle.operad_ideals.specs.Ideals.{InIdeal}
use Rattle.symmetric_trees.specs.Trees.{IsLabelled}
use Rattle.symmetric_trees.specs.declared.generators.PartKind.TheVariants.{Free}
use Rattle.presentation_text.specs.TreeText.{HasWords}
use Rattle.trial_elements.specs.Elements.{minus_one, trial_presentation, trial_elements, element_of_line}
use Rattle.trial_elements.specs.Laws.{InTrialIdeal, Exactly}
use Rattle.trial_elements.proofs.Combs.{sound}
use Rattle.trial_elements.proofs.Trials.{labelled, not_members, count, one_count}
use Rattle.operad_answers.specs.OrderedPresentations.{presentation, IsWellFormed}
use Rattle.operad_answers.specs.Texts.{Sum}
use Rattle.operad_answers.specs.TrialDocuments.{trial_generator, trial_written}
use Rattle.operad_answers.specs.TrialTexts.{IsTrialForm, six_lines, IsTrialText}
use Rattle.operad_answers.specs.TrialLaws.{TrialTextsCount, TrialTextsExist, OneTrialText}
use Rattle.operad_answers.proofs.Forms.{one_form, has_form}
use Rattle.operad_answers.proofs.OneGenerator.{binary_table}

-- ---- the counts

-- where n things have a property, the others of the list don't
record HaveNot {X : Type 0} (P : X → Type 0) (n : ℕ) (l : List X) : Type 0 where
  number : ℕ
  have_not : Exactly (λ x. P x → ⊥) number l
  adds_up : n + number ≡ length l

the_others : {X : Type 0} (P : X → Type 0) (l : List X) (n : ℕ) → Exactly P n l → HaveNot P n l
the_others P [] n h = record { number = 0; have_not = refl; adds_up = omega (arith, h) }
the_others P (x ∷ l) n (inl h) =
    let k = the_others P l h.1.0 h.1.2 in
    let e = h.1.1 in
    record { number = k.number; have_not = inr (λ f. f h.0, k.have_not); adds_up = omega (arith, e, k.adds_up) }
the_others P (x ∷ l) n (inr h) =
    let k = the_others P l n h.1 in
    record { number = suc k.number; have_not = inl (h.0, (k.number, refl, k.have_not)); adds_up = omega (arith, k.adds_up) }

members_are : (seed n : ℕ) → Exactly InTrialIdeal n (trial_elements seed) → n ≡ 38
members_are seed n h = (count seed).1 n h

others_are : (seed n : ℕ) → Exactly (λ e. InTrialIdeal e → ⊥) n (trial_elements seed) → n ≡ 2
others_are seed n h =
    let k = the_others InTrialIdeal (trial_elements seed) 38 (count seed).0 in
    let same = one_count (λ e. InTrialIdeal e → ⊥) (trial_elements seed) n k.number h k.have_not in
    let forty = (labelled seed).forty in
    omega (arith, same, k.adds_up, forty)

-- ---- the forms

pub words : HasWords (trial_generator ∷ [])
words zero w = (refl, refl)
words (suc g) w = absurd (omega (arith, w))

proper : IsProper (presentation trial_written)
proper r (inl e) = subst (λ x. (x.terms ≡ []) ⊎ (2 ≤ x.arity)) (sym e) (inr (omega arith))
proper r (inr m) = absurd m

pub trial_well_formed : IsWellFormed trial_written
trial_well_formed = record { prime = inr (inr (inr (inr (inl refl)))); table = binary_table (codes "p") Free; words = words; sound = sound minus_one; proper = proper }

append_none : (e : Sum) → e ++ scale minus_one [] ≡ e
unfolding scale
append_none [] = refl
append_none (x ∷ e) = ap (λ l. x ∷ l) (append_none e)

-- the form of what isn't in the ideal isn't 0
some_form : (e f : Sum) → (InTrialIdeal e → ⊥) → IsTrialForm e f → f ≡ [] → ⊥
some_form e f no_member h none =
    no_member (subst (InIdeal trial_presentation 5) (append_none e) (subst (λ g. InIdeal trial_presentation 5 (e ++ scale minus_one g)) none h.as_sum.rest))

-- ---- the text

counted : (seed : ℕ) (text : List ℕ) (h : IsTrialText seed text) → text ≡ six_lines 38 2 38 h.twentieth h.fortieth
counted seed text h =
    h.text_is
    ∙ ap₂ (λ y n. six_lines y n y h.twentieth h.fortieth) (members_are seed h.members h.are_members) (others_are seed h.others h.are_others)

pub trial_lines : TrialTextsCount
trial_lines seed text h = record {
  twentieth = h.twentieth;
  is_twentieth = h.is_twentieth;
  some_twentieth = some_form (element_of_line (trial_elements seed) 20) h.twentieth (not_members seed).0 h.is_twentieth;
  fortieth = h.fortieth;
  is_fortieth = h.is_fortieth;
  some_fortieth = some_form (element_of_line (trial_elements seed) 40) h.fortieth (not_members seed).1 h.is_fortieth;
  text_is = counted seed text h;
}

-- what holds of the things of a list and of no terms holds of the element of each line
at_line : (P : Sum → Type 0) → P [] → (l : List Sum) → ((e : Sum) → Mem e l → P e) → (i : ℕ) → P (element_of_line l i)
at_line P none [] h i = none
at_line P none (e ∷ l) h zero = none
at_line P none (e ∷ l) h (suc zero) = h e (inl refl)
at_line P none (e ∷ l) h (suc (suc i)) = at_line P none l (λ f m. h f (inr m)) (suc i)

pub texts_exist : TrialTextsExist
texts_exist seed =
    let k = the_others InTrialIdeal (trial_elements seed) 38 (count seed).0 in
    let f = form_of 20 in
    let g = form_of 40 in (
      six_lines 38 k.number 38 f.0 g.0,
      record {
        members = 38;
        are_members = (count seed).0;
        others = k.number;
        are_others = k.have_not;
        twentieth = f.0;
        is_twentieth = f.1;
        fortieth = g.0;
        is_fortieth = g.1;
        text_is = refl;
      },
    )
  where
    form_of : (i : ℕ) → (f : Sum) × IsTrialForm (element_of_line (trial_elements seed) i) f
    form_of i = has_form trial_written trial_well_formed 5 (element_of_line (trial_elements seed) i)
        (at_line (λ e. AllTerms e (IsLabelled (trial_generator ∷ []) 5)) tt (trial_elements seed) (labelled seed).labelled i)

pub one_text : OneTrialText
one_text seed text other h k =
    counted seed text h
    ∙ ap₂ (six_lines 38 2 38) (one_form trial_written trial_well_formed 5 (element_of_line (trial_elements seed) 20) h.twentieth k.twentieth h.is_twentieth k.is_twentieth)
    (one_form trial_written trial_well_formed 5 (element_of_line (trial_elements seed) 40) h.fortieth k.fortieth h.is_fortieth k.is_fortieth)
    ∙ sym (counted seed other k)
