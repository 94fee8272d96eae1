-- An example: sums of 0, 1 and 2 modulo the span of 0 + 1 + 2, and the map that sends each number to the next and 2 to 0.
use Rattle.std.proofs.Common.{◌≡◌, ℕ, zero, suc, ◌%◌, List, [], ◌∷◌, refl, sym, ◌∙◌, ap, arith, subst, inl, inr}
use mathlib.Core.List.{◌++◌}
use native.Mathlib.Decide.{ℕ_discrete}
use Rattle.modular_sums.specs.Residues.{IsCongruent}
use Rattle.modular_sums.specs.Lists.{Mem}
use Rattle.modular_sums.specs.Sums.{coef, scale, Same, expand, IsLinearCombination, AllTerms}
use Rattle.modular_sums.proofs.Sameness.{same_if_agree}
use Rattle.modular_sums.proofs.Coefficients.{coef_absent, coef_nothing}
use Rattle.modular_sums.proofs.Images.{AllTerms-imp}
use Rattle.modular_sums.proofs.Replacements.{sum_over}
use Rattle.action_characters.specs.ModularTraces.{KeepsSpans, AreIndependent, IsFormOn, IsSpannedBy, IsLinearTrace}
use Rattle.action_characters.proofs.Choices.{mem_discrete}
use Rattle.action_characters.proofs.Congruences.{coef-expand_sum, congruent_refl}
use Rattle.action_characters.proofs.ModularTraces.{forms_are_unique, traces_exist, traces_commute, bases_agree, one}

-- 0 + 1 + 2
abbrev value : Unit {0} → List (ℕ × ℕ)
value u = (1, 0) ∷ ((1, 1) ∷ ((1, 2) ∷ []))

abbrev next : ℕ → List (ℕ × ℕ)
next zero = one 1
next (suc zero) = one 2
next (suc (suc zero)) = one 0
next (suc (suc (suc t))) = one (suc (suc (suc t)))

abbrev low : List ℕ
low = 0 ∷ (1 ∷ [])

abbrev high : List ℕ
high = 1 ∷ (2 ∷ [])

abbrev Form : List ℕ → List (ℕ × ℕ) → List (ℕ × ℕ) → Type 0
Form = IsFormOn ℕ_discrete value 100

-- c times 0 + 1 + 2
in_span : (c : ℕ) (e : List (ℕ × ℕ)) → Same ℕ_discrete 100 e (expand value ((c, tt) ∷ [])) → IsLinearCombination ℕ_discrete value 100 e
in_span c e h = record { uses = (c, tt) ∷ []; adds_up = h }

keeps : KeepsSpans ℕ_discrete 100 value value next
unfolding ℕ_discrete coef scale expand
keeps u = in_span 1 (expand next (value u)) (same_if_agree ℕ_discrete 100 (expand next (value u)) (expand value ((1, tt) ∷ [])) refl)

-- a sum in the span has one coefficient at 0, 1 and 2
at_each : (l : List (ℕ × Unit {0})) (t : ℕ) → Mem t (0 ∷ (1 ∷ (2 ∷ []))) → coef ℕ_discrete (expand value l) t ≡ sum_over l (λ x. 1)
unfolding coef ℕ_discrete
at_each l t m = coef-expand_sum ℕ_discrete value l t ∙ go t m
  where
    go : (t : ℕ) → Mem t (0 ∷ (1 ∷ (2 ∷ []))) → sum_over l (λ x. coef ℕ_discrete (value x) t) ≡ sum_over l (λ x. 1)
    go zero m = refl
    go (suc zero) m = refl
    go (suc (suc zero)) m = refl
    go (suc (suc (suc t))) (inl e) = absurd (omega (arith, e))
    go (suc (suc (suc t))) (inr (inl e)) = absurd (omega (arith, e))
    go (suc (suc (suc t))) (inr (inr (inl e))) = absurd (omega (arith, e))
    go (suc (suc (suc t))) (inr (inr (inr i))) = absurd i

-- so one that lacks one of them is zero
zero_without : (l : List ℕ) (c : ℕ) → Mem c (0 ∷ (1 ∷ (2 ∷ []))) → ((t : ℕ) → Mem t l → t ≡ c → ⊥) → ((t : ℕ) → Mem t l → Mem t (0 ∷ (1 ∷ (2 ∷ []))))
    → (e : List (ℕ × ℕ)) → AllTerms e (λ t. Mem t l) → IsLinearCombination ℕ_discrete value 100 e → Same ℕ_discrete 100 e []
zero_without l c at_c lacks among e h m t = go (mem_discrete ℕ_discrete t l)
  where
    gone : IsCongruent 100 (sum_over m.uses (λ x. 1)) 0
    gone = ap (λ k. k % 101) (sym (at_each m.uses c at_c)) ∙ sym (m.adds_up c)
        ∙ ap (λ k. k % 101) (coef_absent ℕ_discrete e c (AllTerms-imp (λ u. Mem u l) (λ u. u ≡ c → ⊥) e lacks h))

    go : Dec (Mem t l) → IsCongruent 100 (coef ℕ_discrete e t) (coef ℕ_discrete [] t)
    go (yes i) = m.adds_up t ∙ ap (λ k. k % 101) (at_each m.uses t (among t i)) ∙ gone ∙ ap (λ k. k % 101) (sym (coef_nothing ℕ_discrete t))
    go (no f) = ap (λ k. k % 101) (coef_absent ℕ_discrete e t (AllTerms-imp (λ u. Mem u l) (λ u. u ≡ t → ⊥) e (λ u i s. f (subst (λ y. Mem y l) s i)) h) ∙ sym (coef_nothing ℕ_discrete t))

low_free : AreIndependent ℕ_discrete value 100 low
low_free = record {
  distinct = (no_one, ((λ m. m), tt));
  zero = zero_without low 2 (inr (inr (inl refl))) lacks among;
}
  where
    no_one : Mem {X = ℕ} 0 (1 ∷ []) → ⊥
    no_one (inl e) = absurd (omega (arith, e))
    no_one (inr m) = m

    lacks : (t : ℕ) → Mem t low → t ≡ 2 → ⊥
    lacks t (inl e) f = absurd (omega (arith, e, f))
    lacks t (inr (inl e)) f = absurd (omega (arith, e, f))
    lacks t (inr (inr m)) f = m

    among : (t : ℕ) → Mem t low → Mem t (0 ∷ (1 ∷ (2 ∷ [])))
    among t (inl e) = inl e
    among t (inr (inl e)) = inr (inl e)
    among t (inr (inr m)) = absurd m

high_free : AreIndependent ℕ_discrete value 100 high
high_free = record {
  distinct = (no_two, ((λ m. m), tt));
  zero = zero_without high 0 (inl refl) lacks (λ t m. inr m);
}
  where
    no_two : Mem {X = ℕ} 1 (2 ∷ []) → ⊥
    no_two (inl e) = absurd (omega (arith, e))
    no_two (inr m) = m

    lacks : (t : ℕ) → Mem t high → t ≡ 0 → ⊥
    lacks t (inl e) f = absurd (omega (arith, e, f))
    lacks t (inr (inl e)) f = absurd (omega (arith, e, f))
    lacks t (inr (inr m)) f = m

-- ---- forms: 2 is - 0 - 1, and 0 is - 1 - 2

two_low : Form low (one 2) ((100, 0) ∷ ((100, 1) ∷ []))
unfolding ℕ_discrete coef scale expand
two_low = record {
  on_list = (inl refl, (inr (inl refl), tt));
  rest = in_span 1 (one 2 ++ scale 100 ((100, 0) ∷ ((100, 1) ∷ []))) (same_if_agree ℕ_discrete 100 (one 2 ++ scale 100 ((100, 0) ∷ ((100, 1) ∷ []))) (expand value ((1, tt) ∷ [])) refl);
}

zero_high : Form high (one 0) ((100, 1) ∷ ((100, 2) ∷ []))
unfolding ℕ_discrete coef scale expand
zero_high = record {
  on_list = (inl refl, (inr (inl refl), tt));
  rest = in_span 1 (one 0 ++ scale 100 ((100, 1) ∷ ((100, 2) ∷ []))) (same_if_agree ℕ_discrete 100 (one 0 ++ scale 100 ((100, 1) ∷ ((100, 2) ∷ []))) (expand value ((1, tt) ∷ [])) refl);
}

-- a number of a list is its own form
itself : (l : List ℕ) (t : ℕ) → Mem t l → Form l (one t) (one t)
itself l t m = record { on_list = (m, tt); rest = congruent_refl ℕ_discrete value 100 (one t) }

low_by_high : IsSpannedBy ℕ_discrete value 100 low high
low_by_high t (inl e) = subst (λ y. (f : List (ℕ × ℕ)) × Form high (one y) f) (sym e) ((100, 1) ∷ ((100, 2) ∷ []), zero_high)
low_by_high t (inr (inl e)) = subst (λ y. (f : List (ℕ × ℕ)) × Form high (one y) f) (sym e) (one 1, itself high 1 (inl refl))
low_by_high t (inr (inr m)) = absurd m

high_by_low : IsSpannedBy ℕ_discrete value 100 high low
high_by_low t (inl e) = subst (λ y. (f : List (ℕ × ℕ)) × Form low (one y) f) (sym e) (one 1, itself low 1 (inr (inl refl)))
high_by_low t (inr (inl e)) = subst (λ y. (f : List (ℕ × ℕ)) × Form low (one y) f) (sym e) ((100, 0) ∷ ((100, 1) ∷ []), two_low)
high_by_low t (inr (inr m)) = absurd m

-- ---- the trace - 1 on both lists

forms_low : ℕ → List (ℕ × ℕ)
forms_low zero = one 1
forms_low (suc t) = (100, 0) ∷ ((100, 1) ∷ [])

trace_low : IsLinearTrace ℕ_discrete value 100 next low 100
unfolding forms_low ℕ_discrete coef
trace_low = record { forms = forms_low; each = each; adds_up = refl }
  where
    each : (t : ℕ) → Mem t low → Form low (next t) (forms_low t)
    each t (inl e) = subst (λ y. Form low (next y) (forms_low y)) (sym e) (itself low 1 (inr (inl refl)))
    each t (inr (inl e)) = subst (λ y. Form low (next y) (forms_low y)) (sym e) two_low
    each t (inr (inr m)) = absurd m

-- so on the other list there is no other trace
pub trace_high : (r : ℕ) → IsLinearTrace ℕ_discrete value 100 next high r → 100 ≡ r
trace_high r h = bases_agree ℕ (Unit {0}) ℕ_discrete value 100 next keeps low high low_free high_free low_by_high high_by_low 100 r trace_low h

-- 2 has no other form on the list
only_form : (f : List (ℕ × ℕ)) → Form low (one 2) f → Same ℕ_discrete 100 ((100, 0) ∷ ((100, 1) ∷ [])) f
only_form f h = forms_are_unique ℕ (Unit {0}) ℕ_discrete value 100 low low_free (one 2) ((100, 0) ∷ ((100, 1) ∷ [])) f two_low h

-- and there is a trace
some_trace : (r : ℕ) × IsLinearTrace ℕ_discrete value 100 next low r
some_trace = traces_exist ℕ (Unit {0}) ℕ_discrete value 100 next low (λ t m. (trace_low.forms t, trace_low.each t m))

-- the map twice has one trace, whichever of the two comes first
twice : (r s : ℕ) → IsLinearTrace ℕ_discrete value 100 (λ t. expand next (next t)) low r → IsLinearTrace ℕ_discrete value 100 (λ t. expand next (next t)) low s → r ≡ s
twice = traces_commute ℕ ℕ (Unit {0}) (Unit {0}) ℕ_discrete ℕ_discrete 100 value value next next keeps keeps low low low_free low_free
    (λ t m. (trace_low.forms t, trace_low.each t m)) (λ t m. (trace_low.forms t, trace_low.each t m))
