-- How many steps are enough for the document of a trial.
use Rattle.std.proofs.Common.{true, false, cond, ◌≡◌, ℕ, zero, suc, ◌+◌, ◌*◌, ◌^◌, ◌<◌, List, [], ◌∷◌, length, map, refl, sym, ◌∙◌, ap, ap₂, subst, inl, inr}
use Rattle.std.specs.Prelude.{◌++◌, count_by}
use native.Mathlib.Decide.{ℕ_discrete}
use Rattle.std.proofs.lemmas.List.Sums.{sum_by-cons}
use Rattle.modular_sums.specs.Lists.{Mem, choose}
use Rattle.modular_sums.specs.Sums.{AllTerms, scale}
use Rattle.labelled_trees.specs.RangeSums.{range_sum}
use Rattle.labelled_trees.proofs.RangeSums.{range_sum_ext}
use Rattle.symmetric_trees.specs.Trees.{IsLabelled}
use Rattle.std.proofs.lemmas.List.{append-nil}
use Rattle.presentation_text.specs.LineReadings.{same}
use Rattle.presentation_text.specs.declared.document.Document.{Document}
use Rattle.counted_runs.specs.Items.{Question}
use Rattle.counted_runs.specs.Enough.{tree_number, relation_number, question_number, counts_question, enough}
use Rattle.trial_elements.specs.Elements.{trial_elements}
use Rattle.trial_elements.proofs.Trials.{labelled}
use Rattle.operad_answers.specs.Texts.{Sum}
use Rattle.operad_answers.specs.Budgets.{question_of, counted_of, counted}
use Rattle.operad_answers.specs.TrialDocuments.{trial_generator, trial_written, trial_questions, IsTrialDocument}
use Rattle.operad_answers.specs.TrialLaws.{TrialBudgets}
use Rattle.operad_answers.proofs.Deciding.{enough_is_not_spent}
use Rattle.operad_answers.proofs.TrialDocuments.{documents_write}
use Rattle.operad_answers.proofs.TrialWritable.{documents_are_writable}
use Rattle.operad_answers.proofs.WellFormed.{arity_of_labelled}

abbrev question_by : Sum → Question
question_by e = question_of 32003 (same e [])

-- ---- each question has arity 5

has_five : (e : Sum) → (e ≡ [] → ⊥) → AllTerms e (IsLabelled (trial_generator ∷ []) 5) → (question_by e).arity ≡ 5
unfolding scale
has_five [] some h = absurd (some refl)
has_five (x ∷ e) some h = arity_of_labelled (trial_generator ∷ []) 5 x (e ++ []) (subst (λ f. AllTerms f (IsLabelled (trial_generator ∷ []) 5)) (sym (append-nil (x ∷ e))) h)

-- how many of k questions of arity 5 have arity n
abbrev fives : ℕ → ℕ → ℕ
fives n zero = 0
fives n (suc k) = cond (choose (ℕ_discrete 5 n) true false) 1 0 + fives n k

count_fives : (n : ℕ) (l : List Sum) → ((e : Sum) → Mem e l → (question_by e).arity ≡ 5) → count_by (counts_question n) (map (question_of 32003) (map (λ e. same e []) l)) ≡ fives n (length l)
count_fives n [] h = refl
count_fives n (e ∷ l) h =
    sum_by-cons (λ (x : Question). cond (counts_question n x) 1 0) (question_by e) (map (question_of 32003) (map (λ e. same e []) l))
    ∙ ap₂ (λ (a b : ℕ). cond (choose (ℕ_discrete a n) true false) 1 0 + b) (h e (inl refl)) (count_fives n l (λ f m. h f (inr m)))

-- the number of questions of each arity
questions_number : (seed n : ℕ) → question_number (counted_of trial_written (trial_questions seed)) n ≡ fives n 40
questions_number seed n =
    let law = labelled seed in
    count_fives n (trial_elements seed) (λ e m. has_five e (law.some e m) (law.labelled e m)) ∙ ap (fives n) law.forty

-- ---- what is enough

abbrev steps : (ℕ → ℕ) → ℕ → ℕ
steps number i =
    tree_number (counted_of trial_written []) (suc (suc i))
    * (2 * relation_number (counted_of trial_written []) (suc (suc i)) + number (suc (suc i)) + tree_number (counted_of trial_written []) (suc (suc i)) * 4 ^ suc (suc i))

by_fives : range_sum 4 (steps (λ n. fives n 40)) ≡ 2893900624
unfolding ℕ_discrete
by_fives = refl

enough_for_trial : (seed : ℕ) → enough (counted_of trial_written (trial_questions seed)) 5 ≡ 2893900624
enough_for_trial seed =
    range_sum_ext 4 (steps (question_number (counted_of trial_written (trial_questions seed)))) (steps (λ n. fives n 40))
    (λ i. ap (λ (q : ℕ). tree_number (counted_of trial_written []) (suc (suc i)) * (2 * relation_number (counted_of trial_written []) (suc (suc i)) + q + tree_number (counted_of trial_written []) (suc (suc i)) * 4 ^ suc (suc i)))
    (questions_number seed (suc (suc i))))
    ∙ by_fives

enough_is : (seed : ℕ) (d : Document) → IsTrialDocument seed d → enough (counted d) 5 ≡ 2893900624
enough_is seed d h =
    let w = documents_write.1 seed d h in
    ap₂ (λ o asks. enough (counted_of o asks) 5) w.0 w.1 ∙ enough_for_trial seed

pub budgets : TrialBudgets
budgets seed = (
  enough_is seed,
  λ B text h. subst (λ b. B < b) (enough_is seed h.document h.is_document) (enough_is_not_spent h.document (documents_are_writable seed h.document h.is_document) 5 B h.spent),
)
