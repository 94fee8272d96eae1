-- What holds of the document and of the text of each trial.
use Rattle.std.specs.Prelude.{ℕ, ◌≡◌, ◌<◌, List, []}
use Rattle.counted_runs.specs.Enough.{enough}
use Rattle.presentation_text.specs.ReadBack.{IsWritable}
use Rattle.operad_answers.specs.Budgets.{counted}
use Rattle.presentation_text.specs.declared.document.Document.{Document}
use Rattle.trial_elements.specs.Elements.{trial_presentation, trial_elements, element_of_line}
use Rattle.operad_answers.specs.OrderedPresentations.{presentation, written, asks_of}
use Rattle.operad_answers.specs.Texts.{Sum}
use Rattle.operad_answers.specs.TrialDocuments.{trial_written, trial_questions, IsTrialDocument}
use Rattle.operad_answers.specs.TrialTexts.{IsTrialForm, six_lines, IsTrialText, IsTrialOverBudget}

-- Each seed has a document.
abbrev pub TrialDocumentsExist : Type 0
TrialDocumentsExist = (seed : ℕ) → (d : Document) × IsTrialDocument seed d

-- The document of a seed writes the pre-Lie presentation modulo 32003, with the order by path, and compares each of the forty elements
-- with 0.
abbrev pub TrialDocumentsWrite : Type 0
TrialDocumentsWrite = (presentation trial_written ≡ trial_presentation)
    × ((seed : ℕ) (d : Document) → IsTrialDocument seed d → (written d ≡ trial_written) × (asks_of d ≡ trial_questions seed))

-- It may be written and read back.
abbrev pub TrialDocumentsAreWritable : Type 0
TrialDocumentsAreWritable = (seed : ℕ) (d : Document) → IsTrialDocument seed d → IsWritable d

-- 2893900624 steps are enough through arity 5, and a trial is over budget only with fewer.
abbrev pub TrialBudgets : Type 0
TrialBudgets = (seed : ℕ) → ((d : Document) → IsTrialDocument seed d → enough (counted d) 5 ≡ 2893900624) × ((B : ℕ) (text : List ℕ) → IsTrialOverBudget seed B text → B < 2893900624)

-- For every seed 38 lines are counted as in the ideal and 2 as not, 38 blocks are accepted, and the two forms, which aren't 0, are the
-- normal forms of the 20th and 40th element.
pub record HasTrialLines (seed : ℕ) (text : List ℕ) : Type 0 where
  pub twentieth : Sum
  pub is_twentieth : IsTrialForm (element_of_line (trial_elements seed) 20) twentieth
  pub some_twentieth : twentieth ≡ [] → ⊥
  pub fortieth : Sum
  pub is_fortieth : IsTrialForm (element_of_line (trial_elements seed) 40) fortieth
  pub some_fortieth : fortieth ≡ [] → ⊥
  pub text_is : text ≡ six_lines 38 2 38 twentieth fortieth

abbrev pub TrialTextsCount : Type 0
TrialTextsCount = (seed : ℕ) (text : List ℕ) → IsTrialText seed text → HasTrialLines seed text

-- Each seed has a text, and no other.
abbrev pub TrialTextsExist : Type 0
TrialTextsExist = (seed : ℕ) → (text : List ℕ) × IsTrialText seed text

abbrev pub OneTrialText : Type 0
OneTrialText = (seed : ℕ) (text other : List ℕ) → IsTrialText seed text → IsTrialText seed other → text ≡ other
