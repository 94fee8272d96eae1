-- The six lines that a trial prints.
use Rattle.std.specs.Prelude.{ℕ, ◌≡◌, List, [], ◌∷◌, ◌++◌, codes}
use Rattle.std.specs.Fmt.{decimal}
use Rattle.presentation_text.specs.SumText.{sum_text}
use Rattle.trial_elements.specs.Elements.{trial_elements, element_of_line}
use Rattle.trial_elements.specs.Laws.{InTrialIdeal, Exactly}
use Rattle.operad_answers.specs.Parts.{line}
use Rattle.operad_answers.specs.Texts.{Sum, IsForm}
use Rattle.presentation_text.specs.declared.document.Document.{Document}
use Rattle.operad_answers.specs.Budgets.{IsSpent}
use Rattle.operad_answers.specs.Commands.{budget_fault}
use Rattle.operad_answers.specs.TrialDocuments.{IsTrialDocument, trial_generator, trial_written}

-- f is the normal form of the element e of arity 5, collected
abbrev pub IsTrialForm : Sum → Sum → Type 0
IsTrialForm e f = IsForm trial_written 5 e f

-- the lines `lines 40`, `yes Y`, `no Z`, `accepted A`, `form 20 F` and `form 40 G`
abbrev pub six_lines : ℕ → ℕ → ℕ → Sum → Sum → List ℕ
six_lines members others accepted twentieth fortieth =
    line (codes "lines 40")
    ++ (line (codes "yes " ++ decimal members)
    ++ (line (codes "no " ++ decimal others)
    ++ (line (codes "accepted " ++ decimal accepted)
    ++ (line (codes "form 20 " ++ sum_text 32003 (trial_generator ∷ []) twentieth)
    ++ line (codes "form 40 " ++ sum_text 32003 (trial_generator ∷ []) fortieth)))))

-- A stopped counted run through arity 5 over the document of the seed has exactly B steps, and the line names B.
pub record IsTrialOverBudget (seed B : ℕ) (text : List ℕ) : Type 0 where
  pub document : Document
  pub is_document : IsTrialDocument seed document
  pub spent : IsSpent document 5 B
  pub text_is : text ≡ budget_fault B

-- What the trial of a seed prints: how many of the lines have an element in the ideal, how many have one that isn't, that as many blocks
-- were accepted as are in the ideal, and the normal forms of the 20th and of the 40th element.
pub record IsTrialText (seed : ℕ) (text : List ℕ) : Type 0 where
  pub members : ℕ
  pub are_members : Exactly InTrialIdeal members (trial_elements seed)
  pub others : ℕ
  pub are_others : Exactly (λ e. InTrialIdeal e → ⊥) others (trial_elements seed)
  pub twentieth : Sum
  pub is_twentieth : IsTrialForm (element_of_line (trial_elements seed) 20) twentieth
  pub fortieth : Sum
  pub is_fortieth : IsTrialForm (element_of_line (trial_elements seed) 40) fortieth
  pub text_is : text ≡ six_lines members others members twentieth fortieth
