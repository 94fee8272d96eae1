-- What holds of the texts that runs tell.
use Rattle.std.specs.Prelude.{ℕ, ◌≡◌, List}
use Rattle.operad_run.specs.FormsAnswers as forms
use Rattle.operad_run.specs.declared.status.Status.{Status}

-- What `forms` tells is determined by the bytes and the greatest arity: at most one status and one text.
abbrev pub AnswersAreDetermined : Type 0
AnswersAreDetermined = (bytes : List ℕ) (n : ℕ) (status other : Status) (text others : List ℕ)
    → forms.FormsTells bytes n status text → forms.FormsTells bytes n other others → (status ≡ other) × (text ≡ others)
