use Rattle.presentation_text.proofs.ElementsAccepted.{elements_accepted}
use Rattle.presentation_text.proofs.TreesAccepted.{all_accepted}
use Rattle.presentation_text.proofs.WritableDocuments.{read_writable}
use Rattle.operad_run.proofs.OneTelling.{answers_determined}
use Rattle.operad_run.proofs.forms.answers_are_determined.Goals as goal

pub returns : goal.returns
returns c = record { law = answers_determined (read_writable (elements_accepted all_accepted)) }
