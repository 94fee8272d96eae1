use Rattle.presentation_text.proofs.ElementsRefused.{refused_rightly}
use Rattle.presentation_text.proofs.terms.elements_are_refused_rightly.Goals as goal

pub returns : goal.returns
returns c = record { law = refused_rightly }
