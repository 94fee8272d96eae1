use Rattle.presentation_text.proofs.ElementsBegin.{refused_begin}
use Rattle.presentation_text.proofs.terms.refused_elements_begin.Goals as goal

pub returns : goal.returns
returns c = record { law = refused_begin }
