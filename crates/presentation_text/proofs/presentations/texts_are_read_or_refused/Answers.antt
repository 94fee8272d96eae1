use Rattle.presentation_text.proofs.DocumentReadingsOnce.{determined}
use Rattle.presentation_text.proofs.presentations.texts_are_read_or_refused.Goals as goal

pub returns : goal.returns
returns c = record { law = determined }
