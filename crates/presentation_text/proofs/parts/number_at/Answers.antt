use Rattle.std.proofs.Common.{refl}
use Rattle.presentation_text.specs.Readings.{number_in}
use Rattle.presentation_text.proofs.TreeReadingsPlaces.{stops-end}
use Rattle.presentation_text.proofs.parts.number_at.Goals as goal

pub returns-in_default : goal.returns-in_default
returns-in_default c = stops-end c.args.tokens.now c.args.at number_in c.misfit.result c.requires.within c.in_default.ensures refl c.misfit.ensures
