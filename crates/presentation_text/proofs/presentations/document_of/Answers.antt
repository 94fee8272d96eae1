use Rattle.std.proofs.Common.{get_or, subst}
use Rattle.symmetric_sums.specs.Terms.{FitsOver}
use Rattle.presentation_text.specs.LineReadings.{prime_of}
use Rattle.presentation_text.proofs.presentations.document_of.Goals as goal

pub returns-clause-fit : goal.returns-clause-fit
returns-clause-fit c k d l = subst (λ field. FitsOver (prime_of field) c.args.read.draft.gens (get_or c.args.read.draft.rels k d)) c.in-Some-Some.is-0 (c.requires.sound.relations k d l)
