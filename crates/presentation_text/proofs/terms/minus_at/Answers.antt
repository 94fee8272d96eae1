use Rattle.std.proofs.Common.{sym}
use Rattle.presentation_text.proofs.ElementReadingsRead.{drop-behind_one}
use Rattle.presentation_text.proofs.terms.minus_at.Goals as goal

pub returns-then-has_mark-clause-behind : goal.returns-then-has_mark-clause-behind
returns-then-has_mark-clause-behind c = sym (drop-behind_one c.args.tokens.now c.args.at)
