use Rattle.std.proofs.Common.{sym}
use Rattle.presentation_text.proofs.LineLaws.{counts-visible, counts-blank}
use Rattle.presentation_text.proofs.lines.counts.Goals as goal

pub returns-in-Some : goal.returns-in-Some
returns-in-Some c = sym (counts-visible c.args.line.now c.in-Some.byte (sym c.in-Some.ensures))

pub returns-in-None : goal.returns-in-None
returns-in-None c = sym (counts-blank c.args.line.now (sym c.in-None.ensures))
