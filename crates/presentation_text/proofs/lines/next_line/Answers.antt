use Rattle.std.proofs.Common.{sym, ◌∙◌, ◌+◌}
use Rattle.presentation_text.proofs.LineLaws.{lines-first, first_line-to_feed, first_line-whole}
use Rattle.presentation_text.proofs.TextEnds.{ends_slice, ends_with_nothing}
use Rattle.presentation_text.proofs.lines.next_line.Goals as goal

pub returns-in-Some-clause-split : goal.returns-in-Some-clause-split
returns-in-Some-clause-split c = first_line-to_feed c.args.text.now c.in-Some.end (sym c.in-Some.ensures)

pub returns-in-Some-clause-lines : goal.returns-in-Some-clause-lines
returns-in-Some-clause-lines c =
    lines-first c.args.text.now _ _ (sym c.is_empty.ensures ∙ c.if-is_empty.false) (first_line-to_feed c.args.text.now c.in-Some.end (sym c.in-Some.ensures))

pub returns-in-None-clause-split : goal.returns-in-None-clause-split
returns-in-None-clause-split c = first_line-whole c.args.text.now (sym c.in-None.ensures)

pub returns-in-None-clause-lines : goal.returns-in-None-clause-lines
returns-in-None-clause-lines c =
    lines-first c.args.text.now _ _ (sym c.is_empty.ensures ∙ c.if-is_empty.false) (first_line-whole c.args.text.now (sym c.in-None.ensures))

pub returns-in-Some-clause-end : goal.returns-in-Some-clause-end
returns-in-Some-clause-end c = ends_slice c.args.text.now (c.in-Some.end + 1)

pub returns-in-None-clause-end : goal.returns-in-None-clause-end
returns-in-None-clause-end c = ends_with_nothing c.args.text.now
