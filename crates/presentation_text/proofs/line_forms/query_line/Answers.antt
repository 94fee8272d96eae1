use Rattle.std.proofs.Common.{drop, refl}
use Rattle.presentation_text.specs.DraftReadings.{asked_kind, contents_of}
use Rattle.presentation_text.specs.LineReadings.{query_in, query_line, with_ask}
use Rattle.presentation_text.proofs.LineReadingsStops.{draft_asked, draft_stops, stops_on}
use Rattle.presentation_text.proofs.line_forms.query_line.Goals as goal

pub returns-in_err-kind : goal.returns-in_err-kind
unfolding query_line
returns-in_err-kind c =
    draft_stops c.args.tokens.now _ c.from_residual.result c.in_err-kind.field-0.0 c.from_residual.ensures.0 c.from_residual.ensures.1
    (rw c.in-Some.is (stops_on c.args.tokens.now (query_in c.in-Some.field c.args.draft.gens (drop 1 c.args.tokens.now)) _ _ c.in_err-kind.ensures))

pub returns : goal.returns
unfolding query_line
returns c =
    draft_asked c.args.tokens.now _ c.with_ask.result (with_ask (contents_of c.args.draft) c.args.number (asked_kind c.in_ok-kind.kind)) (rw (c.in-Some.is, c.in_ok-kind.ensures.0) refl) c.with_ask.ensures
