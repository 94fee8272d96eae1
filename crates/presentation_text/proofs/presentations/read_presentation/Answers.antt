use Rattle.std.proofs.Common.{◌≡◌, ◌<◌, ◌&&◌, ◌+◌, ◌∙◌, Ok, Some, ap, arith, false, length, refl, subst, sym, true}
use Rattle.std.specs.Option.{is_some}
use Rattle.presentation_text.specs.DocumentDrafts.{IsBehind, StopsAtLine}
use Rattle.presentation_text.specs.DocumentReadings.{counted_line, lines_from, on_from}
use Rattle.presentation_text.specs.DraftReadings.{IsSoundDraft, contents_of}
use Rattle.presentation_text.specs.LineReadings.{contents_by_header}
use Rattle.presentation_text.specs.Lines.{lines}
use Rattle.presentation_text.specs.Tokens.{tokens}
use Rattle.presentation_text.specs.declared.draft.Draft.{Draft}
use Rattle.presentation_text.specs.declared.kinds.DocKind.TheVariants.{Missing}
use Rattle.presentation_text.proofs.DocumentReadingsLines.{end_missing, end_whole, line_fails, line_stops, lines_counted, lines_end, lines_go_on, lines_passed, lines_stop, lines_tail, tail_some}
use Rattle.presentation_text.proofs.DocumentReadingsRest.{rest_behind, rest_itself}
use Rattle.presentation_text.proofs.LineReadingsNumbers.{both_true}
use Rattle.presentation_text.proofs.presentations.read_presentation.Goals as goal
use Rattle.presentation_text.proofs.presentations.read_presentation.Goals.{then-counts+in_ok-now+in-GoesOn, else-counts}

pub loop-line-init : goal.loop-line-init
loop-line-init c = record {
  stands = rest_itself c.args.header.rest.now c.args.header.number;
  read = ap (λ contents. lines_from contents c.args.header.number (lines c.args.header.rest.now)) (sym c.new-draft.ensures.contents);
  sound = c.new-draft.ensures.sound;
}

pub counted_line-requires : goal.counted_line-requires
counted_line-requires c = record { sound = c.loop-line.invariant.sound }

pub returns-in_err-now : goal.returns-in_err-now
returns-in_err-now c =
    let draft = c.loop-line.draft in
    let number = c.loop-line.number in
    let line = c.in-Some.line.now in
    let others = lines c.in-Some.behind.now in
    let whole = lines_from (contents_by_header c.args.header.version) c.args.header.number (lines c.args.header.rest.now) in
    line_stops _ (StopsAtLine whole) c.from_residual.result c.in_err-now.field-0.0 c.from_residual.ensures.0 c.from_residual.ensures.1
    (lines_stop (on_from number (λ now. lines_from now (number + 1) others) (contents_of draft)) (counted_line (contents_of draft) number (tokens line)) whole c.in_err-now.field-0.0
    (c.loop-line.invariant.read ∙ lines_counted (contents_of draft) number (lines c.loop-line.rest.now) others line c.in-Some.ensures.lines (sym c.counts.ensures ∙ c.if-counts.true))
    c.in_err-now.ensures)

pub returns-in-TailBegins : goal.returns-in-TailBegins
returns-in-TailBegins c =
    let draft = c.loop-line.draft in
    let number = c.loop-line.number in
    let rest = c.loop-line.rest.now in
    let line = c.in-Some.line.now in
    let begins = subst (IsBehind draft (counted_line (contents_of draft) number (tokens line))) c.in-TailBegins.is c.in_ok-now.ensures in
    let some : 0 < length rest = omega (arith, c.in-Some.ensures.shorter) in
    record {
      rest = rest;
      left_is = refl;
      stands = c.loop-line.invariant.stands;
      reading_is =
          c.loop-line.invariant.read
          ∙ lines_tail (contents_of draft) number (lines rest) (lines c.in-Some.behind.now) line c.in-Some.ensures.lines (sym c.counts.ensures ∙ c.if-counts.true) begins.0
          ∙ ap (λ contents. Ok (record { contents = contents; tail = Some number })) (sym begins.1)
          ∙ ap (λ tail. Ok (record { contents = contents_of c.in-TailBegins.draft; tail = tail })) (sym (tail_some (length rest) number some));
      sound = begins.2;
      both = begins.3;
    }

pub overflow_add-number : goal.overflow_add-number
overflow_add-number c = omega (arith, c.loop-line.invariant.stands.few, c.in-Some.ensures.shorter, c.requires.few)

pub loop-line-smaller : goal.loop-line-smaller
loop-line-smaller c = c.in-Some.ensures.shorter

pub loop-line-preserved : goal.loop-line-preserved
loop-line-preserved c =
    let draft = c.loop-line.draft in
    let number = c.loop-line.number in
    let rest = c.loop-line.rest.now in
    let line = c.in-Some.line.now in
    let others = lines c.in-Some.behind.now in
    let Goes = λ (now : Draft). (lines_from (contents_of draft) number (lines rest) ≡ lines_from (contents_of now) (number + 1) others) × IsSoundDraft now in
    let goes : Goes c.if-counts.draft = elim c.if-counts.branch [
      | then-counts+in_ok-now+in-GoesOn w ↦
          let behind = subst (IsBehind draft (counted_line (contents_of draft) number (tokens line))) w.in-GoesOn.is w.in_ok-now.ensures in
          subst Goes (sym w.draft-is)
          (lines_go_on (contents_of draft) (contents_of w.in-GoesOn.now) number (lines rest) others line c.in-Some.ensures.lines (sym c.counts.ensures ∙ w.if-counts.true) behind.0, behind.1)
      | else-counts w ↦
          subst Goes (sym w.draft-is)
          (lines_passed (contents_of draft) number (lines rest) others line c.in-Some.ensures.lines (sym c.counts.ensures ∙ w.if-counts.false), c.loop-line.invariant.sound)
    ] in
    record {
      stands = rest_behind c.args.header.rest.now rest c.in-Some.behind.now c.args.header.number number line c.loop-line.invariant.stands c.in-Some.ensures.lines c.in-Some.ensures.end c.in-Some.ensures.shorter;
      read = c.loop-line.invariant.read ∙ goes.0;
      sound = goes.1;
    }

pub returns-then-not-has_both : goal.returns-then-not-has_both
returns-then-not-has_both c =
    let draft = c.loop-line.draft in
    let missing : (is_some draft.field && is_some draft.order) ≡ false = sym c.has_both.ensures ∙ c.if-not-has_both.true in
    line_fails _ _ c.fail.result c.loop-line.number Missing
    (c.loop-line.invariant.read ∙ lines_end (contents_of draft) c.loop-line.number (lines c.loop-line.rest.now) (ap lines (c.in_default.ensures.none.0 refl)) ∙ end_missing (contents_of draft) c.loop-line.number missing)
    c.fail.ensures

pub returns : goal.returns
returns c =
    let draft = c.loop-line.draft in
    let whole : (is_some draft.field && is_some draft.order) ≡ true = sym c.has_both.ensures ∙ c.if-not-has_both.false in
    let both = both_true (is_some draft.field) (is_some draft.order) whole in
    let none = c.in_default.ensures.none.0 refl in
    record {
      rest = c.loop-line.rest.now;
      left_is = sym (ap length none);
      stands = c.loop-line.invariant.stands;
      reading_is = c.loop-line.invariant.read ∙ lines_end (contents_of draft) c.loop-line.number (lines c.loop-line.rest.now) (ap lines none) ∙ end_whole (contents_of draft) c.loop-line.number whole;
      sound = c.loop-line.invariant.sound;
      both = record { field = both.0; order = both.1 };
    }
