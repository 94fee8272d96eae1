use Rattle.std.proofs.Common.{◌≡◌, ◌+◌, ◌∙◌, None, Some, ap, arith, refl, sym}
use Rattle.presentation_text.specs.DocumentReadings.{behind_header, lines_from, read_text, version_of}
use Rattle.presentation_text.specs.LineReadings.{contents_by_header}
use Rattle.presentation_text.specs.Lines.{lines}
use Rattle.presentation_text.specs.Tokens.{tokens}
use Rattle.presentation_text.specs.declared.kinds.DocKind.TheVariants.{Header}
use Rattle.presentation_text.proofs.DocumentReadingsLines.{header_counted, header_missing, header_passed, line_fails}
use Rattle.presentation_text.proofs.DocumentReadingsRest.{rest_behind, rest_itself}
use Rattle.presentation_text.proofs.presentations.skip_header.Goals as goal

pub loop-line-init : goal.loop-line-init
loop-line-init c = record { stands = rest_itself c.args.bytes.now 1; read = refl }

pub returns-in_default-version_of-clause-read : goal.returns-in_default-version_of-clause-read
returns-in_default-version_of-clause-read c =
    let rest = c.loop-line.rest.now in
    let line = c.in-Some.line.now in
    let none : version_of (tokens line) ≡ None = ap version_of (sym (c.as_slice.ensures.value ∙ c.in-Ok.ensures.found)) ∙ sym c.in_default-version_of.ensures in
    line_fails _ (read_text c.args.bytes.now) c.fail.result c.loop-line.number Header
    (c.loop-line.invariant.read ∙ header_counted c.loop-line.number (lines rest) (lines c.in-Some.behind.now) line c.in-Some.ensures.lines (sym c.counts.ensures ∙ c.if-counts.true)
    ∙ ap (behind_header c.loop-line.number (λ version. lines_from (contents_by_header version) (c.loop-line.number + 1) (lines c.in-Some.behind.now))) none)
    c.fail.ensures

pub overflow_add-result : goal.overflow_add-result
overflow_add-result c = omega (arith, c.loop-line.invariant.stands.few, c.in-Some.ensures.shorter, c.requires.short)

pub returns-then-counts-clause-stands : goal.returns-then-counts-clause-stands
returns-then-counts-clause-stands c =
    rest_behind c.args.bytes.now c.loop-line.rest.now c.in-Some.behind.now 1 c.loop-line.number c.in-Some.line.now c.loop-line.invariant.stands c.in-Some.ensures.lines c.in-Some.ensures.end c.in-Some.ensures.shorter

pub returns-then-counts-clause-read : goal.returns-then-counts-clause-read
returns-then-counts-clause-read c =
    let rest = c.loop-line.rest.now in
    let line = c.in-Some.line.now in
    let some : version_of (tokens line) ≡ Some c.in-Some-version_of.version = ap version_of (sym (c.as_slice.ensures.value ∙ c.in-Ok.ensures.found)) ∙ sym c.in-Some-version_of.ensures in
    c.loop-line.invariant.read ∙ header_counted c.loop-line.number (lines rest) (lines c.in-Some.behind.now) line c.in-Some.ensures.lines (sym c.counts.ensures ∙ c.if-counts.true)
    ∙ ap (behind_header c.loop-line.number (λ version. lines_from (contents_by_header version) (c.loop-line.number + 1) (lines c.in-Some.behind.now))) some

pub overflow_add-number : goal.overflow_add-number
overflow_add-number c = omega (arith, c.loop-line.invariant.stands.few, c.in-Some.ensures.shorter, c.requires.short)

pub loop-line-smaller : goal.loop-line-smaller
loop-line-smaller c = c.in-Some.ensures.shorter

pub loop-line-preserved : goal.loop-line-preserved
loop-line-preserved c = record {
  stands =
      rest_behind c.args.bytes.now c.loop-line.rest.now c.in-Some.behind.now 1 c.loop-line.number c.in-Some.line.now c.loop-line.invariant.stands c.in-Some.ensures.lines c.in-Some.ensures.end
      c.in-Some.ensures.shorter;
  read =
      c.loop-line.invariant.read
      ∙ header_passed c.loop-line.number (lines c.loop-line.rest.now) (lines c.in-Some.behind.now) c.in-Some.line.now c.in-Some.ensures.lines (sym c.counts.ensures ∙ c.if-counts.false);
}

pub returns-clause-read : goal.returns-clause-read
returns-clause-read c =
    line_fails _ (read_text c.args.bytes.now) c.fail-2.result c.loop-line.number Header
    (c.loop-line.invariant.read ∙ header_missing c.loop-line.number (lines c.loop-line.rest.now) (ap lines (c.in_default.ensures.none.0 refl))) c.fail-2.ensures
