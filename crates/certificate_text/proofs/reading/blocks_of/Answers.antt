use Rattle.std.proofs.Common.{◌≡◌, ◌∙◌, ◌+◌, List, [], Ok, ap, arith, map, refl, subst, sym}
use Rattle.std.specs.Result.{MatchResult}
use Rattle.presentation_text.specs.Lines.{lines}
use Rattle.presentation_text.specs.Tokens.{tokens}
use Rattle.presentation_text.specs.declared.kinds.DocKind.TheVariants.{Block}
use Rattle.certificate_text.specs.BlockReadings.{base_of, between, blocks_from, tail_line}
use Rattle.certificate_text.specs.PlaceReadings.{StopsAtBlockLine, follow_of}
use Rattle.certificate_text.specs.Plain.{plain_block}
use Rattle.certificate_text.specs.declared.block.Block as block
use Rattle.certificate_text.specs.declared.places.Progress.{Progress}
use Rattle.certificate_text.proofs.BlockReading.{ends_open, ends_whole, line_fails, line_stops, lines_counted, lines_end, lines_go_on, lines_passed, lines_stop}
use Rattle.certificate_text.proofs.reading.blocks_of.Goals as goal
use Rattle.certificate_text.proofs.reading.blocks_of.Goals.{then-counts+in_ok-now, else-counts, in-Between, in_default-place}

pub returns-in_err-now : goal.returns-in_err-now
returns-in_err-now c =
    let base = base_of c.args.document.now in
    let number = c.loop-line.number in
    let others = lines c.in-Some.behind.now in
    let whole = blocks_from base (between, []) c.args.first (lines c.args.text.now) in
    line_stops _ (StopsAtBlockLine whole) c.from_residual.result c.in_err-now.field-0.0 c.from_residual.ensures.0 c.from_residual.ensures.1
    (lines_stop (λ next. blocks_from base next (number + 1) others) (tail_line base (follow_of c.loop-line.now) number (tokens c.in-Some.line.now)) whole c.in_err-now.field-0.0
    (c.loop-line.invariant.read
    ∙ lines_counted base (follow_of c.loop-line.now) number (lines c.loop-line.rest.now) others c.in-Some.line.now c.in-Some.ensures.lines (sym c.counts.ensures ∙ c.if-counts.true))
    c.in_err-now.ensures)

pub loop-line-preserved : goal.loop-line-preserved
loop-line-preserved c =
    let base = base_of c.args.document.now in
    let number = c.loop-line.number in
    let all = lines c.loop-line.rest.now in
    let others = lines c.in-Some.behind.now in
    let now = follow_of c.loop-line.now in
    let Goes = λ (next : Progress). blocks_from base now number all ≡ blocks_from base (follow_of next) (number + 1) others in
    let goes : Goes c.if-counts.now = elim c.if-counts.branch [
      | then-counts+in_ok-now w ↦
          subst Goes (sym w.now-is)
          (lines_go_on base now number all others c.in-Some.line.now c.in-Some.ensures.lines (follow_of w.in_ok-now.now) (sym c.counts.ensures ∙ w.if-counts.true) w.in_ok-now.ensures)
      | else-counts w ↦
          subst Goes (sym w.now-is) (lines_passed base now number all others c.in-Some.line.now c.in-Some.ensures.lines (sym c.counts.ensures ∙ w.if-counts.false))
    ] in
    record { few = omega (arith, c.loop-line.invariant.few, c.in-Some.ensures.shorter); read = c.loop-line.invariant.read ∙ goes }

pub returns : goal.returns
returns c =
    let base = base_of c.args.document.now in
    let now = c.loop-line.now in
    let number = c.loop-line.number in
    let whole = blocks_from base (between, []) c.args.first (lines c.args.text.now) in
    let Given = λ (blocks : List block.Block). whole ≡ Ok (map plain_block blocks) in
    let end = c.loop-line.invariant.read ∙ lines_end base (follow_of now) number (lines c.loop-line.rest.now) (ap lines (c.in_default.ensures.none.0 refl)) in
    elim c.match-place.branch [
      | in-Between w ↦ subst (λ r. MatchResult r Given (StopsAtBlockLine whole)) (sym w.result-is) (end ∙ ends_whole now number w.in-Between.is)
      | in_default-place w ↦
          subst (λ r. MatchResult r Given (StopsAtBlockLine whole)) (sym w.result-is)
          (line_fails Given whole w.fail.result number Block (end ∙ ends_open now number w.in_default-place.not-Between) w.fail.ensures)
    ]
