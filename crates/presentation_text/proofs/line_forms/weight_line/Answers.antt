use Rattle.std.proofs.Common.{◌≡◌, ◌∙◌, None, Ok, Some, ap, arith, drop, false, get_or, length, nat_lt, refl, sym, true}
use Rattle.std.specs.Option.{is_some}
use Rattle.std.proofs.Math.ListN.{length-set}
use Rattle.presentation_text.specs.DraftReadings.{contents_of}
use Rattle.presentation_text.specs.LineReadings.{is_weighed, weight_line}
use Rattle.presentation_text.specs.Readings.{end_in, number_in, word_in}
use Rattle.presentation_text.specs.TreeReadings.{index_of}
use Rattle.presentation_text.specs.declared.kinds.DocKind.TheVariants.{NameUnknown, WeightOut, WeightTaken}
use Rattle.presentation_text.proofs.LineReadingsNumbers.{below, not_below, weighed_is, weighed_set}
use Rattle.presentation_text.proofs.LineReadingsStops.{draft_fails, draft_stops, stops_on}
use Rattle.presentation_text.proofs.Names.{index_found}
use Rattle.presentation_text.proofs.line_forms.weight_line.Goals as goal

pub returns-in_err-name : goal.returns-in_err-name
unfolding weight_line
returns-in_err-name c =
    draft_stops c.args.tokens.now _ c.from_residual.result c.in_err-name.field-0.0 c.from_residual.ensures.0 c.from_residual.ensures.1
    (stops_on c.args.tokens.now (word_in (drop 1 c.args.tokens.now)) _ _ c.in_err-name.ensures)

pub returns-in_default : goal.returns-in_default
unfolding weight_line
returns-in_default c =
    let unknown : index_of c.in_ok-name.name.now c.args.draft.gens ≡ None =
    index_found c.args.draft.gens c.in_ok-name.name.now c.find.result c.requires.sound.table c.find.ensures.found c.find.ensures.absent ∙ c.in_default.is in
    draft_fails c.args.tokens.now 1 NameUnknown _ c.fail.result c.in_ok-name.ensures.1 (rw (c.in_ok-name.ensures.0, unknown) refl) c.fail.ensures

pub returns-then-is_some : goal.returns-then-is_some
unfolding weight_line
returns-then-is_some c =
    let known : index_of c.in_ok-name.name.now c.args.draft.gens ≡ Some c.in-Some.generator =
    index_found c.args.draft.gens c.in_ok-name.name.now c.find.result c.requires.sound.table c.find.ensures.found c.find.ensures.absent ∙ c.in-Some.is in
    let taken : is_weighed c.in-Some.generator c.args.draft.weights ≡ true =
    weighed_is c.in-Some.generator c.args.draft.weights None (omega (arith, c.requires.sound.weights, c.in-Some.ensures.found.0))
    ∙ ap (λ weights. is_some (get_or weights c.in-Some.generator None)) (sym c.as_slice.ensures) ∙ sym c.if-is_some.ensures in
    draft_fails c.args.tokens.now 1 WeightTaken _ c.fail-then-is_some.result c.in_ok-name.ensures.1 (rw (c.in_ok-name.ensures.0, known, taken) refl) c.fail-then-is_some.ensures

pub returns-in_err-weight : goal.returns-in_err-weight
unfolding weight_line
returns-in_err-weight c =
    let known : index_of c.in_ok-name.name.now c.args.draft.gens ≡ Some c.in-Some.generator =
    index_found c.args.draft.gens c.in_ok-name.name.now c.find.result c.requires.sound.table c.find.ensures.found c.find.ensures.absent ∙ c.in-Some.is in
    let untaken : is_weighed c.in-Some.generator c.args.draft.weights ≡ false =
    weighed_is c.in-Some.generator c.args.draft.weights None (omega (arith, c.requires.sound.weights, c.in-Some.ensures.found.0))
    ∙ ap (λ weights. is_some (get_or weights c.in-Some.generator None)) (sym c.as_slice.ensures) ∙ sym c.if-is_some.ensures in
    draft_stops c.args.tokens.now _ c.from_residual-in_err-weight.result c.in_err-weight.field-0.0 c.from_residual-in_err-weight.ensures.0 c.from_residual-in_err-weight.ensures.1
    (rw (c.in_ok-name.ensures.0, known, untaken) (stops_on c.args.tokens.now (number_in (drop 2 c.args.tokens.now)) _ _ c.in_err-weight.ensures))

pub returns-then-weight-gt-GREATEST_WEIGHT : goal.returns-then-weight-gt-GREATEST_WEIGHT
unfolding weight_line
returns-then-weight-gt-GREATEST_WEIGHT c =
    let known : index_of c.in_ok-name.name.now c.args.draft.gens ≡ Some c.in-Some.generator =
    index_found c.args.draft.gens c.in_ok-name.name.now c.find.result c.requires.sound.table c.find.ensures.found c.find.ensures.absent ∙ c.in-Some.is in
    let untaken : is_weighed c.in-Some.generator c.args.draft.weights ≡ false =
    weighed_is c.in-Some.generator c.args.draft.weights None (omega (arith, c.requires.sound.weights, c.in-Some.ensures.found.0))
    ∙ ap (λ weights. is_some (get_or weights c.in-Some.generator None)) (sym c.as_slice.ensures) ∙ sym c.if-is_some.ensures in
    let out : nat_lt 1000000 c.in_ok-weight.weight ≡ true = below 1000000 _ c.if-weight-gt-GREATEST_WEIGHT.true in
    draft_fails c.args.tokens.now 2 WeightOut _ c.fail-then-weight-gt-GREATEST_WEIGHT.result c.in_ok-weight.ensures.1
    (rw (c.in_ok-name.ensures.0, known, untaken, c.in_ok-weight.ensures.0, out) refl) c.fail-then-weight-gt-GREATEST_WEIGHT.ensures

pub returns-in_err-end_at : goal.returns-in_err-end_at
unfolding weight_line
returns-in_err-end_at c =
    let known : index_of c.in_ok-name.name.now c.args.draft.gens ≡ Some c.in-Some.generator =
    index_found c.args.draft.gens c.in_ok-name.name.now c.find.result c.requires.sound.table c.find.ensures.found c.find.ensures.absent ∙ c.in-Some.is in
    let untaken : is_weighed c.in-Some.generator c.args.draft.weights ≡ false =
    weighed_is c.in-Some.generator c.args.draft.weights None (omega (arith, c.requires.sound.weights, c.in-Some.ensures.found.0))
    ∙ ap (λ weights. is_some (get_or weights c.in-Some.generator None)) (sym c.as_slice.ensures) ∙ sym c.if-is_some.ensures in
    let small : nat_lt 1000000 c.in_ok-weight.weight ≡ false = not_below 1000000 _ c.if-weight-gt-GREATEST_WEIGHT.false in
    draft_stops c.args.tokens.now _ c.from_residual-in_err-end_at.result c.in_err-end_at.field-0.0 c.from_residual-in_err-end_at.ensures.0 c.from_residual-in_err-end_at.ensures.1
    (rw (c.in_ok-name.ensures.0, known, untaken, c.in_ok-weight.ensures.0, small) (stops_on c.args.tokens.now (end_in (drop 3 c.args.tokens.now)) _ _ c.in_err-end_at.ensures))

pub returns : goal.returns
unfolding weight_line
returns c =
    let known : index_of c.in_ok-name.name.now c.args.draft.gens ≡ Some c.in-Some.generator =
    index_found c.args.draft.gens c.in_ok-name.name.now c.find.result c.requires.sound.table c.find.ensures.found c.find.ensures.absent ∙ c.in-Some.is in
    let untaken : is_weighed c.in-Some.generator c.args.draft.weights ≡ false =
    weighed_is c.in-Some.generator c.args.draft.weights None (omega (arith, c.requires.sound.weights, c.in-Some.ensures.found.0))
    ∙ ap (λ weights. is_some (get_or weights c.in-Some.generator None)) (sym c.as_slice.ensures) ∙ sym c.if-is_some.ensures in
    let small : nat_lt 1000000 c.in_ok-weight.weight ≡ false = not_below 1000000 _ c.if-weight-gt-GREATEST_WEIGHT.false in (
      rw (c.in_ok-name.ensures.0, known, untaken, c.in_ok-weight.ensures.0, small, c.in_ok-end_at.ensures)
          (ap (λ weights. Ok (record (contents_of c.args.draft) { weights = weights; section = 4 })) (weighed_set c.in-Some.generator c.in_ok-weight.weight c.args.draft.weights ∙ sym c.set.ensures)),
      record {
        table = c.requires.sound.table;
        no_sums = c.requires.sound.no_sums;
        relations = c.requires.sound.relations;
        asks = c.requires.sound.asks;
        weights = ap length c.set.ensures ∙ length-set c.args.draft.weights c.in-Some.generator (Some c.in_ok-weight.weight) ∙ c.requires.sound.weights;
      },
    )
