use Rattle.std.proofs.Common.{◌≡◌, None, Some, arith, drop, false, length, nat_le, refl, sym, true}
use Rattle.presentation_text.specs.LineReadings.{is_arity, name_fault, named_arity_in}
use Rattle.presentation_text.specs.Readings.{StopsAs, number_in, word_in}
use Rattle.presentation_text.specs.declared.kinds.DocKind.TheVariants.{ArityOut, TooManyGens}
use Rattle.presentation_text.proofs.LineReadingsNumbers.{arity_above, arity_below, arity_is, at_most, not_at_most}
use Rattle.presentation_text.proofs.LineReadingsStops.{part_fails, part_stops, stops_on}
use Rattle.presentation_text.proofs.line_forms.named_arity.Goals as goal
use Rattle.presentation_text.proofs.line_forms.named_arity.Goals.{then-arity-lt2-via-then-arity-lt2, then-arity-lt2-via-else-arity-lt2+then-arity-gt6}

pub returns-then-len-ge-MOST_GENERATORS : goal.returns-then-len-ge-MOST_GENERATORS
unfolding named_arity_in
returns-then-len-ge-MOST_GENERATORS c =
    let full : nat_le 12 (length c.args.table.now) ≡ true = at_most 12 (length c.args.table.now) (omega arith) in
    part_fails c.args.tokens.now 0 TooManyGens _ _ c.fail.result (omega arith) (rw full refl) c.fail.ensures

pub returns-in_err-name : goal.returns-in_err-name
unfolding named_arity_in
returns-in_err-name c =
    let room : nat_le 12 (length c.args.table.now) ≡ false = not_at_most 12 (length c.args.table.now) (omega arith) in
    part_stops _ (StopsAs c.args.tokens.now (named_arity_in c.args.table.now (drop 1 c.args.tokens.now))) c.from_residual.result c.in_err-name.field-0.0
    c.from_residual.ensures.0 c.from_residual.ensures.1 (rw room (stops_on c.args.tokens.now (word_in (drop 1 c.args.tokens.now)) _ _ c.in_err-name.ensures))

pub returns-in-Some : goal.returns-in-Some
unfolding named_arity_in
returns-in-Some c =
    let room : nat_le 12 (length c.args.table.now) ≡ false = not_at_most 12 (length c.args.table.now) (omega arith) in
    let against : name_fault c.args.table.now c.in_ok-name.name.now ≡ Some c.in-Some.kind = sym c.in-Some.ensures in
    part_fails c.args.tokens.now 1 c.in-Some.kind _ _ c.fail-in-Some.result c.in_ok-name.ensures.1 (rw (room, c.in_ok-name.ensures.0, against) refl) c.fail-in-Some.ensures

pub returns-in_err-arity : goal.returns-in_err-arity
unfolding named_arity_in
returns-in_err-arity c =
    let room : nat_le 12 (length c.args.table.now) ≡ false = not_at_most 12 (length c.args.table.now) (omega arith) in
    let free : name_fault c.args.table.now c.in_ok-name.name.now ≡ None = sym c.in_default.ensures in
    part_stops _ (StopsAs c.args.tokens.now (named_arity_in c.args.table.now (drop 1 c.args.tokens.now))) c.from_residual-in_err-arity.result c.in_err-arity.field-0.0
    c.from_residual-in_err-arity.ensures.0 c.from_residual-in_err-arity.ensures.1
    (rw (room, c.in_ok-name.ensures.0, free) (stops_on c.args.tokens.now (number_in (drop 2 c.args.tokens.now)) _ _ c.in_err-arity.ensures))

pub returns-then-arity-lt2 : goal.returns-then-arity-lt2
unfolding named_arity_in
returns-then-arity-lt2 c =
    let room : nat_le 12 (length c.args.table.now) ≡ false = not_at_most 12 (length c.args.table.now) (omega arith) in
    let free : name_fault c.args.table.now c.in_ok-name.name.now ≡ None = sym c.in_default.ensures in
    let out : is_arity c.in_ok-arity.arity ≡ false = elim c.then-arity-lt2.branch [
      | then-arity-lt2-via-then-arity-lt2 w ↦ arity_below c.in_ok-arity.arity w.if-arity-lt2.true
      | then-arity-lt2-via-else-arity-lt2+then-arity-gt6 w ↦ arity_above c.in_ok-arity.arity w.if-arity-gt6.true
    ] in
    part_fails c.args.tokens.now 2 ArityOut _ _ c.fail-then-arity-lt2.result c.in_ok-arity.ensures.1
    (rw (room, c.in_ok-name.ensures.0, free, c.in_ok-arity.ensures.0, out) refl) c.fail-then-arity-lt2.ensures

pub returns : goal.returns
unfolding named_arity_in
returns c =
    let room : nat_le 12 (length c.args.table.now) ≡ false = not_at_most 12 (length c.args.table.now) (omega arith) in
    let free : name_fault c.args.table.now c.in_ok-name.name.now ≡ None = sym c.in_default.ensures in
    let right : is_arity c.in_ok-arity.arity ≡ true = arity_is c.in_ok-arity.arity c.if-arity-lt2.false c.if-arity-gt6.false in
    (rw (room, c.in_ok-name.ensures.0, free, c.in_ok-arity.ensures.0, right) refl, c.in_ok-arity.ensures.1)
