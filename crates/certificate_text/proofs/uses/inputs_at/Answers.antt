use Rattle.std.proofs.Common.{◌≡◌, ◌∙◌, ◌-◌, ◌∷◌, [], ◌<◌, ap, arith, drop, length, length-drop, map, refl}
use Rattle.std.proofs.lemmas.List.{map-append}
use Rattle.labelled_trees.specs.Meaning.{tree_of}
use Rattle.presentation_text.specs.Readings.{StopsAs}
use Rattle.certificate_text.specs.BlockReadings.{inputs_in}
use Rattle.presentation_text.proofs.LineReadingsStops.{part_stops}
use Rattle.certificate_text.proofs.MarkPlaces.{marked_behind}
use Rattle.certificate_text.proofs.UseReading.{all_read, input_read, mark_stops, none_yet, tree_stops}
use Rattle.certificate_text.proofs.uses.inputs_at.Goals as goal

pub loop-next-init : goal.loop-next-init
loop-next-init c =
    record { within = c.requires.within; read = none_yet c.args.table.now _ (drop c.args.at c.args.tokens.now) (map tree_of c.new-inputs.result) refl (ap (map tree_of) c.new-inputs.ensures) }

pub returns-in_err-begin : goal.returns-in_err-begin
returns-in_err-begin c =
    let whole = inputs_in (length (drop c.args.at c.args.tokens.now)) c.args.table.now (drop c.args.at c.args.tokens.now) in
    let left : length (drop c.loop-next.next c.args.tokens.now) ≡ length c.args.tokens.now - c.loop-next.next = length-drop c.loop-next.next c.args.tokens.now in
    let some : 0 < length (drop c.loop-next.next c.args.tokens.now) = omega (arith, c.loop-next-test.true) in
    part_stops _ (StopsAs c.args.tokens.now whole) c.from_residual.result c.in_err-begin.field-0.0 c.from_residual.ensures.0 c.from_residual.ensures.1
    (mark_stops c.args.table.now whole c.args.tokens.now (drop c.loop-next.next c.args.tokens.now) (map tree_of c.loop-next.inputs) c.in_err-begin.field-0.0 c.loop-next.invariant.read some c.in_err-begin.ensures)

pub returns-in_err-tree : goal.returns-in_err-tree
returns-in_err-tree c =
    let whole = inputs_in (length (drop c.args.at c.args.tokens.now)) c.args.table.now (drop c.args.at c.args.tokens.now) in
    let left : length (drop c.loop-next.next c.args.tokens.now) ≡ length c.args.tokens.now - c.loop-next.next = length-drop c.loop-next.next c.args.tokens.now in
    let some : 0 < length (drop c.loop-next.next c.args.tokens.now) = omega (arith, c.loop-next-test.true) in
    part_stops _ (StopsAs c.args.tokens.now whole) c.from_residual-in_err-tree.result c.in_err-tree.field-0.0 c.from_residual-in_err-tree.ensures.0 c.from_residual-in_err-tree.ensures.1
    (tree_stops c.args.table.now whole c.args.tokens.now (drop c.loop-next.next c.args.tokens.now) (drop c.in_ok-begin.begin c.args.tokens.now) (map tree_of c.loop-next.inputs) c.in_err-tree.field-0.0
    c.loop-next.invariant.read some c.in_ok-begin.ensures.0 c.in_err-tree.ensures.read)

pub loop-next-preserved : goal.loop-next-preserved
loop-next-preserved c =
    let left : length (drop c.loop-next.next c.args.tokens.now) ≡ length c.args.tokens.now - c.loop-next.next = length-drop c.loop-next.next c.args.tokens.now in
    let behind : length (drop c.in_ok-tree.end c.args.tokens.now) ≡ length c.args.tokens.now - c.in_ok-tree.end = length-drop c.in_ok-tree.end c.args.tokens.now in
    let mark : c.loop-next.next < c.in_ok-begin.begin = marked_behind c.args.tokens.now c.loop-next.next c.in_ok-begin.begin 59 c.in_ok-begin.ensures.0 c.in_ok-begin.ensures.1 in
    record {
      within = c.in_ok-tree.ensures.read.1;
      read = input_read c.args.table.now _ (drop c.loop-next.next c.args.tokens.now) (drop c.in_ok-begin.begin c.args.tokens.now) (drop c.in_ok-tree.end c.args.tokens.now) (map tree_of c.loop-next.inputs)
          (map tree_of c.push.new.self) (tree_of c.in_ok-tree.tree) c.loop-next.invariant.read c.in_ok-begin.ensures.0 c.in_ok-tree.ensures.read.0
          (omega (arith, c.in_ok-tree.ensures.further, c.in_ok-tree.ensures.read.1, c.loop-next-test.true))
          (ap (map tree_of) c.in_ok-push.ensures.ok ∙ map-append tree_of c.loop-next.inputs (c.in_ok-tree.tree ∷ []));
    }

pub returns : goal.returns
returns c =
    let left : length (drop c.loop-next.next c.args.tokens.now) ≡ length c.args.tokens.now - c.loop-next.next = length-drop c.loop-next.next c.args.tokens.now in
    all_read c.args.table.now _ (drop c.loop-next.next c.args.tokens.now) (map tree_of c.loop-next.inputs) c.loop-next.invariant.read (omega (arith, c.loop-next-test.false))
