use Rattle.std.proofs.Common.{◌∙◌, ◌*◌, ◌+◌, drop, length, map, ap, sym}
use Rattle.shuffle_insertions.specs.Counting as spec
use Rattle.symmetric_trees.specs.Generators.{part_of}
use Rattle.symmetric_trees.specs.declared.generators.PartKind.TheVariants.{Sym}
use Rattle.shuffle_transfer.specs.Labels.{words_of}
use Rattle.shuffle_transfer.specs.LabelCounts.{part_orders}
use Rattle.shuffle_transfer.proofs.LabelLists.{words_divide}
use Rattle.symmetric_trees.proofs.Tables.{inputs_held}
use Rattle.shuffle_sums.proofs.LabelKinds.{divided, orders_next}
use Rattle.shuffle_sums.proofs.counting.count_labels.Goals as goal

pub loop-part-init : goal.loop-part-init
loop-part-init c =
    let g = c.args.generator.now in
    c.factorial-count.ensures ∙ ap spec.factorial (sym (inputs_held g c.requires.sizes)) ∙ sym (words_divide (map part_of g.parts))

pub nonzero_div-count : goal.nonzero_div-count
nonzero_div-count c = (orders_next c.as_slice-part-items.result.now c.args.generator.now.parts c.loop-part.part-index c.orders_of-count.result (record { kind = Sym; size = 0 })
    c.as_slice-part-items.ensures c.loop-part-test.true c.orders_of-count.ensures).0

pub loop-part-preserved : goal.loop-part-preserved
loop-part-preserved c =
    let g = c.args.generator.now in
    let i = c.loop-part.part-index in
    let words = length (words_of (map part_of g.parts)) in
    let next = orders_next c.as_slice-part-items.result.now g.parts i c.orders_of-count.result (record { kind = Sym; size = 0 }) c.as_slice-part-items.ensures c.loop-part-test.true c.orders_of-count.ensures in
    divided c.loop-part.count words c.orders_of-count.result (part_orders (map part_of (drop (i + 1) g.parts))) next.0 (c.loop-part.invariant ∙ ap (λ n. words * n) next.1)
