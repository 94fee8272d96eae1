use Rattle.std.proofs.Common.{◌≡◌, ◌∙◌, ◌+◌, ◌<◌, ◌∷◌, ◌≤◌, length, drop, get_or, ap, sym, subst, arith}
use Rattle.std.proofs.lemmas.List.{drop_more}
use Rattle.std.proofs.lemmas.Option.{get_or_from_slice_get}
use Rattle.shuffle_sums.specs.LabelArities.{AreLabelWeights}
use Rattle.shuffle_sums.proofs.LabelKinds.{weights-more, no_weights-more, label_weights}
use Rattle.shuffle_sums.proofs.weighing.weight_order.Goals as goal

pub loop-index-preserved : goal.loop-index-preserved
loop-index-preserved c =
    let gens = c.args.table.now in
    let i = c.loop-index.index in
    let g = c.get.result.now in
    let in_range : i < length gens = omega (arith, c.loop-index-test.true, c.len-index-end.ensures.length) in
    let split : drop i gens ≡ g ∷ drop (i + 1) gens = drop_more gens i g in_range ∙ ap (λ x. x ∷ drop (i + 1) gens) (get_or_from_slice_get gens i g g c.get.ensures.found) in
    let apart = drop_more c.args.weights.now i 0 (omega (arith, in_range, c.requires.count)) in
    weights-more _ _ _ g (drop i gens) (drop (i + 1) gens) (get_or c.args.weights.now i 0) c.count_labels-count.result (drop i c.args.weights.now) (drop (i + 1) c.args.weights.now) split apart c.count_labels-count.ensures
    c.loop-index.invariant c.in_ok-push_copies.ensures

pub returns : goal.returns
returns c =
    let gens = c.args.table.now in
    let weights = c.args.weights.now in
    let i = c.loop-index.index in
    let over : length gens ≤ i = omega (arith, c.loop-index-test.false, c.len-index-end.ensures.length) in
    record {
      weights = subst (AreLabelWeights gens weights)
          (sym (c.new.ensures.weights ∙ no_weights-more _ _ gens weights i over c.loop-index.invariant))
          (label_weights gens weights c.requires.count);
    }
