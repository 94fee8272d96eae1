use Rattle.std.proofs.Common.{◌∙◌, ◌<◌, ◌++◌, ◌∷◌, [], length, map, take, ap, sym, arith}
use Rattle.std.proofs.lemmas.List.{map_more}
use Rattle.std.proofs.lemmas.Option.{get_or_from_slice_get}
use Rattle.shuffle_sums.specs.LabelArities.{arity_and_count}
use Rattle.shuffle_sums.proofs.setting.kinds_of.Goals as goal

pub loop-index-preserved : goal.loop-index-preserved
loop-index-preserved c =
    let gens = c.args.table.now in
    let i = c.loop-index.index in
    let g = c.get-generator.result.now in
    let in_range : i < length gens = omega (arith, c.loop-index-test.true, c.len-index-end.ensures.length) in
    c.in_ok-push.ensures.items
    ∙ ap (λ ks. ks ++ (g.arity, c.count_labels.result) ∷ []) c.loop-index.invariant
    ∙ ap (λ n. map arity_and_count (take i gens) ++ (g.arity, n) ∷ []) c.count_labels.ensures
    ∙ ap (λ x. map arity_and_count (take i gens) ++ arity_and_count x ∷ []) (sym (get_or_from_slice_get gens i g g c.get-generator.ensures.found)) ∙ sym (map_more arity_and_count gens i g in_range)
