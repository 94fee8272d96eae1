use Rattle.std.proofs.Common.{◌≡◌, ◌∙◌, ◌+◌, ◌<◌, ◌∷◌, length, drop, map, sym, ap, arith}
use Rattle.std.proofs.lemmas.List.{drop_more}
use Rattle.std.proofs.lemmas.Option.{get_or_from_slice_get}
use Rattle.symmetric_trees.specs.Generators.{part_of, parts_at}
use Rattle.symmetric_trees.proofs.Tables.{parts_at-held}
use Rattle.shuffle_passage.specs.Words as spec
use Rattle.shuffle_passage.proofs.WordTables.{arity_few, words_few, words-more}
use Rattle.shuffle_passage.proofs.words.words_of.Goals as goal

pub count_endings-requires : goal.count_endings-requires
count_endings-requires c =
    let gens = c.args.table.now in
    let i = c.loop-index.index in
    let g = c.get.result.now in
    let few = arity_few gens i g c.get.ensures.table (omega (arith, c.loop-index-test.true, c.len-index-end.ensures.length)) c.get.ensures.found in
    let bounds : c.as_slice-in-loop-index.result.now ≡ spec.bounds_of (parts_at gens i) =
    c.as_slice-in-loop-index.ensures ∙ c.in_ok-bounds.ensures ∙ ap (λ ps. spec.bounds_of (map part_of ps)) c.as_slice.ensures ∙ ap spec.bounds_of (sym (parts_at-held gens i g c.get.ensures.found)) in
    omega (arith, few, ap length bounds)

pub overflow_add-end : goal.overflow_add-end
overflow_add-end c =
    let gens = c.args.table.now in
    let i = c.loop-index.index in
    let in_range : i < length gens = omega (arith, c.loop-index-test.true, c.len-index-end.ensures.length) in
    let few = words_few gens i c.get.ensures.table in_range in
    let bounds : c.as_slice-in-loop-index.result.now ≡ spec.bounds_of (parts_at gens i) =
    c.as_slice-in-loop-index.ensures ∙ c.in_ok-bounds.ensures ∙ ap (λ ps. spec.bounds_of (map part_of ps)) c.as_slice.ensures ∙ ap spec.bounds_of (sym (parts_at-held gens i c.get.result.now c.get.ensures.found)) in
    let count : c.count_endings.result ≡ spec.endings (spec.bounds_of (parts_at gens i)) 0 = c.count_endings.ensures ∙ ap (λ bs. spec.endings bs 0) bounds in
    omega (arith, few, count, c.loop-index.invariant.few, c.get.ensures.table.few, in_range)

pub loop-index-preserved : goal.loop-index-preserved
loop-index-preserved c =
    let gens = c.args.table.now in
    let i = c.loop-index.index in
    let g = c.get.result.now in
    let in_range : i < length gens = omega (arith, c.loop-index-test.true, c.len-index-end.ensures.length) in
    let few = words_few gens i c.get.ensures.table in_range in
    let bounds : c.as_slice-in-loop-index.result.now ≡ spec.bounds_of (parts_at gens i) =
    c.as_slice-in-loop-index.ensures ∙ c.in_ok-bounds.ensures ∙ ap (λ ps. spec.bounds_of (map part_of ps)) c.as_slice.ensures ∙ ap spec.bounds_of (sym (parts_at-held gens i g c.get.ensures.found)) in
    let count : c.count_endings.result ≡ spec.endings (spec.bounds_of (parts_at gens i)) 0 = c.count_endings.ensures ∙ ap (λ bs. spec.endings bs 0) bounds in
    let split : drop i gens ≡ g ∷ drop (i + 1) gens = drop_more gens i g in_range ∙ ap (λ x. x ∷ drop (i + 1) gens) (get_or_from_slice_get gens i g g c.get.ensures.found) in
    record {
      words = words-more c.loop-index.words c.push.new.self _ c.loop-index.first c.count_endings.result c.in_ok-bounds.bounds g (drop i gens) (drop (i + 1) gens) split
          (c.in_ok-bounds.ensures ∙ ap (λ ps. spec.bounds_of (map part_of ps)) c.as_slice.ensures)
          (c.count_endings.ensures ∙ ap (λ bs. spec.endings bs 0) c.as_slice-in-loop-index.ensures)
          c.loop-index.invariant.words c.in_ok-push.ensures.ok;
      few = omega (arith, few, count, c.loop-index.invariant.few);
    }
