use Rattle.std.proofs.Common.{◌≡◌, ◌+◌, ◌<◌, suc, length, ap, arith}
use Rattle.symmetric_trees.specs.Generators.{generators_of, parts_at}
use Rattle.shuffle_passage.specs.Words as spec
use Rattle.shuffle_passage.proofs.WordTables.{length-words, length-generators, read_words, first_label-zero, first_label-next, first_label-all, gen_is, bounds_few}
use Rattle.shuffle_passage.proofs.words.generator_of.Goals as goal

pub loop-index-init : goal.loop-index-init
loop-index-init c = let z = first_label-zero (generators_of c.args.table.now) in omega (arith, z)

pub bounds-words-index : goal.bounds-words-index
bounds-words-index c =
    let n = length-words 0 c.args.table.now in let e = ap length c.requires.words in let l = c.len-index-end.ensures.length in omega (arith, n, e, l, c.loop-index-test.true)

pub bounds-words-index-in-loop-index : goal.bounds-words-index-in-loop-index
bounds-words-index-in-loop-index c =
    let n = length-words 0 c.args.table.now in let e = ap length c.requires.words in let l = c.len-index-end.ensures.length in omega (arith, n, e, l, c.loop-index-test.true)

pub returns-then-label-words-clause-generator : goal.returns-then-label-words-clause-generator
returns-then-label-words-clause-generator c =
    let in_range : c.loop-index.index < length c.args.table.now = omega (arith, c.len-index-end.ensures.length, c.loop-index-test.true) in
    let own = read_words c.args.table.now c.args.words.now c.loop-index.index c.index-words-index.result c.requires.words in_range c.index-words-index.is in
    let end : c.index-words-index.result.end ≡ spec.first_label (generators_of c.args.table.now) c.loop-index.index + spec.endings (spec.bounds_of (parts_at c.args.table.now c.loop-index.index)) 0 = ap (λ w. w.end) own in
    gen_is c.args.table.now c.loop-index.index c.args.label in_range c.loop-index.invariant (omega (arith, end, ap (λ w. w.end) c.index-words-index.is, c.if-label-words.true))

pub returns-then-label-words-clause-few : goal.returns-then-label-words-clause-few
returns-then-label-words-clause-few c =
    bounds_few c.args.table.now c.loop-index.index c.len-index-end.ensures.table (omega (arith, c.len-index-end.ensures.length, c.loop-index-test.true))

pub returns-then-label-words-clause-end : goal.returns-then-label-words-clause-end
returns-then-label-words-clause-end c =
    let in_range : c.loop-index.index < length c.args.table.now = omega (arith, c.len-index-end.ensures.length, c.loop-index-test.true) in
    let own = read_words c.args.table.now c.args.words.now c.loop-index.index c.index-words-index.result c.requires.words in_range c.index-words-index.is in
    let end : c.index-words-index.result.end ≡ spec.first_label (generators_of c.args.table.now) c.loop-index.index + spec.endings (spec.bounds_of (parts_at c.args.table.now c.loop-index.index)) 0 = ap (λ w. w.end) own in omega (arith, end, ap (λ w. w.end) c.index-words-index.is, c.if-label-words.true)

pub loop-index-preserved : goal.loop-index-preserved
loop-index-preserved c =
    let i = c.loop-index.index in
    let gens = c.args.table.now in
    let in_range : i < length gens = omega (arith, c.len-index-end.ensures.length, c.loop-index-test.true) in
    let own = read_words gens c.args.words.now i c.index-words-index.result c.requires.words in_range c.index-words-index.is in
    let end : c.index-words-index.result.end ≡ spec.first_label (generators_of c.args.table.now) c.loop-index.index + spec.endings (spec.bounds_of (parts_at c.args.table.now c.loop-index.index)) 0 = ap (λ w. w.end) own in
    let next = first_label-next (generators_of gens) i (omega (arith, length-generators gens, in_range)) in
    let one : i + 1 ≡ suc i = omega arith in
    let last = ap (spec.first_label (generators_of gens)) one in
    omega (arith, end, ap (λ w. w.end) c.index-words-index.is, next, last, c.if-label-words.false)

pub unreachable-requires : goal.unreachable-requires
unreachable-requires c =
    let gens = c.args.table.now in
    let all = first_label-all 0 (generators_of gens) in
    let at : c.loop-index.index ≡ length (generators_of gens) = omega (arith, length-generators gens, c.len-index-end.ensures.length, c.loop-index-test.false, c.loop-index.auto.index-end) in
    let here = ap (spec.first_label (generators_of gens)) at in
    omega (arith, all, here, c.loop-index.invariant, c.requires.label)
