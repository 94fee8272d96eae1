use Rattle.std.proofs.Common.{◌≡◌, ◌-◌, ◌≤◌, length, rules, take, drop, length-take, length-drop, arith}
use Rattle.std.proofs.Math.Nat.{mul-le-mul_right}
use Rattle.shuffle_passage.specs.Words as spec
use Rattle.shuffle_passage.proofs.LabelNumbers.{few_before, sum_from-most, few_endings}
use Rattle.shuffle_passage.proofs.words.+word_number.Goals as goal

pub overflow_add-result : goal.overflow_add-result
overflow_add-result t c =
    let later = take (length c.args.bounds.now - 1) (drop 1 c.args.bounds.now) in
    let others = take (length c.args.word.now - 1) (drop 1 c.args.word.now) in
    let size : length later ≤ 5 = omega (arith, length-take (length c.args.bounds.now - 1) (drop 1 c.args.bounds.now), length-drop 1 c.args.bounds.now, c.requires.few) in
    let same : length others ≡ length later = omega (arith, length-take (length c.args.bounds.now - 1) (drop 1 c.args.bounds.now), length-drop 1 c.args.bounds.now, length-take (length c.args.word.now - 1) (drop 1 c.args.word.now), length-drop 1 c.args.word.now, c.requires.same) in
    let place : c.count-place.result ≤ length others = search rules in
    let few = few_before later c.count-place.result others same (omega (arith, size)) in
    let from = c.first_place.result in
    let sum = sum_from-most (spec.endings later) from (c.count-place.result - from) 120 (λ i. few_endings later i 5 size) in
    let most = mul-le-mul_right {m = c.count-place.result - from} {n = 5} 120 (omega (arith, place, size, same)) in
    omega (arith, c.sum_endings-before.ensures, c.word_number.ensures, few, sum, most)
