use Rattle.std.proofs.Common.{◌≡◌, ◌∙◌, suc, ◌+◌, ◌*◌, ◌-◌, sym, ap, ap₂, arith}
use Rattle.std.proofs.Math.Nat.{mul-le-mul_right}
use Rattle.shuffle_passage.specs.Words as spec
use Rattle.shuffle_passage.proofs.LabelNumbers.{sum_from-most, few_endings}
use Rattle.shuffle_passage.proofs.WordTables.{sum_from-constant, sum_from-next}
use Rattle.shuffle_passage.proofs.words.+endings.Goals as goal

pub sum_endings-overflow_mul-result : goal.sum_endings-overflow_mul-result
sum_endings-overflow_mul-result t c =
    let e = few_endings c.args.bounds.now 0 5 c.requires.few in
    let q = mul-le-mul_right {m = c.saturating_sub.result} {n = 6} c.count_endings.result (omega (arith, c.requires.few, c.requires.within, c.saturating_sub.ensures)) in
    omega (arith, e, q, c.count_endings.ensures)

pub sum_endings-returns-then-is_free : goal.sum_endings-returns-then-is_free
sum_endings-returns-then-is_free t c =
    ap₂ (λ m n. m * n) c.saturating_sub.ensures c.count_endings.ensures
    ∙ sym (sum_from-constant (spec.endings c.args.bounds.now) c.args.from (c.args.to - c.args.from) (spec.endings c.args.bounds.now 0) (λ i. c.is_free.ensures i c.if-is_free.true))

pub sum_endings-overflow_add-sum : goal.sum_endings-overflow_add-sum
sum_endings-overflow_add-sum t c =
    let f = spec.endings c.args.bounds.now in
    let n = c.loop-below.below - c.args.from in
    let k = sum_from-most f c.args.from n 120 (λ i. few_endings c.args.bounds.now i 5 c.requires.few) in
    let q = mul-le-mul_right {m = n} {n = 6} 120 (omega (arith, c.requires.few, c.requires.within, c.loop-below-test.true)) in
    omega (arith, k, q, c.loop-below.invariant.sum, c.count_endings-sum.ensures, few_endings c.args.bounds.now c.loop-below.below 5 c.requires.few)

pub sum_endings-loop-below-preserved : goal.sum_endings-loop-below-preserved
sum_endings-loop-below-preserved t c =
    let f = spec.endings c.args.bounds.now in
    let n = c.loop-below.below - c.args.from in
    let next : c.loop-below.below + 1 - c.args.from ≡ suc n = omega (arith, c.loop-below.invariant.past) in
    let at : c.args.from + n ≡ c.loop-below.below = omega (arith, c.loop-below.invariant.past) in
    record {
      sum = ap₂ (λ a b. a + b) c.loop-below.invariant.sum (c.count_endings-sum.ensures ∙ ap f (sym at)) ∙ sym (sum_from-next f c.args.from n) ∙ ap (spec.sum_from f c.args.from) (sym next);
      within = omega (arith, c.loop-below-test.true);
      past = omega (arith, c.loop-below.invariant.past);
    }

pub sum_endings-returns : goal.sum_endings-returns
sum_endings-returns t c =
    let e : c.loop-below.below - c.args.from ≡ c.args.to - c.args.from = omega (arith, c.loop-below-test.false, c.loop-below.invariant.within, c.loop-below.invariant.past) in
    c.loop-below.invariant.sum ∙ ap (spec.sum_from (spec.endings c.args.bounds.now) c.args.from) e
