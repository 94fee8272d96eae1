use Rattle.std.proofs.Common.{arith, get_or}
use Rattle.std.proofs.lemmas.List.{get_or_default}
use Rattle.presentation_text.proofs.TokenLaws.{digit_at, below_limit}
use Rattle.presentation_text.proofs.lexing.value.Goals as goal

pub overflow_mul-value : goal.overflow_mul-value
overflow_mul-value c =
    let b = below_limit c.loop-digit.value c.loop-digit.digit-index (omega arith) c.loop-digit.invariant.below in omega arith

pub overflow_add-value : goal.overflow_add-value
overflow_add-value c =
    let b = below_limit c.loop-digit.value c.loop-digit.digit-index (omega arith) c.loop-digit.invariant.below in
    let d = digit_at c.args.digits.now c.loop-digit.digit-index (get_or c.args.digits.now c.loop-digit.digit-index 0) c.loop-digit-test.true (get_or_default c.args.digits.now c.loop-digit.digit-index 0 (get_or c.args.digits.now c.loop-digit.digit-index 0) c.loop-digit-test.true) c.loop-digit.invariant.digits in omega arith
