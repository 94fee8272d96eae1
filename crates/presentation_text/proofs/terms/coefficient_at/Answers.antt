use Rattle.std.proofs.Common.{◌≡◌, ◌+◌, refl, arith}
use Rattle.presentation_text.proofs.ElementReadingsRead.{drop-behind_one}
use Rattle.presentation_text.proofs.terms.coefficient_at.Goals as goal

pub returns-then-has_mark-clause-behind : goal.returns-then-has_mark-clause-behind
returns-then-has_mark-clause-behind c =
    let two : c.args.at + 1 + 1 ≡ c.args.at + 2 = omega arith in
    rw (drop-behind_one c.args.tokens.now c.args.at, drop-behind_one c.args.tokens.now (c.args.at + 1), two) refl
