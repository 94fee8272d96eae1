use Rattle.std.proofs.Common.{◌-◌, ◌/◌, ap, ◌∙◌}
use Rattle.std.specs.Int.Count.{count_trailing_zeros}
use Rattle.normal_listing.proofs.Opened.{opened}
use Rattle.normal_listing.proofs.Zeros.{symbols_counted}
use Rattle.normal_listing.proofs.word.SpellingWord.len.Goals as goal

pub returns-clause-length : goal.returns-clause-length
returns-clause-length c =
    let o = opened c.self.inside.bits c.args.self c.self.view_is c.self.invariant in
    ap (λ n. 25 - count_trailing_zeros 128 n / 5) o.number ∙ symbols_counted c.args.self o.word

pub returns-clause-word : goal.returns-clause-word
returns-clause-word c = (opened c.self.inside.bits c.args.self c.self.view_is c.self.invariant).word
