use Rattle.std.proofs.Common.{◌≡◌, ◌/◌, ◌^◌, ◌∷◌, [], ap, ◌∙◌, subst, sym}
use Rattle.normal_listing.specs.Places.{IsShortWord, number_of}
use Rattle.normal_listing.proofs.Opened.{opened}
use Rattle.normal_listing.proofs.Places.{first_of, number_none}
use Rattle.normal_listing.proofs.word.SpellingWord.first.Goals as goal

pub returns-clause-first : goal.returns-clause-first
returns-clause-first c s l e =
    let o = opened c.self.inside.bits c.args.self c.self.view_is c.self.invariant in
    ap (λ n. n / 2 ^ 120) (o.number ∙ ap number_of e) ∙ first_of s l (subst IsShortWord e o.word)

pub returns-clause-none : goal.returns-clause-none
returns-clause-none c e =
    let o = opened c.self.inside.bits c.args.self c.self.view_is c.self.invariant in
    ap (λ n. n / 2 ^ 120) (o.number ∙ ap number_of e ∙ number_none)

pub returns-clause-word : goal.returns-clause-word
returns-clause-word c = (opened c.self.inside.bits c.args.self c.self.view_is c.self.invariant).word
