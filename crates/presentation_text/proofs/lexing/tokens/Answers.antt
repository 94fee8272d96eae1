use Rattle.std.proofs.Common.{◌≡◌, ◌∷◌, length, arith, ap, ◌∙◌}
use Rattle.std.proofs.lemmas.Bool.Decides.{nat_tests}
use Rattle.std.proofs.lemmas.Option.{MatchOption-at_some, MatchOption-at_none}
use Rattle.presentation_text.specs.Tokens as spec
use Rattle.presentation_text.proofs.TokenLaws.{tokens_step, tokens_skip, tokens_end, are_tokens}
use Rattle.presentation_text.proofs.lexing.tokens.Goals as goal
use Rattle.presentation_text.proofs.lexing.tokens.Goals.{in-Some+in_ok-push, in_default}

pub loop-rest-preserved : goal.loop-rest-preserved
loop-rest-preserved c =
    let rest = c.loop-rest.rest.now in
    let behind = spec.tokens_behind c.front-token.result.1 rest in
    elim c.match-token.branch [
      | in-Some+in_ok-push w ↦ tokens_step c.loop-rest.found.items c.match-token.found.items w.in-Some.token rest c.split_at.result.1.now c.args.line.now c.front-token.result.1
          (ap (λ found. found.items) w.found-is ∙ w.in_ok-push.ensures.items)
          (MatchOption-at_some (spec.tokens rest ≡ behind) (λ token. spec.tokens rest ≡ token ∷ behind) w.in-Some.token w.in-Some.is c.front-token.ensures.read)
          c.split_at.ensures.back c.loop-rest.invariant
      | in_default w ↦ let same : c.match-token.found.items ≡ c.loop-rest.found.items = ap (λ found. found.items) w.found-is in
          rw same (tokens_skip c.loop-rest.found.items rest c.split_at.result.1.now c.args.line.now c.front-token.result.1
          (MatchOption-at_none (spec.tokens rest ≡ behind) (λ token. spec.tokens rest ≡ token ∷ behind) w.in_default.is c.front-token.ensures.read)
          c.split_at.ensures.back c.loop-rest.invariant)
    ]

pub returns-clause-defined : goal.returns-clause-defined
returns-clause-defined c =
    let none : length c.loop-rest.rest.now ≡ 0 = grind (arith, nat_tests) in
    tokens_end c.loop-rest.found.items c.loop-rest.rest.now c.args.line.now none c.loop-rest.invariant (are_tokens c.args.line.now)
