use Rattle.std.proofs.Common.{◌≡◌, ◌∙◌, ◌∷◌, ◌+◌, ◌≤◌, [], ap, arith, subst, map, string_bytes, codes, refl, rules}
use Rattle.std.specs.Option.{IfSome}
use Rattle.operad_run.specs.Commands.{IsBound}
use Rattle.operad_run.proofs.Words.{three, is_forms}
use Rattle.operad_run.proofs.commands.forms_arity.Goals as goal

pub returns-else-not-is_bound-clause-found : goal.returns-else-not-is_bound-clause-found
returns-else-not-is_bound-clause-found c =
    let name = c.command-item.result in
    let arity = c.arity-item.result in
    let bound = c.bound-item.result in
    let all = three string_bytes c.args.words.now name arity bound (omega arith) (omega arith) c.command-item.is c.arity-item.is c.bound-item.is in
    let forms : string_bytes name ≡ codes "forms" = search rules in
    is_forms (map string_bytes c.args.words.now) (string_bytes arity) (string_bytes bound) c.digit.result (all ∙ ap (λ w. w ∷ (string_bytes arity ∷ (string_bytes bound ∷ []))) forms)
    (subst IsBound c.as_bytes.ensures.value (c.if-not-is_bound.ensures.0 refl))
    (subst (λ w. IfSome c.digit.result (λ n. (1 ≤ n) × (n ≤ 9) × (w ≡ (48 + n) ∷ []))) c.as_bytes-in-len3.ensures.value c.digit.ensures.found)
