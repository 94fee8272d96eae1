use Rattle.std.proofs.Common.{◌≡◌, ◌<◌, ◌-◌, ◌∙◌, ap, sym, subst, arith, length, get_or}
use Rattle.symmetric_sums.specs.Terms.{terms_of}
use Rattle.symmetric_sums.specs.Instances.{rule_element}
use Rattle.symmetric_sums.proofs.Expansions.{err_is}
use Rattle.certificate_text.specs.declared.block.Step.{Step}
use Rattle.certificate_check.specs.Blocks.{elements_of}
use Rattle.symmetric_sums.specs.Uses.{CitesElement, cited}
use Rattle.certificate_check.specs.Checking.{fault_of}
use Rattle.certificate_check.proofs.GoodUses.{step_at-found, used-ok, used-err, not_ahead_within}
use Rattle.certificate_check.proofs.uses.expand_use.Goals as goal

pub expand_around-requires-clause-element : goal.expand_around-requires-clause-element
expand_around-requires-clause-element c =
    let within : c.in-Step.number - 1 < length c.args.earlier.now = omega (arith, c.if-before-earlier.false) in
    (c.requires.steps (c.in-Step.number - 1) c.index-earlier-before.result within).element

pub returns-in_err-expand_around-in-Step-clause-used :
    goal.returns-in_err-expand_around-in-Step-clause-used
returns-in_err-expand_around-in-Step-clause-used c =
    let positive : 0 < c.in-Step.number = omega (arith, c.if-number-eq0.false) in
    let within : c.in-Step.number - 1 < length c.args.earlier.now = omega (arith, c.if-before-earlier.false) in
    let is : cited c.args.document.now.field c.args.document.now.gens c.args.document.now.rels (elements_of c.args.earlier.now) c.args.item.now ≡ terms_of (get_or c.args.earlier.now (c.in-Step.number - 1) c.index-earlier-before.result).element =
    ap (rule_element c.args.document.now.field c.args.document.now.gens c.args.document.now.rels (elements_of c.args.earlier.now)) c.in-Step.is
    ∙ step_at-found c.args.earlier.now c.in-Step.number c.index-earlier-before.result positive within c.index-earlier-before.is ∙ ap (λ (s : Step). terms_of s.element) c.index-earlier-before.is in
    let r = c.from_residual-in_err-expand_around-in-Step.result in
    used-err c.args.document.now.field c.args.document.now.gens c.args.document.now.rels (elements_of c.args.earlier.now) c.args.item.now
    (terms_of (get_or c.args.earlier.now (c.in-Step.number - 1) c.index-earlier-before.result).element) c.in_err-expand_around-in-Step.field-0.0 r is
    (not_ahead_within c.args.earlier.now c.args.item.now.rule c.in-Step.number c.in-Step.is positive within) c.in_err-expand_around-in-Step.ensures.answer
    (err_is r (fault_of c.in_err-expand_around-in-Step.field-0.0) c.from_residual-in_err-expand_around-in-Step.ensures.0 c.from_residual-in_err-expand_around-in-Step.ensures.1)

pub returns-in_ok-expand_around-in-Step-clause-used :
    goal.returns-in_ok-expand_around-in-Step-clause-used
returns-in_ok-expand_around-in-Step-clause-used c =
    let positive : 0 < c.in-Step.number = omega (arith, c.if-number-eq0.false) in
    let within : c.in-Step.number - 1 < length c.args.earlier.now = omega (arith, c.if-before-earlier.false) in
    let is : cited c.args.document.now.field c.args.document.now.gens c.args.document.now.rels (elements_of c.args.earlier.now) c.args.item.now ≡ terms_of (get_or c.args.earlier.now (c.in-Step.number - 1) c.index-earlier-before.result).element =
    ap (rule_element c.args.document.now.field c.args.document.now.gens c.args.document.now.rels (elements_of c.args.earlier.now)) c.in-Step.is
    ∙ step_at-found c.args.earlier.now c.in-Step.number c.index-earlier-before.result positive within c.index-earlier-before.is ∙ ap (λ (s : Step). terms_of s.element) c.index-earlier-before.is in
    used-ok c.args.document.now.field c.args.document.now.gens c.args.document.now.rels (elements_of c.args.earlier.now) c.args.item.now
    (terms_of (get_or c.args.earlier.now (c.in-Step.number - 1) c.index-earlier-before.result).element) c.in_ok-expand_around-in-Step.field-0 (subst CitesElement (sym c.in-Step.is) tt) is c.in_ok-expand_around-in-Step.ensures.answer
