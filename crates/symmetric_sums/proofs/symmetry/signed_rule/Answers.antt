use Rattle.std.proofs.Common.{◌∙◌, ◌++◌, ◌∷◌, [], ◌≡◌, ap, sym, subst, arith, Some, refl}
use Rattle.symmetric_trees.specs.Spelling.{meaning_of}
use Rattle.symmetric_trees.proofs.Tables.{held_if_wide, arity-held, arity-bounds}
use Rattle.symmetric_sums.specs.Terms.{IsSum, FitsOver, terms_of}
use Rattle.symmetric_sums.specs.declared.term.Term.{Term}
use Rattle.symmetric_sums.proofs.SymmetryRules.{rule_sign-within, AreRuleTerms, rule-made, rule-sum, rule-terms, rule-fits}
use Rattle.symmetric_sums.proofs.symmetry.signed_rule.Goals.{In_ok-push-2}
use Rattle.symmetric_sums.proofs.symmetry.signed_rule.Goals as goal

pub get-requires : goal.get-requires
get-requires c =
    let w = rule_sign-within c.args.table.now c.args.generator c.args.input (meaning_of c.args.sign) c.requires.sign in
    record { held = held_if_wide c.args.table.now c.args.generator (omega (arith, w.0, w.1)) }

pub overflow_add-input : goal.overflow_add-input
overflow_add-input c =
    let w = rule_sign-within c.args.table.now c.args.generator c.args.input (meaning_of c.args.sign) c.requires.sign in
    let held = held_if_wide c.args.table.now c.args.generator (omega (arith, w.0, w.1)) in
    let same = arity-held c.args.table.now c.args.generator c.get.result.now c.get.ensures.table held c.get.ensures.found in
    let low = arity-bounds c.args.table.now c.args.generator c.get.result.now c.get.ensures.table held c.get.ensures.found in
    omega (arith, w.1, same, low.1)

-- the two terms that were pushed
made : (c : In_ok-push-2) → AreRuleTerms c.args.table.now c.args.generator c.args.input c.get.result.now.arity record { coef = 1; tree = c.in_ok-vertex.field-0 } record { coef = c.opposite.result; tree = c.in_ok-vertex-2.field-0 }
made c =
    let w = rule_sign-within c.args.table.now c.args.generator c.args.input (meaning_of c.args.sign) c.requires.sign in
    let held = held_if_wide c.args.table.now c.args.generator (omega (arith, w.0, w.1)) in
    let same = arity-held c.args.table.now c.args.generator c.get.result.now c.get.ensures.table held c.get.ensures.found in
    rule-made c.args.table.now c.args.generator c.args.input c.get.result.now.arity (meaning_of c.args.sign) record { coef = 1; tree = c.in_ok-vertex.field-0 } record { coef = c.opposite.result; tree = c.in_ok-vertex-2.field-0 }
    c.requires.sign same c.in_ok-vertex.ensures c.in_ok-vertex-2.ensures (omega arith) c.opposite.ensures.positive

-- nothing else was pushed
both : (c : In_ok-push-2) → c.push-2.new.self ≡ record { coef = 1; tree = c.in_ok-vertex.field-0 } ∷ (record { coef = c.opposite.result; tree = c.in_ok-vertex-2.field-0 } ∷ [])
both c =
    let one : Term = record { coef = 1; tree = c.in_ok-vertex.field-0 } in
    let other : Term = record { coef = c.opposite.result; tree = c.in_ok-vertex-2.field-0 } in
    c.in_ok-push-2.ensures.ok ∙ ap (λ xs. xs ++ other ∷ []) (c.in_ok-push.ensures.ok ∙ ap (λ xs. xs ++ one ∷ []) c.new-terms.ensures)

pub of_terms-requires : goal.of_terms-requires
of_terms-requires c = record {
  sum = subst (λ xs. IsSum xs (Some c.get.result.now.arity)) (sym (both c)) (rule-sum c.args.table.now c.args.generator c.args.input c.get.result.now.arity _ _ (made c));
}

pub returns-clause-terms : goal.returns-clause-terms
returns-clause-terms c =
    let step = (goal.at.returns-clause-terms c).In_ok-push-2 in
    ap terms_of (c.of_terms.ensures.terms ∙ both step)
    ∙ rule-terms c.args.field c.args.table.now c.args.generator c.args.input c.get.result.now.arity (meaning_of c.args.sign) _ _ (made step) refl c.opposite.ensures.residue

pub returns-clause-fits : goal.returns-clause-fits
returns-clause-fits c =
    let step = (goal.at.returns-clause-fits c).In_ok-push-2 in
    subst (FitsOver c.args.field c.args.table.now) (sym (c.of_terms.ensures.terms ∙ both step))
    (rule-fits c.args.field c.args.table.now c.args.generator c.args.input c.get.result.now.arity _ _ (made step) (omega (arith, c.opposite.ensures.positive, c.opposite.ensures.below)) c.opposite.ensures.below)
