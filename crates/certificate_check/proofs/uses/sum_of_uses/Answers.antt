use Rattle.std.proofs.Common.{◌≡◌, ◌∙◌, ◌+◌, ℕ, Some, ap, sym, subst, take, drop}
use Rattle.std.proofs.lemmas.List.{take_all}
use Rattle.symmetric_sums.proofs.Expansions.{err_is, same_if_some, same_if_none}
use Rattle.certificate_check.specs.Blocks.{elements_of}
use Rattle.symmetric_sums.specs.Uses.{AreGoodUses, sum_of}
use Rattle.certificate_check.specs.Checking.{AreUsed}
use Rattle.certificate_check.proofs.GoodUses.{so_far-good, so_far-arity, so_far-step, bad-use, bad-arity, split-at, taken}
use Rattle.certificate_check.proofs.uses.sum_of_uses.Goals.{in-Some+else-others-expanded, in_default}
use Rattle.certificate_check.proofs.uses.sum_of_uses.Goals as goal

pub returns-in_err-expanded-clause-used : goal.returns-in_err-expanded-clause-used
returns-in_err-expanded-clause-used c =
    let d = c.args.document.now in
    let uses = c.args.uses.now in
    let i = c.loop-item.item-index in
    subst (AreUsed d.field d.gens d.rels (elements_of c.args.earlier.now) uses) (sym (err_is c.from_residual.result c.in_err-expanded.field-0.0 c.from_residual.ensures.0 c.from_residual.ensures.1))
    (bad-use d.field d.gens d.rels (elements_of c.args.earlier.now) uses (take i uses) (drop (i + 1) uses) c.loop-item.sum c.loop-item.arity c.item-item.result c.in_err-expanded.field-0.0
    (split-at uses i c.item-item.result c.loop-item-test.true c.item-item.is) c.loop-item.invariant c.in_err-expanded.ensures.used)

pub returns-then-others-expanded-clause-used : goal.returns-then-others-expanded-clause-used
returns-then-others-expanded-clause-used c =
    let d = c.args.document.now in
    let uses = c.args.uses.now in
    let i = c.loop-item.item-index in
    bad-arity d.field d.gens d.rels (elements_of c.args.earlier.now) uses (take i uses) (drop (i + 1) uses) c.loop-item.sum c.loop-item.arity c.in-Some.others c.in_ok-expanded.expanded.arity c.item-item.result
    (split-at uses i c.item-item.result c.loop-item-test.true c.item-item.is) c.loop-item.invariant c.in-Some.is c.if-others-expanded.true c.in_ok-expanded.ensures.used.0

pub followed_by-requires : goal.followed_by-requires
followed_by-requires c =
    let d = c.args.document.now in
    let own = c.in_ok-expanded.expanded.arity in
    let same : (m : ℕ) → c.loop-item.arity ≡ Some m → m ≡ own = elim c.match-arity.branch [
      | in-Some+else-others-expanded w ↦ same_if_some c.loop-item.arity w.in-Some.others own w.in-Some.is w.if-others-expanded.false
      | in_default w ↦ same_if_none c.loop-item.arity own w.in_default.is
    ] in
    record { arity = (own, so_far-arity d.field d.gens d.rels (elements_of c.args.earlier.now) (take c.loop-item.item-index c.args.uses.now) c.loop-item.sum c.loop-item.arity own c.loop-item.invariant same, c.in_ok-expanded.ensures.arity) }

pub loop-item-preserved : goal.loop-item-preserved
loop-item-preserved c =
    let d = c.args.document.now in
    let uses = c.args.uses.now in
    let i = c.loop-item.item-index in
    let own = c.in_ok-expanded.expanded.arity in
    let same : (m : ℕ) → c.loop-item.arity ≡ Some m → m ≡ own = elim c.match-arity.branch [
      | in-Some+else-others-expanded w ↦ same_if_some c.loop-item.arity w.in-Some.others own w.in-Some.is w.if-others-expanded.false
      | in_default w ↦ same_if_none c.loop-item.arity own w.in_default.is
    ] in
    so_far-step d.field d.gens d.rels (elements_of c.args.earlier.now) (take i uses) (take (i + 1) uses) c.loop-item.sum c.in_ok-expanded.expanded.sum c.in_ok-sum.sum c.loop-item.arity own c.item-item.result
    (taken uses i c.item-item.result c.loop-item-test.true c.item-item.is) c.loop-item.invariant same c.in_ok-expanded.ensures.used.0 c.in_ok-expanded.ensures.used.1 c.in_ok-expanded.ensures.fits c.in_ok-expanded.ensures.arity c.in_ok-sum.ensures.terms

pub returns-clause-used : goal.returns-clause-used
returns-clause-used c =
    let d = c.args.document.now in
    let all = take_all c.loop-item.item-index c.args.uses.now c.loop-item-test.false in (
      subst (AreGoodUses d.field d.gens d.rels (elements_of c.args.earlier.now)) all (so_far-good d.field d.gens d.rels (elements_of c.args.earlier.now) (take c.loop-item.item-index c.args.uses.now) c.loop-item.sum c.loop-item.arity c.loop-item.invariant),
      c.loop-item.invariant.sum_is ∙ ap (sum_of d.field d.gens d.rels (elements_of c.args.earlier.now)) all,
    )
