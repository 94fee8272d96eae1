use Rattle.std.proofs.Common.{◌<◌, ◌∙◌, subst, refl, arith}
use Rattle.std.specs.List.{All}
use Rattle.std.proofs.lemmas.List.{take_all}
use Rattle.std.proofs.lemmas.List.Elements.{All-more}
use Rattle.symmetric_sums.specs.declared.instance.Instance.{Instance}
use Rattle.call_rows.proofs.checking.is_checkable_step.Goals as goal

pub loop-item-preserved : goal.loop-item-preserved
loop-item-preserved c =
    let d = c.args.document.now in
    let small : c.item-item.result.coef < d.field = omega (arith, c.prime.ensures.value) in
    All-more (λ (x : Instance). x.coef < d.field) c.as_slice-item-items.result.now c.loop-item.item-index c.item-item.result c.loop-item-test.true c.loop-item.invariant (subst (λ (x : Instance). x.coef < d.field) c.item-item.is small)

pub returns : goal.returns
returns c e =
    let d = c.args.document.now in
    record {
      element = c.fits.ensures.exact.0 e;
      coefs = subst (All (λ (x : Instance). x.coef < d.field)) (take_all c.loop-item.item-index c.as_slice-item-items.result.now c.loop-item-test.false ∙ c.as_slice-item-items.ensures) c.loop-item.invariant;
    }
