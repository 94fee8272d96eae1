use Rattle.std.proofs.Common.{◌≡◌, refl}
use Rattle.std.specs.Prelude.{true, false}
use Rattle.path_orders.proofs.LeafWords.{same_word, passed}
use Rattle.path_orders.proofs.words.holder.Goals as goal

pub returns-then-holds-clause-found : goal.returns-then-holds-clause-found
returns-then-holds-clause-found c =
    same_word c.args.number c.args.inputs.now c.loop-input.input-index c.input-item.result c.loop-input-test.true c.input-item.is c.loop-input.invariant (c.if-holds.ensures.0 refl)

pub loop-input-preserved : goal.loop-input-preserved
loop-input-preserved c =
    passed c.args.number c.args.inputs.now c.loop-input.input-index c.input-item.result c.loop-input-test.true c.input-item.is c.loop-input.invariant
    (λ o. let e : false ≡ true = c.if-holds.ensures.1 o in cc)
