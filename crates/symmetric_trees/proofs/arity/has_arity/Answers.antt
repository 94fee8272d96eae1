use Rattle.std.proofs.Common.{◌≡◌, arith}
use Rattle.std.proofs.lemmas.Bool.Decides.{nat_tests}
use Rattle.operad_ideals.specs.Laws.{arity}
use Rattle.symmetric_trees.specs.Generators.{parts_at}
use Rattle.symmetric_trees.proofs.Tables.{arity-held, arity-bounds, arity-past}
use Rattle.symmetric_trees.proofs.arity.has_arity.Goals as goal

pub returns-then-index-len : goal.returns-then-index-len
returns-then-index-len c =
    let held = arity-held c.args.table.now c.args.index c.get.result.now c.get.ensures.table (omega (arith, c.len.ensures.length)) c.get.ensures.found in
    let bounds = arity-bounds c.args.table.now c.args.index c.get.result.now c.get.ensures.table (omega (arith, c.len.ensures.length)) c.get.ensures.found in
    (λ t. grind (arith, nat_tests, held, bounds, t), λ h. grind (arith, nat_tests, held, h.1))

pub returns-else-index-len : goal.returns-else-index-len
returns-else-index-len c =
    let past : arity (parts_at c.args.table.now) c.args.index ≡ 0 = arity-past c.args.table.now c.args.index (omega (arith, c.len.ensures.length)) in
    (λ t. absurd (grind (arith, nat_tests, t)), λ h. absurd (omega (arith, h.0, past)))
