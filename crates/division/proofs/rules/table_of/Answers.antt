use Rattle.std.proofs.Common.{◌∙◌, ap}
use Rattle.row_sweeps.specs.Rules.{Rules}
use Rattle.division.proofs.Ruling.{rules_none}
use Rattle.division.proofs.rules.table_of.Goals as goal

pub loop-at-init : goal.loop-at-init
loop-at-init c =
    rules_none c.args.prime c.args.coefs.now c.in_ok-froms.froms.items c.args.found.now c.args.ids.now c.args.tails.now c.args.order.now c.args.ranks.now c.store_coefs.new.table
    (c.store_coefs.ensures.prime ∙ ap (λ (t : Rules). t.q) c.in_ok-table.ensures.empty) c.requires.can c.in_ok-froms.ensures.stored (c.store_coefs.ensures.rules ∙ ap (λ (t : Rules). t.rules) c.in_ok-table.ensures.empty)
