use Rattle.std.proofs.Common.{sym, subst}
use Rattle.symmetric_trees.specs.Generators.{IsTable, MayBeAdded}
use Rattle.symmetric_trees.proofs.Tables.{table-push}
use Rattle.symmetric_trees.proofs.generators.GenTable.add.Goals as goal
use Rattle.symmetric_trees.proofs.generators.GenTable.add.Goals.{in-Ok, in-Err}

pub invariant_of-self : goal.invariant_of-self
invariant_of-self c =
    elim c.match-push.branch [
      | in-Ok w ↦ subst IsTable (sym w.in-Ok.ensures.ok) (table-push c.self.inside.generators c.args.generator c.self.invariant (subst (λ old. MayBeAdded old c.args.generator) (sym c.self.view_is) c.in_default.ensures))
      | in-Err w ↦ subst IsTable (sym w.in-Err.ensures.err) c.self.invariant
    ]
