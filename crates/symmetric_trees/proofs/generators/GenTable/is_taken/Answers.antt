use Rattle.std.proofs.Common.{refl}
use Rattle.symmetric_trees.proofs.Tables.{taken-at}
use Rattle.symmetric_trees.proofs.generators.GenTable.is_taken.Goals as goal

pub returns-in-Some : goal.returns-in-Some
returns-in-Some c = (λ _. taken-at c.args.self.now c.args.name.now c.in-Some.field-0 c.in-Some.ensures.found.0 c.in-Some.ensures.found.1, λ _. refl)
