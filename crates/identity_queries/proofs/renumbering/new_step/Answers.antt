use Rattle.std.proofs.Common.{length, sym, subst}
use Rattle.cofactor_log.specs.Marks.{CitesWithin}
use Rattle.identity_queries.proofs.renumbering.new_step.Goals as goal

pub new_uses-requires : goal.new_uses-requires
new_uses-requires c = record { within = subst (CitesWithin (length c.args.numbers.now)) (sym c.as_slice.ensures) c.requires.within }
