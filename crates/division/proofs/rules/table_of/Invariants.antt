use Rattle.division.proofs.Ruling.{AreRulesSoFar}
use Rattle.division.proofs.rules.table_of.Given as goal

abbrev pub invariant-loop-at : goal.invariant-loop-at
invariant-loop-at l = AreRulesSoFar l.prime l.coefs l.froms.items l.found l.ids l.tails l.order l.ranks l.table l.at
