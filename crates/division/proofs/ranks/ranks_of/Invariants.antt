use Rattle.division.proofs.Ranking.{AreRanksSoFar}
use Rattle.division.proofs.ranks.ranks_of.Given as goal

abbrev pub invariant-loop-position : goal.invariant-loop-position
invariant-loop-position l = AreRanksSoFar l.order l.ranks.items l.count l.position
