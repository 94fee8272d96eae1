use Rattle.std.proofs.Common.{◌*◌, ◌+◌}
use Rattle.division.proofs.kept.+tails.Given as goal

abbrev pub decreases-make_tail : goal.decreases-make_tail
decreases-make_tail l = 2 * l.host

abbrev pub decreases-keep_tail : goal.decreases-keep_tail
decreases-keep_tail l = 2 * l.tree + 1
