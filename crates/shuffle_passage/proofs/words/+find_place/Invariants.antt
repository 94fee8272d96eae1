use Rattle.std.proofs.Common.{◌+◌, ◌-◌, length}
use Rattle.shuffle_passage.proofs.words.+find_place.Given as goal

abbrev pub decreases-find_place : goal.decreases-find_place
decreases-find_place l = length l.bounds.now + 1 - l.from
