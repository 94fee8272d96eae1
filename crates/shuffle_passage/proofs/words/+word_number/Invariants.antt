use Rattle.std.proofs.Common.{length}
use Rattle.shuffle_passage.proofs.words.+word_number.Given as goal

abbrev pub decreases-word_number : goal.decreases-word_number
decreases-word_number l = length l.bounds.now
