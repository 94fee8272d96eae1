-- A shuffle tree has one arity.
use Rattle.std.proofs.Common.{◌≡◌, ℕ}
use Rattle.labelled_trees.specs.Trees.{Tree}
use Rattle.labelled_trees.proofs.Numbered.{one_number}
use Rattle.shuffle_insertions.specs.ShuffleTrees.{IsShuffle}
use Rattle.shuffle_insertions.proofs.LabelSums.{numbered_of_shuffle}

pub one_size : (m k : ℕ) (t : Tree ℕ) → IsShuffle m t → IsShuffle k t → m ≡ k
one_size m k t h g = one_number m k t (numbered_of_shuffle h) (numbered_of_shuffle g)
