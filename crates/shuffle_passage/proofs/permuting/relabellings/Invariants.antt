use Rattle.std.proofs.Common.{◌≡◌, ◌++◌, map}
use Rattle.std.specs.List.{All, AllByRecursion}
use Rattle.itertools.specs.Pool.{permutation_left}
use Rattle.shuffle_insertions.specs.Listing.{upto}
use Rattle.shuffle_transfer.specs.Orderings.{orderings}
use Rattle.shuffle_passage.specs.Words.{chosen}
use Rattle.shuffle_passage.specs.RelabelledSums.{IsRelabelledSum}
use Rattle.shuffle_passage.proofs.PermutedLists.{AreChoices}
use Rattle.shuffle_passage.proofs.permuting.relabellings.Given as goal

abbrev pub invariant-loop-permutation : goal.invariant-loop-permutation
invariant-loop-permutation l = record {
  can : (goal.iterator-loop-permutation).can_next l.permutation-iterator;
  finite : (goal.iterator-loop-permutation).is_finite l.permutation-iterator;
  pool : l.permutation-iterator.pool.items ≡ upto l.arity;
  choices : AllByRecursion (AreChoices l.arity) (permutation_left l.permutation-iterator);
  order : map (λ answer. answer.permutation) l.found ++ map (chosen 0 (upto l.arity)) (permutation_left l.permutation-iterator) ≡ orderings l.arity;
  sums : All (λ answer. IsRelabelledSum l.fn.field l.table l.rel answer.permutation answer.sum) l.found;
}
