use Rattle.std.proofs.Common.{refl}
use Rattle.std.specs.Ordering.{nat_cmp}
use Rattle.normal_listing.specs.Places.{number_of}
use Rattle.normal_listing.proofs.SortedTrees.{sorts}
use Rattle.normal_listing.proofs.sorting.sort_words.Goals as goal

pub returns : goal.returns
returns c = record {
  sorted = λ arity ts few h e.
      sorts arity few (λ a b. nat_cmp (number_of a) (number_of b)) (λ a b. refl) ts c.args.words.now.items c.sort_unstable.new.self.items h e c.sort_unstable.ensures.permutation c.sort_unstable.ensures.sorted;
}
