use Rattle.std.proofs.Common.{◌≡◌, map}
use Rattle.std.specs.List.{AllByRecursion}
use Rattle.shuffle_trees.specs.ValidTrees.{IsValid}
use Rattle.labelled_trees.specs.Meaning.{tree_of}
use Rattle.shuffle_trees.proofs.listing.as_trees.Given as goal

abbrev pub invariant-loop-shape : goal.invariant-loop-shape
invariant-loop-shape l = record {
  trees : l.trees ≡ map tree_of l.yielded;
  valid : AllByRecursion IsValid (map tree_of l.shape-iterator.rest.items);
}
