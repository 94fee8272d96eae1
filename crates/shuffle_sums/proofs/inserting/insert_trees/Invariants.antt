use Rattle.std.proofs.Common.{take}
use Rattle.shuffle_sums.specs.Shelves.{IsShelf, KeepsShelf}
use Rattle.shuffle_sums.specs.Inserting.{AreInserted}
use Rattle.shuffle_sums.proofs.inserting.insert_trees.Given as goal

abbrev pub invariant-loop-term : goal.invariant-loop-term
invariant-loop-term l = record {
  inserted : AreInserted l.initial.shelf l.shelf l.frame (take l.term-index l.terms) l.made;
  keeps : KeepsShelf l.initial.shelf l.shelf;
  shelf : IsShelf l.shelf;
}
