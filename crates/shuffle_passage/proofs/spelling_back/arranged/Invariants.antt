use Rattle.std.proofs.Common.{◌≡◌, ◌++◌, ◌≤◌, ◌<◌, length}
use Rattle.labelled_trees.specs.declared.Tree.TheVariants.{Leaf}
use Rattle.shuffle_passage.specs.Words.{chosen, digits_of, endings}
use Rattle.shuffle_passage.proofs.spelling_back.arranged.Given as goal

abbrev pub invariant-loop-left : goal.invariant-loop-left
invariant-loop-left l = record {
  order : l.made ++ chosen (Leaf 0) l.rest (digits_of l.left l.below l.over) ≡ chosen (Leaf 0) l.fn.inputs (digits_of l.bounds 0 l.number);
  few : length l.left ≤ 6;
  same : length l.rest ≡ length l.left;
  held : l.over < endings l.left l.below;
}

abbrev pub decreases-loop-left : goal.decreases-loop-left
decreases-loop-left l = length l.left
