use Rattle.std.proofs.Common.{◌≡◌, map, take, drop}
use Rattle.labelled_trees.specs.Trees.{row}
use Rattle.labelled_trees.specs.Meaning.{tree_of}
use Rattle.operad_ideals.specs.Parts.{times}
use Rattle.operad_ideals.specs.Sorting as plain
use Rattle.symmetric_trees.specs.Generators.{parts_at}
use Rattle.symmetric_trees.specs.Spelling.{meaning_of, trees_of}
use Rattle.symmetric_trees.proofs.spelling.+spell.Given as goal

abbrev pub decreases-spell : goal.decreases-spell
decreases-spell l = goal.size-spell l

abbrev pub invariant-loop-input : goal.invariant-loop-input
invariant-loop-input l = record {
  trees : trees_of l.branches.items ≡ map (λ t. plain.spelled (parts_at l.table) (tree_of t)) (take l.input-index l.input-items);
  sign : times (meaning_of l.sign) (plain.spelled_sign_row (parts_at l.table) (row (map tree_of (drop l.input-index l.input-items))))
      ≡ plain.spelled_sign_row (parts_at l.table) (row (map tree_of l.input-items));
}
