use Rattle.std.proofs.Common.{◌≡◌, map, take, drop}
use Rattle.labelled_trees.specs.Trees.{row}
use Rattle.labelled_trees.specs.Meaning.{tree_of}
use Rattle.operad_ideals.specs.Parts.{times}
use Rattle.operad_ideals.specs.Sorting as plain
use Rattle.symmetric_trees.specs.Generators.{parts_at, generators_of}
use Rattle.symmetric_trees.specs.Spelling.{meaning_of}
use Rattle.shuffle_transfer.specs.Labels.{shuffle_form}
use Rattle.shuffle_passage.specs.Branches.{forms_of, least_leaves}
use Rattle.shuffle_passage.proofs.forming.+form.Given as goal

abbrev pub decreases-form : goal.decreases-form
decreases-form l = goal.size-form l

abbrev pub invariant-loop-input : goal.invariant-loop-input
invariant-loop-input l = record {
  trees : forms_of l.branches.items ≡ map (λ t. shuffle_form (generators_of l.table) (tree_of t)) (take l.input-index l.input-items);
  keys : l.word.items ≡ least_leaves l.branches.items;
  sign : times (meaning_of l.sign) (plain.spelled_sign_row (parts_at l.table) (row (map tree_of (drop l.input-index l.input-items))))
      ≡ plain.spelled_sign_row (parts_at l.table) (row (map tree_of l.input-items));
}
