use Rattle.std.proofs.Common.{ℕ, List, Option, Some, None}
use Rattle.std.specs.Prelude.{IfNone}
use Rattle.labelled_trees.specs.Labelled.{IsNumbered}
use Rattle.labelled_trees.specs.Meaning.{tree_of}
use Rattle.labelled_trees.specs.Trees.{Tree}
use Rattle.labelled_trees.proofs.Numbered.{numbered_of_labelled}
use Rattle.symmetric_trees.specs.Trees.{IsLabelled}
use Rattle.symmetric_trees.specs.declared.generators.Generator.{Generator}
use Rattle.symmetric_trees.proofs.arity.arity_of.Goals as goal

unlabelled : (table : List Generator) (t : Tree ℕ) (found : Option ℕ) → IfNone found ((n : ℕ) → IsNumbered n t → ⊥) → IfNone found ((n : ℕ) → IsLabelled table n t → ⊥)
unlabelled table t None none = λ n h. none n (numbered_of_labelled h)
unlabelled table t (Some n) none = none

pub returns-clause-none : goal.returns-clause-none
returns-clause-none c = unlabelled c.args.table.now (tree_of c.args.tree.now) c.numbered.result c.numbered.ensures.none
