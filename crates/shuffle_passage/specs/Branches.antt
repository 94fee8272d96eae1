-- Shuffle forms with their least leaves.
use Rattle.std.specs.Prelude.{ℕ, List, map}
use Rattle.labelled_trees.specs.Trees.{Tree}
use Rattle.labelled_trees.specs.Meaning.{tree_of}
use Rattle.shuffle_passage.specs.declared.branch.Branch.{Branch}

-- the shuffle forms
abbrev pub forms_of : List Branch → List (Tree ℕ)
forms_of = map (λ branch. tree_of branch.tree)

-- their least leaves
abbrev pub least_leaves : List Branch → List ℕ
least_leaves = map (λ branch. branch.least)
