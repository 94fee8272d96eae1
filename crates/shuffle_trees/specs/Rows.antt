-- Rows of the program's trees.
use Rattle.std.specs.Prelude.{ℕ, ◌≡◌, List, [], ◌∷◌, ◌++◌, map}
use Rattle.labelled_trees.specs.Trees.{Tree, Row, row}
use Rattle.labelled_trees.specs.Meaning.{tree_of}
use Rattle.labelled_trees.specs.declared.Tree as program
use Rattle.labelled_trees.specs.declared.Tree.TheVariants.{Node}
use Rattle.shuffle_insertions.specs.Listing.{joined_splits, each_with_each, rows}

-- the row that a list of trees stands for
abbrev pub row_of : List program.Tree → Row ℕ
row_of ts = row (map tree_of ts)

-- each row with the tree before it
abbrev pub rows_from : program.Tree → List (List program.Tree) → List (List program.Tree)
rows_from t rs = map (λ r. t ∷ r) rs

-- each row with each tree before it
abbrev pub each_row : List program.Tree → List (List program.Tree) → List (List program.Tree)
each_row [] rs = []
each_row (t ∷ ts) rs = rows_from t rs ++ each_row ts rs

-- a vertex over each row
abbrev pub vertices_over : ℕ → List (List program.Tree) → List program.Tree
vertices_over label rs = map (λ r. Node label r) rs

-- behind the rows that were there, the rows of one tree over some numbers and some inputs over the others,
-- for each way to divide the numbers, where the first has some numbers already and the others some
abbrev pub RowsBySplits : (List ℕ → List (Tree ℕ)) → ℕ → List ℕ → List ℕ → List ℕ
    → List (List program.Tree) → List (List program.Tree) → Type 0
RowsBySplits trees k numbers first later before after =
    map row_of after ≡ map row_of before ++ joined_splits numbers (λ b c. each_with_each (trees (first ++ b)) (rows trees k (later ++ c)))
