-- What the program's signs and spelled inputs mean.
use Rattle.std.specs.Prelude.{ℕ, ◌≡◌, List, map}
use Rattle.labelled_trees.specs.Meaning.{tree_of}
use Rattle.labelled_trees.specs.Trees.{Tree, node, row}
use Rattle.operad_ideals.specs.Parts.{plus, minus}
use Rattle.operad_ideals.specs.Parts as math
use Rattle.operad_ideals.specs.Spelling as spelling
use Rattle.symmetric_trees.specs.Generators.{parts_at}
use Rattle.symmetric_trees.specs.declared.generators.Generator.{Generator}
use Rattle.symmetric_trees.specs.declared.spelling.Sign.{Sign}
use Rattle.symmetric_trees.specs.declared.spelling.Sign.TheVariants.{Plus, Minus}
use Rattle.symmetric_trees.specs.declared.branch.Branch.{Branch}

abbrev pub meaning_of : Sign → math.Sign
meaning_of Plus = plus
meaning_of Minus = minus

-- u is the sorted spelling of t over the table, with this sign
abbrev pub IsSpelling : List Generator → Tree ℕ → Sign → Tree ℕ → Type 0
IsSpelling generators t sign u = spelling.IsSpelling (parts_at generators) t (meaning_of sign) u

-- it is the only one
abbrev pub IsOnlySpelling : List Generator → Tree ℕ → Sign → Tree ℕ → Type 0
IsOnlySpelling generators t sign u = (s : math.Sign) (v : Tree ℕ) → spelling.IsSpelling (parts_at generators) t s v → (s ≡ meaning_of sign) × (v ≡ u)

-- the trees of spelled inputs, and their least leaves
abbrev pub trees_of : List Branch → List (Tree ℕ)
trees_of = map (λ branch. tree_of branch.tree)

abbrev pub least_leaves : List Branch → List ℕ
least_leaves = map (λ branch. branch.least)

-- the vertex with these inputs
abbrev pub vertex_of : ℕ → List (Tree ℕ) → Tree ℕ
vertex_of generator inputs = node generator (row inputs)
