-- Symmetric trees of shuffle trees with other leaves.
use Rattle.std.specs.Prelude.{ℕ, ◌≡◌, List}
use Rattle.labelled_trees.specs.Trees.{Tree, map_tree}
use Rattle.shuffle_transfer.specs.ShuffleForms.{to_symmetric}

-- The symmetric tree of a shuffle tree with other leaves is the symmetric tree with other leaves.
abbrev pub OtherLeaves : Type 0
OtherLeaves = (gen : ℕ → ℕ) (word : ℕ → List ℕ) (f : ℕ → ℕ) → f 0 ≡ 0 → (t : Tree ℕ) → to_symmetric gen word (map_tree f t) ≡ map_tree f (to_symmetric gen word t)
