-- The ideal is closed under composition.
use Rattle.std.specs.Prelude.{ℕ, List}
use Rattle.modular_sums.specs.Sums.{moved}
use Rattle.labelled_trees.specs.Trees.{Tree}
use Rattle.labelled_trees.specs.Labelled.{IsLabelled}
use Rattle.labelled_trees.specs.Insertions.{IsContext}
use Rattle.operad_ideals.specs.Presentations.{Presentation, arity_of, IsSound}
use Rattle.operad_ideals.specs.Ideals.{placed, InIdeal}

-- Where all trees of one arity, placed in a context with trees on their leaves, are labelled, the elements of the ideal of that
-- arity have their placed trees in the ideal: it is closed under composition from both sides.
abbrev pub CompositesInIdeal : Type 0
CompositesInIdeal = (p : Presentation) (m n : ℕ) (context : Tree ℕ) (inputs : List (Tree ℕ)) (e : List (ℕ × Tree ℕ)) → IsSound p → IsContext context
    → ((x : Tree ℕ) → IsLabelled (arity_of p) m x → IsLabelled (arity_of p) n (placed context inputs x))
    → InIdeal p m e → InIdeal p n (moved (placed context inputs) e)
