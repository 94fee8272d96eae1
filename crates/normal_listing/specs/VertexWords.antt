-- The words of the symmetric trees of shuffle trees.
use Rattle.std.specs.Prelude.{ℕ, ◌+◌, ◌≡◌, List, [], ◌∷◌, ◌++◌}
use Rattle.labelled_trees.specs.Trees.{Row, node}
use Rattle.labelled_trees.specs.Insertions.{item}
use Rattle.shuffle_transfer.specs.ShuffleForms.{to_symmetric, to_symmetric_row}
use Rattle.normal_listing.specs.Words.{symbols}

-- what f gives at each number, joined
abbrev pub joined : (ℕ → List ℕ) → List ℕ → List ℕ
joined f [] = []
joined f (i ∷ w) = f i ++ joined f w

-- The word of a vertex: the symbol of its label's generator, and for each number of the label's word the word of the input with that number.
abbrev pub WordsOfVertices : Type 0
WordsOfVertices = (gen : ℕ → ℕ) (word : ℕ → List ℕ) (l : ℕ) (r : Row ℕ)
    → symbols (to_symmetric gen word (node l r)) ≡ (10 + gen l) ∷ joined (λ i. symbols (item (to_symmetric_row gen word r) i)) (word l)
