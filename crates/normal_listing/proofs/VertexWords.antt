-- The word of the symmetric tree of a vertex.
use Rattle.std.proofs.Common.{◌≡◌, ℕ, ◌+◌, List, [], ◌∷◌, map, refl, ap}
use mathlib.Core.List.{◌++◌}
use Rattle.labelled_trees.specs.Trees.{Tree, row}
use Rattle.labelled_trees.specs.Insertions.{item}
use Rattle.shuffle_transfer.specs.ShuffleForms.{to_symmetric_row}
use Rattle.normal_listing.specs.Words.{symbols, symbols_row}
use Rattle.normal_listing.specs.VertexWords.{joined, WordsOfVertices}

row_symbols : (f : ℕ → Tree ℕ) (w : List ℕ) → symbols_row (row (map f w)) ≡ joined (λ i. symbols (f i)) w
row_symbols f [] = refl
row_symbols f (i ∷ w) = ap (λ l. symbols (f i) ++ l) (row_symbols f w)

pub words_of_vertices : WordsOfVertices
words_of_vertices gen word l r = ap (λ m. (10 + gen l) ∷ m) (row_symbols (item (to_symmetric_row gen word r)) (word l))
