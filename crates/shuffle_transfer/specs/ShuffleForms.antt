-- Shuffle forms of trees, and the way back.
use Rattle.std.specs.Prelude.{ℕ, List, [], ◌∷◌, map, nat_lt, count_by}
use Rattle.std.proofs.Common.{suc}
use Rattle.labelled_trees.specs.Trees.{Tree, Row, leaf, node, none, more, row}
use Rattle.labelled_trees.specs.Insertions.{item}
use Rattle.shuffle_insertions.specs.ShuffleTrees.{least}
use Rattle.operad_ideals.specs.Sorting.{sort_by}

-- the rank of each number, from 1, when the numbers are put in ascending order
abbrev pub ranks : List ℕ → List ℕ
ranks ks = map (λ k. suc (count_by (λ m. nat_lt m k) ks)) ks

-- `label g w` is the label of generator g with the word w.
module _ (label : ℕ → List ℕ → ℕ) where
  -- The shuffle form: from the leaves up the inputs of each vertex in ascending order of least leaves, and for its generator
  -- the label with the word of the inputs, in which the i-th number is the rank of input i by least leaves
  -- (Bremner and Dotsenko 2016, the forgetful functor from symmetric to shuffle operads).
  abbrev mutual
    pub form : Tree ℕ → Tree ℕ
    form (leaf n) = leaf n
    form (node g r) = node (label g (ranks (map least (form_row r)))) (row (sort_by least (form_row r)))

    pub form_row : Row ℕ → List (Tree ℕ)
    form_row none = []
    form_row (more t r) = form t ∷ form_row r

-- `gen l` and `word l` are the generator and the word of label l.
module _ (gen : ℕ → ℕ) (word : ℕ → List ℕ) where
  -- The way back: at each vertex the generator of its label, and for each number of the word the input with that number.
  abbrev mutual
    pub to_symmetric : Tree ℕ → Tree ℕ
    to_symmetric (leaf n) = leaf n
    to_symmetric (node l r) = node (gen l) (row (map (item (to_symmetric_row r)) (word l)))

    pub to_symmetric_row : Row ℕ → List (Tree ℕ)
    to_symmetric_row none = []
    to_symmetric_row (more t r) = to_symmetric t ∷ to_symmetric_row r
