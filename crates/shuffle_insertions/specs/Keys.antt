-- Keys of trees, and the comparisons of keys.
use Rattle.std.specs.Prelude.{ℕ, ◌+◌, List, [], ◌∷◌, ◌++◌, length, map}
use Rattle.std.proofs.Common.{zero, suc}
use Rattle.std.specs.declared.cmp.Ordering.{Ordering}
use Rattle.std.specs.Ordering.{nat_cmp, ordering_then}
use Rattle.std.specs.Cmp.Lexicographic.{slice_cmp}
use native.Mathlib.Decide.{ℕ_discrete}
use Rattle.labelled_trees.specs.Trees.{Tree, Row, leaf, node, none, more, leaves}
use Rattle.modular_sums.specs.Lists.{choose}

-- the words of the leaves with the number i, from left to right
abbrev mutual
  pub words_at : ℕ → Tree ℕ → List (List ℕ)
  words_at i (leaf n) = choose (ℕ_discrete n i) ([] ∷ []) []
  words_at i (node l r) = map (λ w. l ∷ w) (words_at_row i r)

  pub words_at_row : ℕ → Row ℕ → List (List ℕ)
  words_at_row i none = []
  words_at_row i (more t r) = words_at i t ++ words_at_row i r

-- the words of the leaves with numbers below b, in ascending order of the numbers
abbrev pub words_below : ℕ → Tree ℕ → List (List ℕ)
words_below zero t = []
words_below (suc b) t = words_below b t ++ words_at b t

-- the sum of the weights of the vertices
abbrev mutual
  pub weight : (ℕ → ℕ) → Tree ℕ → ℕ
  weight f (leaf n) = 0
  weight f (node l r) = f l + weight_row f r

  pub weight_row : (ℕ → ℕ) → Row ℕ → ℕ
  weight_row f none = 0
  weight_row f (more t r) = weight f t + weight_row f r

-- a longer word is greater; words of one length are compared letter by letter
abbrev pub word_cmp : List ℕ → List ℕ → Ordering
word_cmp v w = ordering_then (nat_cmp (length v) (length w)) (slice_cmp nat_cmp v w)

-- the same, but a shorter word is greater
abbrev pub short_cmp : List ℕ → List ℕ → Ordering
short_cmp v w = ordering_then (nat_cmp (length w) (length v)) (slice_cmp nat_cmp v w)

-- What the orders see of a tree: the words of the leaves 1, 2 and so on, from the root to each leaf, the numbers at the leaves
-- from left to right, and the weight (Dotsenko and Khoroshkin 2010, path sequences and permutations of tree monomials).
pub record Key : Type 0 where
  pub words : List (List ℕ)
  pub row : List ℕ
  pub weight : ℕ

-- By path: the words of leaf 1 are compared, then those of leaf 2 and so on, a longer word being greater; then the leaf rows
-- (Dotsenko and Khoroshkin 2010, path-lexicographic ordering). Which of two words, letters and rows is the greater, and the names
-- of the four orders, are this project's own.
abbrev pub path : Key → Key → Ordering
path a b = ordering_then (slice_cmp word_cmp a.words b.words) (slice_cmp nat_cmp a.row b.row)

-- By short paths: the same, but a shorter word is greater (Bremner and Dotsenko 2016, reverse path-lexicographic ordering).
abbrev pub pathshort : Key → Key → Ordering
pathshort a b = ordering_then (slice_cmp short_cmp a.words b.words) (slice_cmp nat_cmp a.row b.row)

-- By leaves, then path: the leaf rows are compared first. That they come first is this project's own.
abbrev pub leafpath : Key → Key → Ordering
leafpath a b = ordering_then (slice_cmp nat_cmp a.row b.row) (slice_cmp word_cmp a.words b.words)

-- By weight, then path: a heavier tree is greater. This order is the project's own.
abbrev pub weightpath : Key → Key → Ordering
weightpath a b = ordering_then (nat_cmp a.weight b.weight) (path a b)

-- the key of a tree whose leaves are numbered from 1 to their number
abbrev pub key : (ℕ → ℕ) → Tree ℕ → Key
key f t = record { words = words_below (suc (length (leaves t))) t; row = leaves t; weight = weight f t }
