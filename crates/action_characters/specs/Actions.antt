-- Permutations that act on labelled trees. The action on elements is `relabelled`.
use Rattle.std.specs.Prelude.{ℕ, ◌≡◌, ◌<◌, ◌≤◌, List}
use Rattle.labelled_trees.specs.Trees.{Tree, leaf, graft}
use Rattle.shuffle_transfer.specs.Orderings.{entry}

-- The tree in which leaf i became its image, the i-th number of the permutation
-- (Bremner and Dotsenko 2016, the action of the symmetric group on tree monomials).
abbrev pub acted : List ℕ → Tree ℕ → Tree ℕ
acted w t = graft t (λ i. leaf (entry w i))

-- x is v after w after the inverse of v: it sends the image of i under v to the image under v of the image of i under w
-- (conjugate permutations).
abbrev pub IsConjugateBy : ℕ → List ℕ → List ℕ → List ℕ → Type 0
IsConjugateBy n v w x = (i : ℕ) → 0 < i → i ≤ n → entry x (entry v i) ≡ entry v (entry w i)
