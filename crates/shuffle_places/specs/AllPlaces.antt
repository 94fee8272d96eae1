-- The list of the places with a given divisor.
use Rattle.std.specs.Prelude.{ℕ, ◌+◌, List, [], ◌∷◌, ◌++◌, map}
use Rattle.std.proofs.Common.{suc}
use native.Mathlib.Decide.{ℕ_discrete}
use Rattle.labelled_trees.specs.Trees.{Tree, Row, leaf, node, none, more, vertices}
use Rattle.shuffle_insertions.specs.Listing.{each_with_each}
use Rattle.shuffle_places.specs.Cuts.{numbers}
use Rattle.shuffle_places.specs.Places.{divisor_of}
use Rattle.labelled_trees.specs.Equality.{tree_discrete}
use Rattle.modular_sums.specs.Lists.{choose}

-- the vertices of p laid on the tree from its root on, with what hangs below them: one pattern or none
abbrev mutual
  pub lay : {X : Type 0} → Tree X → Tree ℕ → List (Tree (Tree ℕ))
  lay (leaf x) t = leaf t ∷ []
  lay (node l r) (leaf n) = []
  lay (node l r) (node m s) = choose (ℕ_discrete l m) (map (λ q. node m q) (lay_row r s)) []

  pub lay_row : {X : Type 0} → Row X → Row ℕ → List (Row (Tree ℕ))
  lay_row none none = none ∷ []
  lay_row none (more u s) = []
  lay_row (more t r) none = []
  lay_row (more t r) (more u s) = each_with_each (lay t u) (lay_row r s)

-- the vertex numbers of those with the divisor a, where the root has number k
abbrev pub with_divisor : Tree ℕ → ℕ → List (Tree (Tree ℕ)) → List (List ℕ)
with_divisor a k [] = []
with_divisor a k (q ∷ l) = choose (tree_discrete (divisor_of q) a) (numbers (λ v. v) k q ∷ []) [] ++ with_divisor a k l

-- The places with divisor a in a tree whose root has number k, as sets of vertices, by their top vertices in preorder.
abbrev mutual
  pub places : Tree ℕ → ℕ → Tree ℕ → List (List ℕ)
  places a k (leaf n) = []
  places a k (node l r) = with_divisor a k (lay a (node l r)) ++ places_row a (suc k) r

  pub places_row : Tree ℕ → ℕ → Row ℕ → List (List ℕ)
  places_row a k none = []
  places_row a k (more t r) = places a k t ++ places_row a (k + vertices t) r
