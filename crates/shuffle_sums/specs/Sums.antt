-- Sums of ids over a shelf.
use Rattle.std.specs.Prelude.{ℕ, ◌<◌, ◌≤◌, ◌-◌, List, map}
use Rattle.std.specs.List.{AllByRecursion}
use Rattle.std.specs.declared.cmp.Ordering.{Ordering}
use Rattle.modular_sums.specs.Sums.{AllTerms, Same, moved}
use Rattle.labelled_trees.specs.Equality.{tree_discrete}
use Rattle.labelled_trees.specs.Trees.{Tree}
use Rattle.shuffle_insertions.specs.ShuffleTrees.{IsShuffleTree}
use Rattle.shuffle_trees.specs.LabelLists.{arity_in}
use Rattle.tree_store.specs.Stores.{tree_at}
use Rattle.modular_sums.specs.Falling.{IsFalling}
use Rattle.shuffle_sums.specs.Shelves.{Shelf, HasKey}
use Rattle.shuffle_sums.specs.declared.sum.Term.{Term}

-- each term as a pair of a number and an id
abbrev pub pairs : List Term → List (ℕ × ℕ)
pairs = map (λ term. (term.coef, term.tree))

-- the sum of trees that a sum of ids stands for
abbrev pub over : Shelf → List (ℕ × ℕ) → List (ℕ × Tree ℕ)
over shelf sum = moved (tree_at shelf.trees) sum

-- A sum of ids stands in a shelf where its ids have keys there.
abbrev pub HaveKeys : Shelf → List (ℕ × ℕ) → Type 0
HaveKeys shelf sum = AllTerms sum (HasKey shelf)

-- the trees of its ids have the leaves 1 to n, and belong to the labels
abbrev pub AreTrees : Shelf → ℕ → List (ℕ × ℕ) → Type 0
AreTrees shelf n sum = AllTerms sum (λ id. IsShuffleTree (arity_in shelf.labels) n (tree_at shelf.trees id))

-- A sum of ids falls by a shelf: it stands there, its numbers are residues other than 0, and its trees belong to the labels,
-- have the leaves 1 to n for one n, and fall by the comparison.
pub record FallsBy (compare : Tree ℕ → Tree ℕ → Ordering) (p : ℕ) (shelf : Shelf) (sum : List (ℕ × ℕ)) : Type 0 where
  pub stands : HaveKeys shelf sum
  pub falling : IsFalling compare p (over shelf sum)
  pub arity : ℕ
  pub trees : AreTrees shelf arity sum

-- the same of the program's terms
abbrev pub FallsOver : (Tree ℕ → Tree ℕ → Ordering) → ℕ → Shelf → List Term → Type 0
FallsOver compare p shelf terms = FallsBy compare p shelf (pairs terms)

-- the trees of both have the leaves 1 to n for one n
abbrev pub OfOneArity : Shelf → List Term → List Term → Type 0
OfOneArity shelf ones others = (n : ℕ) × AreTrees shelf n (pairs ones) × AreTrees shelf n (pairs others)

-- the same of sums
abbrev pub OneArity : Shelf → List (ℕ × ℕ) → List (ℕ × ℕ) → Type 0
OneArity shelf one other = (n : ℕ) × AreTrees shelf n one × AreTrees shelf n other

-- the numbers are residues, and the trees belong to the shelf's labels and have the leaves 1 to n for one n that isn't too great
abbrev pub AreTerms : Shelf → ℕ → List (ℕ × Tree ℕ) → Type 0
AreTerms shelf p terms = AllByRecursion (λ x. x.0 < p) terms × ((n : ℕ) × (n ≤ shelf.most) × AllTerms terms (IsShuffleTree (arity_in shelf.labels) n))

-- A sum of ids is the falling sum of these terms: it falls by the shelf, has their coefficients, and their arity.
pub record IsSumOf (compare : Tree ℕ → Tree ℕ → Ordering) (p : ℕ) (shelf : Shelf) (terms : List (ℕ × Tree ℕ)) (sum : List (ℕ × ℕ)) : Type 0 where
  pub falls : FallsBy compare p shelf sum
  pub same : Same tree_discrete (p - 1) (over shelf sum) terms
  pub trees : (n : ℕ) → AllTerms terms (IsShuffleTree (arity_in shelf.labels) n) → AreTrees shelf n sum
