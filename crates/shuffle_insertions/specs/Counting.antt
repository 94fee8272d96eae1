-- The numbers of shuffle trees.
use Rattle.std.specs.Prelude.{ℕ, ◌≤◌, ◌+◌, ◌-◌, ◌*◌}
use Rattle.std.proofs.Common.{zero, suc}
use Rattle.labelled_trees.specs.RangeSums.{range_sum}

-- the binomial coefficient: in how many ways k of n things are chosen
abbrev pub binomial : ℕ → ℕ → ℕ
binomial zero zero = 1
binomial zero (suc k) = 0
binomial (suc n) zero = 1
binomial (suc n) (suc k) = binomial n k + binomial n (suc k)

-- n!: the product of 1 to n
abbrev pub factorial : ℕ → ℕ
factorial zero = 1
factorial (suc n) = suc n * factorial n

-- the number of rows of k inputs over n leaves, where f tells the number of trees over so many leaves: the first input
-- has the least leaf and some j of the others
abbrev pub row_count : (ℕ → ℕ) → ℕ → ℕ → ℕ
row_count f zero zero = 1
row_count f zero (suc n) = 0
row_count f (suc k) zero = 0
row_count f (suc k) (suc n) = range_sum (suc n) (λ j. binomial n j * (f (suc j) * row_count f k (n - j)))

-- the number of trees that are a leaf alone: one over one leaf
abbrev pub lone_count : ℕ → ℕ
lone_count zero = 0
lone_count (suc zero) = 1
lone_count (suc (suc n)) = 0

-- the number of shuffle trees of at most so many levels over n leaves
abbrev pub tree_count : ℕ → (ℕ → ℕ) → ℕ → ℕ → ℕ
tree_count labels arity zero n = 0
tree_count labels arity (suc levels) n = lone_count n + range_sum labels (λ g. row_count (tree_count labels arity levels) (arity g) n)

-- The number of shuffle trees of arity n over labels with these arities.
abbrev pub trees : ℕ → (ℕ → ℕ) → ℕ → ℕ
trees labels arity n = tree_count labels arity n n

-- the limit on the shuffle trees of one arity: where there are more, nothing is computed
abbrev pub most_trees : ℕ
most_trees = 2100000

-- no arity up to N has more trees
abbrev pub HaveFewTrees : ℕ → (ℕ → ℕ) → ℕ → Type 0
HaveFewTrees labels arity N = (n : ℕ) → 1 ≤ n → n ≤ N → trees labels arity n ≤ most_trees
