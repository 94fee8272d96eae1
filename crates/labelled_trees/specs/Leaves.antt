-- Sums and facts over the leaves of a tree.
use Rattle.std.specs.Prelude.{ℕ, ◌+◌, List, [], ◌∷◌}
use native.Mathlib.Decide.{ℕ_discrete}
use Rattle.labelled_trees.specs.Trees.{Tree, Row, leaf, node, none, more}
use Rattle.modular_sums.specs.Lists.{choose}

-- the sum of f over the leaves
abbrev mutual
  pub sum_leaves : {A : Type 0} → Tree A → (A → ℕ) → ℕ
  sum_leaves (leaf a) f = f a
  sum_leaves (node l r) f = sum_row r f

  pub sum_row : {A : Type 0} → Row A → (A → ℕ) → ℕ
  sum_row none f = 0
  sum_row (more t r) f = sum_leaves t f + sum_row r f

-- P holds of the value at each leaf
abbrev mutual
  pub AllLeaves : {A : Type 0} → Tree A → (A → Type 0) → Type 0
  AllLeaves (leaf a) P = P a
  AllLeaves (node l r) P = AllRow r P

  pub AllRow : {A : Type 0} → Row A → (A → Type 0) → Type 0
  AllRow none P = Unit {0}
  AllRow (more t r) P = AllLeaves t P × AllRow r P

-- 1 where a decided fact holds, else 0
abbrev pub one_if : {A : Type 0} → Dec A → ℕ
one_if d = choose d 1 0

-- how often a thing stands in a list
abbrev pub times : {X : Type 0} → Discrete X → X → List X → ℕ
times dec x [] = 0
times dec x (y ∷ l) = one_if (dec y x) + times dec x l

-- how often a number stands at a leaf
abbrev pub occurs : ℕ → Tree ℕ → ℕ
occurs i t = sum_leaves t (λ n. one_if (ℕ_discrete n i))

-- the same among the inputs of a row
abbrev pub occurs_row : ℕ → Row ℕ → ℕ
occurs_row i r = sum_row r (λ n. one_if (ℕ_discrete n i))

-- how many leaves there are
abbrev pub leaf_count : {A : Type 0} → Tree A → ℕ
leaf_count t = sum_leaves t (λ a. 1)

-- the same among the inputs of a row
abbrev pub leaf_count_row : {A : Type 0} → Row A → ℕ
leaf_count_row r = sum_row r (λ a. 1)
