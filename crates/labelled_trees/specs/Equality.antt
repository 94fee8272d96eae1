-- Two trees are one or not.
use Rattle.std.specs.Prelude.{ℕ, ◌≡◌}
use Rattle.std.proofs.Common.{refl, ap}
use mathlib.Core.Path.{ap₂}
use native.Mathlib.Decide.{ℕ_discrete}
use Rattle.labelled_trees.specs.Trees.{Tree, Row, leaf, node, none, more}

-- leaves are one where their values are
unfoldable pub same_leaf : {A : Type 0} (m n : A) → Dec (m ≡ n) → Dec (leaf m ≡ leaf n)
same_leaf m n (yes e) = yes (ap leaf e)
same_leaf m n (no f) = no (λ e. f (cc e))

-- vertices are one where their numbers and inputs are
unfoldable pub same_node : {A : Type 0} (l m : ℕ) (r s : Row A) → Dec (l ≡ m) → Dec (r ≡ s) → Dec (node l r ≡ node m s)
same_node l m r s (yes e) (yes f) = yes (ap₂ node e f)
same_node l m r s (no e) d = no (λ p. e (cc p))
same_node l m r s (yes e) (no f) = no (λ p. f (cc p))

-- rows are one where their first inputs and the others are
unfoldable pub same_more : {A : Type 0} (t u : Tree A) (r s : Row A) → Dec (t ≡ u) → Dec (r ≡ s) → Dec (more t r ≡ more u s)
same_more t u r s (yes e) (yes f) = yes (ap₂ more e f)
same_more t u r s (no e) d = no (λ p. e (cc p))
same_more t u r s (yes e) (no f) = no (λ p. f (cc p))

-- where the values at the leaves can be compared, trees and rows can
unfoldable mutual
  unfolding same_leaf same_node same_more

  pub tree_discrete_by : {A : Type 0} → Discrete A → (t u : Tree A) → Dec (t ≡ u)
  tree_discrete_by dec (leaf m) (leaf n) = same_leaf m n (dec m n)
  tree_discrete_by dec (leaf m) (node l r) = no (λ e. cc e)
  tree_discrete_by dec (node l r) (leaf m) = no (λ e. cc e)
  tree_discrete_by dec (node l r) (node m s) = same_node l m r s (ℕ_discrete l m) (row_discrete_by dec r s)

  pub row_discrete_by : {A : Type 0} → Discrete A → (r s : Row A) → Dec (r ≡ s)
  row_discrete_by dec none none = yes refl
  row_discrete_by dec none (more t r) = no (λ e. cc e)
  row_discrete_by dec (more t r) none = no (λ e. cc e)
  row_discrete_by dec (more t r) (more u s) = same_more t u r s (tree_discrete_by dec t u) (row_discrete_by dec r s)

-- whether two numbered trees are one
unfoldable pub tree_discrete : (t u : Tree ℕ) → Dec (t ≡ u)
unfolding tree_discrete_by
tree_discrete = tree_discrete_by ℕ_discrete

-- whether two rows of numbered trees are one
unfoldable pub row_discrete : (r s : Row ℕ) → Dec (r ≡ s)
unfolding row_discrete_by
row_discrete = row_discrete_by ℕ_discrete
