-- The spelling order of trees.
use Rattle.std.specs.Prelude.{ℕ, ◌≡◌, ◌↔◌}
use Rattle.std.specs.declared.cmp.Ordering.{Ordering}
use Rattle.std.specs.declared.cmp.Ordering.TheVariants.{Less, Equal, Greater}
use Rattle.std.specs.Ordering.{nat_cmp, ordering_then, ordering_reverse}
use Rattle.labelled_trees.specs.Trees.{Tree, Row, leaf, node, none, more}

-- A leaf is before a vertex. Two leaves are compared by number, and two vertices by generator, then by their inputs
-- from left to right; inputs that end first are before those that go on.
abbrev mutual
  pub order : Tree ℕ → Tree ℕ → Ordering
  order (leaf m) (leaf n) = nat_cmp m n
  order (leaf m) (node h s) = Less
  order (node g r) (leaf n) = Greater
  order (node g r) (node h s) = ordering_then (nat_cmp g h) (order_row r s)

  pub order_row : Row ℕ → Row ℕ → Ordering
  order_row none none = Equal
  order_row none (more u s) = Less
  order_row (more t r) none = Greater
  order_row (more t r) (more u s) = ordering_then (order t u) (order_row r s)

-- The spelling order is total: no two trees are alike but equal ones, two trees are compared one way round as the other way
-- turned, and what is before a tree is before all that come after it.
pub record OrderIsTotal : Type 0 where
  pub equal : (t u : Tree ℕ) → (order t u ≡ Equal) ↔ (t ≡ u)
  pub turned : (t u : Tree ℕ) → order u t ≡ ordering_reverse (order t u)
  pub transitive : (t u v : Tree ℕ) → order t u ≡ Less → order u v ≡ Less → order t v ≡ Less
