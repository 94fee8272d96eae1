-- The spelling order is total.
use Rattle.std.proofs.Common.{◌≡◌, ℕ, ◌<◌, ◌≤◌, List, length, map, drop, refl, sym, ap, ap₂, ◌∙◌, subst, drop-cons, drop_of_length-le}
use Rattle.std.specs.declared.cmp.Ordering.{Ordering}
use Rattle.std.specs.declared.cmp.Ordering.TheVariants.{Less, Equal, Greater}
use Rattle.std.specs.Ordering.{nat_cmp, ordering_then, ordering_reverse}
use Rattle.std.specs.Cmp.{IsTotalOrder, nat_cmp_total, nat_cmp_is}
use Rattle.labelled_trees.specs.Trees.{Tree, Row, leaf, node, none, more, row}
use Rattle.labelled_trees.specs.Meaning.{tree_of}
use Rattle.labelled_trees.specs.declared.Tree as program
use Rattle.labelled_trees.specs.declared.Tree.TheVariants.{Leaf, Node}
use Rattle.std.proofs.lemmas.Map.Lookups.{exact_unsigned}
use Rattle.labelled_trees.proofs.Orderings.{then_equal}
use Rattle.labelled_trees.proofs.ProgramTrees.{tree_of-node}
use Rattle.operad_ideals.specs.SpellingOrder.{order, order_row, OrderIsTotal}

nat_cmp-self : (m : ℕ) → nat_cmp m m ≡ Equal
nat_cmp-self m = sym (nat_cmp_is m m Equal refl)

then-turned : (a b c d : Ordering) → a ≡ ordering_reverse c → b ≡ ordering_reverse d → ordering_then a b ≡ ordering_reverse (ordering_then c d)
then-turned a b Less d e f = ap (λ x. ordering_then x b) e
then-turned a b Equal d e f = ap (λ x. ordering_then x b) e ∙ f
then-turned a b Greater d e f = ap (λ x. ordering_then x b) e

-- what is compared in two steps, where the first steps and the second steps are transitive
then-less : (a b c x y z : Ordering) → (a ≡ Less → b ≡ Less → c ≡ Less) → (a ≡ Equal → c ≡ b) → (b ≡ Equal → c ≡ a)
    → (x ≡ Less → y ≡ Less → z ≡ Less) → ordering_then a x ≡ Less → ordering_then b y ≡ Less → ordering_then c z ≡ Less
then-less Less Less c x y z ll el le others e f = ap (λ o. ordering_then o z) (ll refl refl)
then-less Less Equal c x y z ll el le others e f = ap (λ o. ordering_then o z) (le refl)
then-less Less Greater c x y z ll el le others e f = absurd cc
then-less Equal Less c x y z ll el le others e f = ap (λ o. ordering_then o z) (el refl)
then-less Equal Equal c x y z ll el le others e f = ap (λ o. ordering_then o z) (el refl) ∙ others e f
then-less Equal Greater c x y z ll el le others e f = absurd cc
then-less Greater b c x y z ll el le others e f = absurd cc

mutual
  order-equal : (t u : Tree ℕ) → order t u ≡ Equal → t ≡ u
  order-equal (leaf m) (leaf n) e = ap leaf (exact_unsigned m n e)
  order-equal (leaf m) (node h s) e = absurd cc
  order-equal (node g r) (leaf n) e = absurd cc
  order-equal (node g r) (node h s) e = let k : (nat_cmp g h ≡ Equal) × (order_row r s ≡ Equal) = then_equal (nat_cmp g h) (order_row r s) e in
      ap₂ node (exact_unsigned g h k.0) (order_row-equal r s k.1)

  order_row-equal : (r s : Row ℕ) → order_row r s ≡ Equal → r ≡ s
  order_row-equal none none e = refl
  order_row-equal none (more u s) e = absurd cc
  order_row-equal (more t r) none e = absurd cc
  order_row-equal (more t r) (more u s) e = let k : (order t u ≡ Equal) × (order_row r s ≡ Equal) = then_equal (order t u) (order_row r s) e in
      ap₂ more (order-equal t u k.0) (order_row-equal r s k.1)

mutual
  order-self : (t : Tree ℕ) → order t t ≡ Equal
  order-self (leaf m) = nat_cmp-self m
  order-self (node g r) = ap₂ ordering_then (nat_cmp-self g) (order_row-self r)

  order_row-self : (r : Row ℕ) → order_row r r ≡ Equal
  order_row-self none = refl
  order_row-self (more t r) = ap₂ ordering_then (order-self t) (order_row-self r)

mutual
  order-turned : (t u : Tree ℕ) → order t u ≡ ordering_reverse (order u t)
  order-turned (leaf m) (leaf n) = nat_cmp_total.antisymm m n
  order-turned (leaf m) (node h s) = refl
  order-turned (node g r) (leaf n) = refl
  order-turned (node g r) (node h s) = then-turned (nat_cmp g h) (order_row r s) (nat_cmp h g) (order_row s r) (nat_cmp_total.antisymm g h) (order_row-turned r s)

  order_row-turned : (r s : Row ℕ) → order_row r s ≡ ordering_reverse (order_row s r)
  order_row-turned none none = refl
  order_row-turned none (more u s) = refl
  order_row-turned (more t r) none = refl
  order_row-turned (more t r) (more u s) = then-turned (order t u) (order_row r s) (order u t) (order_row s r) (order-turned t u) (order_row-turned r s)

mutual
  order-less : (t u v : Tree ℕ) → order t u ≡ Less → order u v ≡ Less → order t v ≡ Less
  order-less (leaf m) (leaf n) (leaf o) e f = nat_cmp_total.trans m n o e f
  order-less (leaf m) (leaf n) (node k q) e f = refl
  order-less (leaf m) (node h s) (leaf o) e f = absurd cc
  order-less (leaf m) (node h s) (node k q) e f = refl
  order-less (node g r) (leaf n) v e f = absurd cc
  order-less (node g r) (node h s) (leaf o) e f = absurd cc
  order-less (node g r) (node h s) (node k q) e f = then-less (nat_cmp g h) (nat_cmp h k) (nat_cmp g k) (order_row r s) (order_row s q) (order_row r q)
      (nat_cmp_total.trans g h k) (λ a. ap (λ i. nat_cmp i k) (exact_unsigned g h a)) (λ a. ap (nat_cmp g) (sym (exact_unsigned h k a))) (order_row-less r s q) e f

  order_row-less : (r s q : Row ℕ) → order_row r s ≡ Less → order_row s q ≡ Less → order_row r q ≡ Less
  order_row-less none none q e f = absurd cc
  order_row-less none (more u s) none e f = absurd cc
  order_row-less none (more u s) (more v q) e f = refl
  order_row-less (more t r) none q e f = absurd cc
  order_row-less (more t r) (more u s) none e f = absurd cc
  order_row-less (more t r) (more u s) (more v q) e f = then-less (order t u) (order u v) (order t v) (order_row r s) (order_row s q) (order_row r q)
      (order-less t u v) (λ a. ap (λ i. order i v) (order-equal t u a)) (λ a. ap (order t) (sym (order-equal u v a))) (order_row-less r s q) e f

pub order_is_total : OrderIsTotal
order_is_total = record {
  equal = λ t u. (order-equal t u, λ e. subst (λ v. order t v ≡ Equal) e (order-self t));
  turned = λ t u. order-turned u t;
  transitive = order-less;
}

-- the laws as a total order in std's words
pub total_order : IsTotalOrder order
total_order = record {
  antisymm = order-turned;
  trans = order-less;
  congr = λ t u v e. ap (λ x. order x v) (order-equal t u e);
}

-- ---- the program's trees

-- what the rest of the inputs decides is what the vertices decide
pub vertices-order : (one other : program.Tree) (g h i : ℕ) (ts us items : List program.Tree) (answer : Ordering) → one ≡ Node g ts → other ≡ Node h us → Equal ≡ nat_cmp g h → items ≡ ts
    → order_row (row (map tree_of (drop i items))) (row (map tree_of (drop i us))) ≡ order_row (row (map tree_of items)) (row (map tree_of us))
    → answer ≡ order_row (row (map tree_of (drop i items))) (row (map tree_of (drop i us))) → answer ≡ order (tree_of one) (tree_of other)
vertices-order one other g h i ts us items answer a b e f rest is =
    is ∙ rest ∙ ap (λ xs. order_row (row (map tree_of xs)) (row (map tree_of us))) f
    ∙ ap (λ o. ordering_then o (order_row (row (map tree_of ts)) (row (map tree_of us)))) e
    ∙ sym (ap₂ (λ x y. order (tree_of x) (tree_of y)) a b ∙ ap₂ order (tree_of-node g ts) (tree_of-node h us))

pub ended-less : (ts us : List program.Tree) (i : ℕ) → length ts ≤ i → i < length us → Less ≡ order_row (row (map tree_of (drop i ts))) (row (map tree_of (drop i us)))
ended-less ts us i a b =
    sym (ap₂ (λ xs ys. order_row (row (map tree_of xs)) (row (map tree_of ys))) (drop_of_length-le ts {i = i} a) (drop-cons us i (Leaf 0) b))

pub ended-equal : (ts us : List program.Tree) (i : ℕ) → length ts ≤ i → length us ≤ i → Equal ≡ order_row (row (map tree_of (drop i ts))) (row (map tree_of (drop i us)))
ended-equal ts us i a b =
    sym (ap₂ (λ xs ys. order_row (row (map tree_of xs)) (row (map tree_of ys))) (drop_of_length-le ts {i = i} a) (drop_of_length-le us {i = i} b))
