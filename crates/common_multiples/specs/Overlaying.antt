-- One tree laid over another at a vertex.
use Rattle.std.specs.Prelude.{ℕ, ◌≡◌, List, ◌∷◌}
use Rattle.labelled_trees.specs.Trees.{Tree, Row, leaf, node, none, more, leaves, IsNode}
use Rattle.labelled_trees.specs.Contexts.{Ctx, fill, graft_ctx}
use Rattle.labelled_trees.specs.Unions.{union}
use Rattle.shuffle_insertions.specs.Listing.{upto}
use Rattle.shuffle_places.specs.Cuts.{start}
use Rattle.shuffle_places.specs.Overlays.{shape}

-- root on root, the two trees have the same label and as many inputs wherever both have a vertex
abbrev mutual
  pub Agree : Tree ℕ → Tree ℕ → Type 0
  Agree (leaf i) u = Unit {0}
  Agree (node l r) (leaf j) = Unit {0}
  Agree (node l r) (node m s) = (l ≡ m) × AgreeRow r s

  pub AgreeRow : Row ℕ → Row ℕ → Type 0
  AgreeRow none none = Unit {0}
  AgreeRow none (more u s) = ⊥
  AgreeRow (more t r) none = ⊥
  AgreeRow (more t r) (more u s) = Agree t u × AgreeRow r s

-- the tree x is the subtree of a from its vertex v on, where the root of a has number k
pub record StandsAt {A : Type 0} (k v : ℕ) (a x : Tree A) : Type 0 where
  pub context : Ctx A
  pub is_node : IsNode x
  pub is : a ≡ fill context x
  pub number : start k context ≡ v

-- the shape of the tree with x in the context, where b is laid over x
abbrev pub laid_over : Ctx ℕ → Tree ℕ → Tree ℕ → Tree (Unit {0})
laid_over c x b = fill (graft_ctx c (λ a. leaf tt)) (union (shape x) (shape b))

-- The tree has the shape of b laid over x in the context, and its leaves are 1, 2 and so on to n from left to right.
pub record IsOverlay (n : ℕ) (c : Ctx ℕ) (x b tree : Tree ℕ) : Type 0 where
  pub shape_is : shape tree ≡ laid_over c x b
  pub leaves_are : leaves tree ≡ upto n

-- the list begins with v
abbrev pub Begins : ℕ → List ℕ → Type 0
Begins v l = (rest : List ℕ) × (l ≡ v ∷ rest)
