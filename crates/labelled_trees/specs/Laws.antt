-- The laws of trees.
use Rattle.std.specs.Prelude.{ℕ, ◌≡◌, IsPermutation}
use Rattle.std.specs.List.{range_with_len}
use Rattle.labelled_trees.specs.Trees.{Tree, leaf, leaves, graft}
use Rattle.labelled_trees.specs.Labelled.{Fits, IsLabelled}
use Rattle.labelled_trees.specs.Contexts.{Ctx, fill}
use Rattle.labelled_trees.specs.Insertions.{IsContext, put}

-- Grafting is associative, and grafting a leaf on each leaf changes nothing.
abbrev pub GraftingIsAssociative : Type 0 → Type 0 → Type 0 → Type 0
GraftingIsAssociative A B C =
    ((t : Tree A) (s : A → Tree B) (u : B → Tree C) → graft (graft t s) u ≡ graft t (λ a. graft (s a) u))
    × ((t : Tree A) → graft t leaf ≡ t)

-- A tree is labelled by 1 to n exactly where it fits the arities and its leaves, from left to right, are a permutation of 1 to n.
abbrev pub LeavesArePermutations : Type 0
LeavesArePermutations = (arity : ℕ → ℕ) (n : ℕ) (t : Tree ℕ)
    → (IsLabelled arity n t → Fits arity t × IsPermutation (range_with_len 1 n) (leaves t))
    × (Fits arity t → IsPermutation (range_with_len 1 n) (leaves t) → IsLabelled arity n t)

-- A context is a tree with a hole that leaf 0 fills, and to put a tree into the one is to fill the other.
abbrev pub ContextsAreTrees : Type 0
ContextsAreTrees =
    ((c : Tree ℕ) → IsContext c → (d : Ctx ℕ) × (c ≡ fill d (leaf 0)))
    × ((d : Ctx ℕ) (x : Tree ℕ) → IsContext (fill d (leaf 0)) → put (fill d (leaf 0)) x ≡ fill d x)
