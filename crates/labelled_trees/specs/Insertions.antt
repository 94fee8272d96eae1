-- Contexts and insertion, with plain trees and lists.
use Rattle.std.specs.Prelude.{ℕ, ◌≡◌, List, [], ◌∷◌}
use Rattle.std.proofs.Common.{zero, suc}
use Rattle.modular_sums.specs.Lists.{nth_or}
use Rattle.labelled_trees.specs.Trees.{Tree, leaf, graft}
use Rattle.labelled_trees.specs.Leaves.{occurs}

-- A context is a tree in which leaf 0 stands exactly once.
abbrev pub IsContext : Tree ℕ → Type 0
IsContext c = occurs 0 c ≡ 1

-- x for 0, and for another number the leaf with that number
abbrev pub at_zero : Tree ℕ → ℕ → Tree ℕ
at_zero x zero = x
at_zero x (suc i) = leaf (suc i)

-- the context with x in place of leaf 0
abbrev pub put : Tree ℕ → Tree ℕ → Tree ℕ
put context x = graft context (at_zero x)

-- the i-th tree of a list, counted from 1; leaf 0 where there is none
abbrev pub item : List (Tree ℕ) → ℕ → Tree ℕ
item ts i = nth_or (leaf 0) ts i

-- the list of s (a + 1) to s (a + k)
abbrev pub listed : {A : Type 0} → (ℕ → A) → ℕ → ℕ → List A
listed s a zero = []
listed s a (suc k) = s (suc a) ∷ listed s (suc a) k
