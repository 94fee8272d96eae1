-- How two falling sums of ids become one.
use Rattle.std.specs.Prelude.{ℕ, ◌-◌, List, [], ◌∷◌, ◌++◌, drop}
use Rattle.std.proofs.Common.{zero, suc}
use Rattle.std.specs.declared.cmp.Ordering.{Ordering}
use Rattle.modular_sums.specs.Sums.{Same, scale}
use Rattle.labelled_trees.specs.Trees.{Tree}
use Rattle.labelled_trees.specs.Equality.{tree_discrete}
use Rattle.modular_sums.specs.Merging.{IsMerging}
use Rattle.shuffle_sums.specs.Shelves.{Shelf}
use Rattle.shuffle_sums.specs.Sums.{pairs, over, AreTrees, HaveKeys, FallsOver}
use Rattle.shuffle_sums.specs.declared.sum.Term.{Term}

-- the term, where its number isn't 0
abbrev pub unless_zero_term : ℕ → ℕ → List Term
unless_zero_term zero tree = []
unless_zero_term (suc c) tree = record { coef = suc c; tree = tree } ∷ []

-- What holds on the way of a merge: what is made and what is left of both is the first sum and the multiple of the other.
pub record Merges (compare : Tree ℕ → Tree ℕ → Ordering) (p c : ℕ) (shelf : Shelf) (ones others made : List Term) (left right : ℕ) : Type 0 where
  pub merging : IsMerging compare tree_discrete p c (over shelf (pairs ones)) (over shelf (pairs others)) (over shelf (pairs made))
      (over shelf (pairs (drop left ones))) (over shelf (pairs (drop right others)))
  pub made_stands : HaveKeys shelf (pairs made)
  pub ones_stand : HaveKeys shelf (pairs ones)
  pub others_stand : HaveKeys shelf (pairs others)
  pub trees : (n : ℕ) → AreTrees shelf n (pairs ones) → AreTrees shelf n (pairs others) → AreTrees shelf n (pairs made)

-- What a merge answers: a falling sum, which is the first sum and the multiple of the other.
pub record Merged (compare : Tree ℕ → Tree ℕ → Ordering) (p c : ℕ) (shelf : Shelf) (ones others made : List Term) : Type 0 where
  pub falls : FallsOver compare p shelf made
  pub adds_up : Same tree_discrete (p - 1) (over shelf (pairs made)) (over shelf (pairs ones) ++ scale c (over shelf (pairs others)))
  pub trees : (n : ℕ) → AreTrees shelf n (pairs ones) → AreTrees shelf n (pairs others) → AreTrees shelf n (pairs made)
