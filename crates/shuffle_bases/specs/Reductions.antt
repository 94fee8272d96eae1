-- Sums of insertions, and the premise of the diamond lemma.
use Rattle.std.specs.Prelude.{ℕ, ◌≤◌, List}
use Rattle.modular_sums.specs.Residues.{IsCongruent}
use Rattle.modular_sums.specs.Sums.{coef, AllTerms, Same, expand}
use Rattle.labelled_trees.specs.Trees.{Tree}
use Rattle.labelled_trees.specs.Equality.{tree_discrete}
use Rattle.shuffle_insertions.specs.ShuffleTrees.{IsShuffleTree}
use Rattle.shuffle_places.specs.Multiples.{IsMultiple}
use Rattle.shuffle_bases.specs.Elements.{Element, Setting, IsLess, Insertion, value_of, s_element, InOrder}

-- The sum e reduces below the tree t: it is a sum of insertions in smaller trees
-- (Bremner and Dotsenko 2016, reduction to zero, here without an order of the steps).
pub record ReducesBelow (s : Setting) (n : ℕ) (t : Tree ℕ) (e : List (ℕ × Tree ℕ)) : Type 0 where
  pub uses : List (ℕ × Insertion s n)
  pub lower : AllTerms uses (λ i. IsLess s i.tree t)
  pub adds_up : Same tree_discrete s.q e (expand value_of uses)

-- Each S-element reduces: for any two elements, in the order of the list, and each small common multiple of their leading trees,
-- of arity at most N, it is a sum of insertions in smaller trees.
abbrev pub SElementsReduce : Setting → ℕ → Type 0
SElementsReduce s N = (m : ℕ) → m ≤ N → (g h : Element) → InOrder g h s.elements → (t : Tree ℕ) (first second : List ℕ)
    → IsMultiple m g.lead h.lead t first second → ReducesBelow s m t (s_element s.q g h t first second)

-- The greatest tree of the sum is the tree of an insertion: its coefficient isn't 0, and that of each greater tree is.
pub record IsLed (s : Setting) (n : ℕ) (e : List (ℕ × Tree ℕ)) : Type 0 where
  pub by : Insertion s n
  pub there : IsCongruent s.q (coef tree_discrete e by.tree) 0 → ⊥
  pub above : (t : Tree ℕ) → IsShuffleTree s.arity n t → IsLess s by.tree t → IsCongruent s.q (coef tree_discrete e t) 0
