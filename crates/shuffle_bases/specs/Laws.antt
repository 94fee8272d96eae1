-- The diamond lemma for insertions.
use Rattle.std.specs.Prelude.{ℕ, ◌≡◌, ◌≤◌, List, [], ◌++◌}
use Rattle.std.proofs.Common.{◌⊎◌}
use Rattle.modular_sums.specs.Lists.{Mem}
use Rattle.modular_sums.specs.Sums.{Same, scale, expand}
use Rattle.labelled_trees.specs.Trees.{Tree}
use Rattle.labelled_trees.specs.Equality.{tree_discrete}
use Rattle.shuffle_insertions.specs.Labels.{AreLabels}
use Rattle.shuffle_insertions.specs.Orders.{IsTreeOrder}
use Rattle.shuffle_places.specs.Multiples.{IsMultiple}
use Rattle.shuffle_bases.specs.Elements.{Element, Setting, AreMonic, Insertion, value_of, s_element}
use Rattle.shuffle_bases.specs.Reductions.{SElementsReduce, IsLed}

-- Elements over finitely many labels that are monic in an order of trees and whose S-elements reduce, up to an arity:
-- each sum of insertions is zero, or its greatest tree is the tree of an insertion
-- (Dotsenko and Khoroshkin 2010, the diamond lemma for shuffle operads).
abbrev pub DiamondLemma : Type 0
DiamondLemma = (labels : ℕ) (s : Setting) → AreLabels labels s.arity → IsTreeOrder s.arity s.compare → AreMonic s
    → (N n : ℕ) → SElementsReduce s N → n ≤ N
    → (uses : List (ℕ × Insertion s n)) → Same tree_discrete s.q (expand value_of uses) [] ⊎ IsLed s n (expand value_of uses)

-- The S-element of two monic elements at a small common multiple of their leading trees is the difference of two insertions in it.
abbrev pub SElementsStand : Type 0
SElementsStand = (s : Setting) → AreMonic s → (n : ℕ) (g h : Element) → Mem g s.elements → Mem h s.elements
    → (t : Tree ℕ) (first second : List ℕ) → IsMultiple n g.lead h.lead t first second
    → (i : Insertion s n) × (j : Insertion s n) × (i.tree ≡ t) × (j.tree ≡ t) × (s_element s.q g h t first second ≡ value_of i ++ scale s.q (value_of j))
