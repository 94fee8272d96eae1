-- Free trees and their inputs.
use Rattle.std.specs.Prelude.{ℕ, ◌↔◌}
use Rattle.modular_sums.specs.Lists.{Mem}
use Rattle.labelled_trees.specs.Trees.{Tree, Row, leaf, node, inputs}
use Rattle.shuffle_places.specs.RootPlaces.{IsShuffleAmong, DividesRoot}
use Rattle.shuffle_bases.specs.Elements.{Element, Setting, AreMonic}
use Rattle.shuffle_normal_forms.specs.FreeTrees.{IsFree}

-- A leaf is free, and a tree with a vertex exactly where its inputs are, and no leading tree divides it at the root.
abbrev pub FreeTreesSplit : Type 0
FreeTreesSplit = (n : ℕ) (s : Setting) → AreMonic s
    → ((i : ℕ) → IsFree s (leaf i))
    × ((l : ℕ) (r : Row ℕ) → IsShuffleAmong n (node l r)
    → IsFree s (node l r) ↔ (((t : Tree ℕ) → Mem t (inputs r) → IsFree s t)
    × ((g : Element) → Mem g s.elements → (parts : ℕ → Tree ℕ) → DividesRoot g.arity g.lead (node l r) parts → ⊥)))
