-- The laws of free trees and normal forms.
use Rattle.std.specs.Prelude.{ℕ, ◌↔◌, ◌<◌, ◌≤◌, List, [], ◌∷◌, ◌++◌}
use Rattle.modular_sums.specs.Lists.{Mem, Distinct}
use Rattle.modular_sums.specs.Sums.{scale, AllTerms, Same}
use Rattle.labelled_trees.specs.Trees.{Tree}
use Rattle.labelled_trees.specs.Equality.{tree_discrete}
use Rattle.shuffle_insertions.specs.ShuffleTrees.{IsShuffleTree}
use Rattle.shuffle_insertions.specs.Labels.{AreLabels}
use Rattle.shuffle_insertions.specs.Orders.{IsTreeOrder}
use Rattle.shuffle_bases.specs.Elements.{Setting, AreMonic}
use Rattle.shuffle_bases.specs.Reductions.{SElementsReduce}
use Rattle.shuffle_normal_forms.specs.FreeTrees.{IsFree, IsFreeTree, free_trees}
use Rattle.shuffle_normal_forms.specs.NormalForms.{InSpan, IsShuffleNormalForm, LeadsNone, IsAtMost}

-- The list of the free trees of arity n has each of them once, and nothing else.
abbrev pub FreeTreesListed : Type 0
FreeTreesListed = (labels : ℕ) (s : Setting) → AreLabels labels s.arity → AreMonic s → (n : ℕ)
    → Distinct (free_trees labels s n) × ((t : Tree ℕ) → Mem t (free_trees labels s n) ↔ IsFreeTree s n t)

-- For monic elements whose S-elements reduce up to an arity the free trees are independent:
-- a sum on free trees that lies in the span of the insertions is zero.
abbrev pub FreeTreesIndependent : Type 0
FreeTreesIndependent = (labels : ℕ) (s : Setting) → AreLabels labels s.arity → IsTreeOrder s.arity s.compare → AreMonic s
    → (N n : ℕ) → SElementsReduce s N → n ≤ N
    → (e : List (ℕ × Tree ℕ)) → AllTerms e (IsFreeTree s n) → InSpan s n e → Same tree_discrete s.q e []

-- For monic elements the free trees span: each shuffle tree has a normal form, whose trees are that tree or less,
-- and so has each sum on shuffle trees, whose normal form stays within each bound of its trees.
abbrev pub FreeTreesSpan : Type 0
FreeTreesSpan = (labels : ℕ) (s : Setting) → AreLabels labels s.arity → IsTreeOrder s.arity s.compare → AreMonic s → (n : ℕ)
    → ((t : Tree ℕ) → IsShuffleTree s.arity n t → (f : List (ℕ × Tree ℕ)) × IsShuffleNormalForm s n ((1, t) ∷ []) f × AllTerms f (λ u. IsAtMost s u t))
    × ((e : List (ℕ × Tree ℕ)) → AllTerms e (IsShuffleTree s.arity n) → (f : List (ℕ × Tree ℕ)) × IsShuffleNormalForm s n e f
    × ((t : Tree ℕ) → AllTerms e (λ u. IsAtMost s u t) → AllTerms f (λ u. IsAtMost s u t)))

-- A free tree leads no sum in the span, where S-elements reduce; and a shuffle tree that leads none is free, where 1 isn't 0.
abbrev pub FreeTreesLeadNone : Type 0
FreeTreesLeadNone = (labels : ℕ) (s : Setting) → AreLabels labels s.arity → IsTreeOrder s.arity s.compare → AreMonic s
    → ((N n : ℕ) → SElementsReduce s N → n ≤ N → (t : Tree ℕ) → IsShuffleTree s.arity n t → IsFree s t → LeadsNone s n t)
    × (0 < s.q → (n : ℕ) (t : Tree ℕ) → IsShuffleTree s.arity n t → LeadsNone s n t → IsFree s t)

-- For monic elements whose S-elements reduce up to an arity, each sum on shuffle trees has exactly one normal form,
-- and two have the same one exactly where their difference lies in the span.
abbrev pub OneNormalForm : Type 0
OneNormalForm = (labels : ℕ) (s : Setting) → AreLabels labels s.arity → IsTreeOrder s.arity s.compare → AreMonic s
    → (N n : ℕ) → SElementsReduce s N → n ≤ N
    → ((e : List (ℕ × Tree ℕ)) → AllTerms e (IsShuffleTree s.arity n)
    → (f : List (ℕ × Tree ℕ)) × IsShuffleNormalForm s n e f × ((g : List (ℕ × Tree ℕ)) → IsShuffleNormalForm s n e g → Same tree_discrete s.q f g))
    × ((d e f g : List (ℕ × Tree ℕ)) → IsShuffleNormalForm s n d f → IsShuffleNormalForm s n e g → InSpan s n (d ++ scale s.q e) ↔ Same tree_discrete s.q f g)
