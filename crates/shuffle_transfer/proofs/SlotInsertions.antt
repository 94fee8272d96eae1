-- Insertions into a context with a function, with counts of turns: a form that serves the proofs.
use Rattle.std.proofs.Common.{ℕ, List}
use Rattle.modular_sums.specs.Lists.{Mem}
use Rattle.modular_sums.specs.Sums.{moved, AllTerms}
use Rattle.labelled_trees.specs.Trees.{Tree}
use Rattle.shuffle_insertions.specs.ShuffleTrees.{IsShuffleTree}
use Rattle.shuffle_insertions.specs.Slots.{Slot, fill_slot, PartsRise}
use Rattle.operad_ideals.specs.Presentations.{Relation, Presentation}
use Rattle.shuffle_transfer.specs.Orderings.{IsOrdering}
use Rattle.shuffle_transfer.specs.Labels.{inputs_of}
use Rattle.shuffle_transfer.specs.Transfer.{relabelled}
use Rattle.shuffle_transfer.proofs.Turned.{turned}

pub record SlotInsertion (p : Presentation) (n : ℕ) : Type 0 where
  pub relation : Relation
  pub there : Mem relation p.relations
  pub permutation : List ℕ
  pub permutes : IsOrdering relation.arity permutation
  pub slot : Slot
  pub rises : PartsRise relation.arity slot.parts
  pub valid : AllTerms (moved (fill_slot slot) (turned p (relabelled permutation relation.terms))) (IsShuffleTree (inputs_of p.generators) n)

abbrev pub slot_inserted : (p : Presentation) (n : ℕ) → SlotInsertion p n → List (ℕ × Tree ℕ)
slot_inserted p n i = moved (fill_slot i.slot) (turned p (relabelled i.permutation i.relation.terms))
