-- The ideal of a presentation and relabelling.
use Rattle.std.specs.Prelude.{ℕ, List}
use Rattle.labelled_trees.specs.Trees.{Tree}
use Rattle.operad_ideals.specs.Presentations.{Presentation}
use Rattle.operad_ideals.specs.Ideals.{InIdeal}
use Rattle.shuffle_transfer.specs.Orderings.{IsOrdering}
use Rattle.shuffle_transfer.specs.Transfer.{relabelled}

-- An element of the ideal, relabelled by a permutation, is in the ideal.
abbrev pub IdealIsRelabelled : Type 0
IdealIsRelabelled = (p : Presentation) (n : ℕ) (w : List ℕ) → IsOrdering n w → (e : List (ℕ × Tree ℕ)) → InIdeal p n e → InIdeal p n (relabelled w e)
