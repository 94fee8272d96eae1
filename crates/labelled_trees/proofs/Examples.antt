-- A context: leaf 0 and leaf 4 below one vertex.
use Rattle.std.proofs.Common.{◌≡◌, ℕ, refl}
use native.Mathlib.Decide.{ℕ_discrete}
use Rattle.labelled_trees.specs.Trees.{Tree, leaf, node, none, more}
use Rattle.labelled_trees.specs.Contexts.{Ctx, fill}
use Rattle.labelled_trees.specs.Insertions.{IsContext, put}
use Rattle.labelled_trees.proofs.Insertions.{contexts}

abbrev hole_and_four : Tree ℕ
hole_and_four = node 0 (more (leaf 0) (more (leaf 4) none))

one_hole : IsContext hole_and_four
unfolding ℕ_discrete
one_hole = refl

as_context : (d : Ctx ℕ) × (hole_and_four ≡ fill d (leaf 0))
as_context = contexts.0 hole_and_four one_hole

filled_with_three : put hole_and_four (leaf 3) ≡ node 0 (more (leaf 3) (more (leaf 4) none))
filled_with_three = refl
