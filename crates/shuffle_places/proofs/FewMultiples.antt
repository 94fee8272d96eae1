-- An example: the comb of two vertices has no small common multiple with itself below arity 4.
use Rattle.std.proofs.Common.{◌≡◌, [], refl}
use native.Mathlib.Decide.{ℕ_discrete}
use Rattle.labelled_trees.specs.Equality.{same_leaf, same_node, same_more, tree_discrete_by, row_discrete_by, tree_discrete}
use Rattle.shuffle_insertions.proofs.Examples.{t1}
use Rattle.shuffle_places.specs.AllMultiples.{multiples}
use Rattle.shuffle_places.specs.Overlays.{shape_discrete, one_unit}

pub no_multiples : (multiples t1 t1 0 ≡ []) × (multiples t1 t1 1 ≡ []) × (multiples t1 t1 2 ≡ []) × (multiples t1 t1 3 ≡ [])
unfolding ℕ_discrete tree_discrete tree_discrete_by row_discrete_by same_leaf same_node same_more shape_discrete one_unit
no_multiples = (refl, refl, refl, refl)
