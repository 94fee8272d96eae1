-- The laws of places at the root and in inputs, proved.
use Rattle.std.proofs.Common.{arith}
use Rattle.labelled_trees.proofs.Rows.{sum_leaves-le_row}
use native.Mathlib.Decide.{ℕ_discrete}
use Rattle.labelled_trees.specs.Leaves.{one_if}
use Rattle.shuffle_places.specs.Cuts.{numbers}
use Rattle.shuffle_places.specs.RootLaws.{RootPlaces, InputPlaces, DivisorsSplit}
use Rattle.shuffle_places.proofs.RootPlaces.{root_place, root_in, root_insert, root_parts, one_parts}
use Rattle.shuffle_places.proofs.InputPlaces.{place_in_input, insert_in_input, split_place, leaf_no_place}

pub roots : RootPlaces
roots n k host d h hd is_node = (
  λ parts g. (numbers parts 1 d, root_in k host d h.rising hd is_node parts g, root_place k host d h.rising hd is_node parts g, root_insert k host d h.rising hd is_node parts g),
  λ set p m. root_parts n k host d h hd set p m,
  λ parts others e f. one_parts k host d hd parts others e f,
)

pub in_inputs : InputPlaces
in_inputs l front t back set d p = (
  place_in_input l front t back set d p,
  λ z y. insert_in_input l front t back set d p z (let few = sum_leaves-le_row (λ n. one_if (ℕ_discrete n 0)) front t back in omega (arith, few, z)) y,
)

pub split : DivisorsSplit
split = (split_place, leaf_no_place)
