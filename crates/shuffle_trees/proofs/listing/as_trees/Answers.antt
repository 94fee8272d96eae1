use Rattle.std.proofs.Common.{map, subst}
use Rattle.std.specs.List.{AllByRecursion}
use Rattle.labelled_trees.specs.Meaning.{tree_of}
use Rattle.shuffle_trees.specs.ValidTrees.{IsValid}
use Rattle.shuffle_trees.proofs.listing.as_trees.Goals as goal

pub from_valid-requires : goal.from_valid-requires
from_valid-requires c = (subst (λ us. AllByRecursion IsValid (map tree_of us)) c.in-Some.ensures.steps.0 c.loop-shape.invariant.valid).0
