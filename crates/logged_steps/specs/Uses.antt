-- Uses that stand for the parts of a sum.
use Rattle.std.specs.Prelude.{ℕ, List, [], ◌∷◌, ◌++◌}
use Rattle.modular_sums.specs.Sums.{scale, moved}
use Rattle.labelled_trees.specs.Trees.{Tree}
use Rattle.symmetric_trees.specs.declared.generators.Generator.{Generator}
use Rattle.symmetric_sums.specs.Instances.{in_place}
use Rattle.symmetric_sums.specs.Membership.{presentation_of}
use Rattle.symmetric_sums.specs.declared.instance.Instance.{Instance}
use Rattle.symmetric_sums.specs.declared.term.Term.{Term}
use Rattle.symmetric_sums.specs.Uses.{IsGoodUse, cited}
use Rattle.logged_steps.specs.Standing.{StandsFor}

-- each use is a valid instance in arity n, and what it cites, placed, stands for its like in the list
abbrev pub UsesStandFor : ℕ → List Generator → List (List Term) → List (List Term) → ℕ → List Instance → List (List (ℕ × Tree ℕ)) → Type 0
UsesStandFor m generators rels earlier n [] [] = Unit {0}
UsesStandFor m generators rels earlier n [] (l ∷ parts) = ⊥
UsesStandFor m generators rels earlier n (item ∷ uses) [] = ⊥
UsesStandFor m generators rels earlier n (item ∷ uses) (l ∷ parts) =
    IsGoodUse m generators rels earlier n item
    × StandsFor (presentation_of m generators rels) n (moved (in_place item) (cited m generators rels earlier item)) l
    × UsesStandFor m generators rels earlier n uses parts

-- each part times the residue of its use, one after the other
abbrev pub total : List Instance → List (List (ℕ × Tree ℕ)) → List (ℕ × Tree ℕ)
total [] parts = []
total (item ∷ uses) [] = []
total (item ∷ uses) (l ∷ parts) = scale item.coef l ++ total uses parts
