-- The uses of a row.
use Rattle.std.proofs.Common.{ℕ, ◌<◌, List, ◌++◌, subst}
use Rattle.std.proofs.lemmas.List.Elements.{recursion_from_All}
use Rattle.modular_sums.specs.Sums.{scale}
use Rattle.symmetric_trees.specs.declared.generators.Generator.{Generator}
use Rattle.symmetric_sums.specs.declared.term.Term.{Term}
use Rattle.symmetric_sums.specs.declared.instance.Instance.{Instance}
use Rattle.shuffle_sums.specs.Shelves.{Shelf}
use Rattle.division.specs.declared.cofactor.Cofactor.{Cofactor}
use Rattle.arity_completion.specs.Trails.{IsStart, all_started, taken}
use Rattle.arity_completion.specs.Uses.{AddUpTo, IsStartUse, IsStepUse, AreUsesOf, UsesAddUp}
use Rattle.arity_completion.specs.declared.uses.Start.{Start}
use Rattle.arity_completion.proofs.Adding.{add_both, scale_both}
use Rattle.arity_completion.proofs.StartUses.{starts_add}
use Rattle.arity_completion.proofs.StepUses.{steps_add}

pub uses_add_up : (m : ℕ) (generators : List Generator) (rels earlier : List (List Term)) (shelf : Shelf) (numbers : List ℕ) (starts : List Start) (cofactors : List Cofactor) (factor : ℕ) (first second : List Instance)
    → 1 < m → factor < m → AreUsesOf (IsStartUse factor) starts first → AreUsesOf (IsStepUse m generators shelf numbers factor) cofactors second
    → UsesAddUp m generators rels earlier shelf numbers starts cofactors factor (first ++ second)
uses_add_up m generators rels earlier shelf numbers starts cofactors factor first second prime small a b compare elements n order monic entries are steps of =
    subst (AddUpTo m generators rels earlier n (first ++ second)) (scale_both factor (all_started m generators rels earlier starts) (taken steps))
    (add_both m generators rels earlier n first second (scale factor (all_started m generators rels earlier starts)) (scale factor (taken steps))
    (starts_add m generators rels earlier n factor small starts first (recursion_from_All (IsStart m generators rels earlier n) starts are) a)
    (steps_add m generators rels earlier shelf numbers factor compare elements n prime order monic entries steps cofactors second of b))
