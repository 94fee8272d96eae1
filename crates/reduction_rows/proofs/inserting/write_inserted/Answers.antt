use Rattle.std.proofs.Common.{◌≡◌, ◌∙◌, ℕ, subst, sym}
use Rattle.labelled_trees.specs.Trees.{Tree}
use Rattle.shuffle_sums.proofs.Kept.{tree_kept}
use Rattle.shuffle_sums.specs.Inserting.{FitPlace}
use Rattle.shuffle_sums.specs.Sums.{over}
use Rattle.tree_store.specs.Stores.{tree_at}
use Rattle.reduction_rows.proofs.FitPlaces.{fit_place}
use Rattle.reduction_rows.proofs.inserting.write_inserted.Goals as goal

pub write_insertion-requires-clause-fit : goal.write_insertion-requires-clause-fit
write_insertion-requires-clause-fit g c =
    let shelf = c.sum_of_arity.new.shelf in
    let found = c.in_ok-id.ensures.found in
    let host : tree_at shelf.trees c.in_ok-id.id ≡ c.args.host.now = tree_kept c.shelve.new.self shelf c.in_ok-sum.ensures.keeps c.in_ok-id.ensures.shelf c.in_ok-id.id found.0 ∙ found.1 in
    subst (λ (t : Tree ℕ). FitPlace c.args.place.now t (over shelf c.in_ok-sum.sum)) (sym host)
    (fit_place shelf c.in-Some.arity c.args.place.now c.args.host.now c.in_ok-restrict.field-0 c.in_ok-sum.sum c.in_ok-restrict.ensures.divisor c.in-Some.ensures.shuffle c.in_ok-sum.ensures.trees)
