use Rattle.std.proofs.Common.{◌<◌, length, map, subst, sym}
use Rattle.std.specs.List.{All}
use Rattle.tree_store.specs.Stores.{tree_at}
use Rattle.division.specs.Insertions.{AddsInsertion}
use Rattle.reduction_rows.proofs.LoneElement.{held_inserted}
use Rattle.reduction_rows.proofs.elements.write_insertion.Goals as goal

pub write_trees-requires : goal.write_trees-requires
write_trees-requires c =
    let before = c.args.shelf.now.trees in
    let after = c.insert_at_root.new.shelf.trees in
    let host = tree_at before c.args.host in
    let lead = tree_at before c.args.reducer.now.lead in
    let tail = map (tree_at before) c.args.reducer.now.tail in
    let made = c.insert_at_root.new.out in
    record {
      held = subst (λ ts. All (λ i. i < length ts) c.as_slice.result.now) (sym c.store-2.ensures.store)
          (subst (All (λ i. i < length after)) (sym c.as_slice.ensures) (held_inserted after host lead tail made (subst (λ ids. AddsInsertion after host lead tail ids made) c.new-made.ensures c.in_ok-insert_at_root.ensures.made)));
    }
