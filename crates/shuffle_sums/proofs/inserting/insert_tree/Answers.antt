use Rattle.std.proofs.Common.{ap, ◌∙◌, subst}
use Rattle.std.specs.Prelude.{IfOk}
use Rattle.shuffle_insertions.specs.Frames.{insert}
use Rattle.tree_store.specs.Stores.{tree_at}
use Rattle.shuffle_sums.specs.Shelves.{IsShelved}
use Rattle.shuffle_sums.proofs.inserting.insert_tree.Goals as goal

pub returns-clause-inserted : goal.returns-clause-inserted
returns-clause-inserted c =
    let tree = c.in_ok-tree.ensures.tree ∙ ap (λ ts. tree_at ts c.args.id) c.store.ensures.store in
    subst (λ t. IfOk c.shelve.result (λ made. IsShelved c.shelve.new.self made t)) (c.in_ok-inserted.ensures.inserted ∙ ap (insert c.args.frame.now) tree) c.shelve.ensures.found
