use Rattle.std.proofs.Common.{subst}
use Rattle.std.specs.List.{All}
use Rattle.std.proofs.lemmas.List.{take_all}
use Rattle.std.proofs.lemmas.List.Elements.{All-more}
use Rattle.shuffle_insertions.specs.ShuffleTrees.{IsShuffle}
use Rattle.tree_store.specs.Stores.{tree_at}
use Rattle.reduction_rows.proofs.elements.check_trees.Goals as goal

pub loop-id-preserved : goal.loop-id-preserved
loop-id-preserved c =
    let trees = c.args.store.now in
    All-more (λ id. IsShuffle c.args.arity (tree_at trees id)) c.args.ids.now c.loop-id.id-index c.id-item.result c.loop-id-test.true c.loop-id.invariant
    (subst (λ id. IsShuffle c.args.arity (tree_at trees id)) c.id-item.is c.in_ok-check_tree.ensures.shuffle)

pub returns : goal.returns
returns c = record {
  shuffle = subst (All (λ id. IsShuffle c.args.arity (tree_at c.args.store.now id))) (take_all c.loop-id.id-index c.args.ids.now c.loop-id-test.false) c.loop-id.invariant;
}
