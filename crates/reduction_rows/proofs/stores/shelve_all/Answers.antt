use Rattle.std.proofs.Common.{◌∙◌, subst}
use Rattle.std.proofs.lemmas.List.{take_all}
use Rattle.shuffle_sums.specs.Putting.{ArePut}
use Rattle.reduction_rows.proofs.ShelvedLists.{shelved_more}
use Rattle.reduction_rows.proofs.stores.shelve_all.Goals as goal

pub loop-tree-preserved : goal.loop-tree-preserved
loop-tree-preserved c = record {
  put = shelved_more c.loop-tree.shelf c.shelve_one.new.shelf c.args.trees.now c.loop-tree.ids.items c.push.new.self.items c.loop-tree.tree-index c.in_ok-id.id c.tree-item.result
      c.loop-tree.invariant.put c.in_ok-id.ensures.keeps c.in_ok-id.ensures.shelf c.in_ok-id.ensures.found c.loop-tree-test.true c.tree-item.is c.in_ok-push.ensures.items;
  own = c.in_ok-id.ensures.keeps.labels ∙ c.loop-tree.invariant.own;
}

pub returns : goal.returns
returns c = record { put = subst (λ ts. ArePut c.loop-tree.shelf.trees ts c.loop-tree.ids.items) (take_all c.loop-tree.tree-index c.args.trees.now c.loop-tree-test.false) c.loop-tree.invariant.put }
