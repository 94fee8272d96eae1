use Rattle.std.proofs.Common.{◌≡◌, ◌<◌, map, take}
use Rattle.shuffle_insertions.specs.Keys as spec
use Rattle.tree_store.specs.Stores.{IsStore, tree_at}
use Rattle.shuffle_sums.proofs.sorting.blocks_of.Given as goal

abbrev pub invariant-loop-id : goal.invariant-loop-id
invariant-loop-id g l = record {
  blocks_are : l.blocks ≡ map (λ id. g.O.TreeOrder.block l.order (spec.key (g.O.TreeOrder.weights l.order) (tree_at l.store id))) (take l.id-index l.ids);
  store_is : 0 < l.id-index → IsStore l.store;
}
