use Rattle.std.proofs.Common.{◌≡◌, ◌++◌, ℕ, ◌<◌, List, get_or, length, Err, sym, ap, ◌∙◌, subst, append_assoc}
use Rattle.modular_sums.specs.Lists.{Mem}
use Rattle.labelled_trees.specs.Trees.{Tree}
use Rattle.tree_store.specs.Stores.{AddsSubtrees, LacksSubtree}
use Rattle.tree_store.specs.declared.store.StoreFail.TheVariants.{StoreFull}
use Rattle.tree_store.proofs.Trees.{mem_at}
use Rattle.shuffle_sums.specs.Putting.{Keeps, LacksOne}
use Rattle.shuffle_sums.proofs.PutTrees.{put_more}
use Rattle.shuffle_sums.proofs.putting.put_all.Goals as goal

kept_on : (old now later : List (Tree ℕ)) (t : Tree ℕ) → Keeps old now → AddsSubtrees now later t → Keeps old later
kept_on old now later t k a = (k.0 ++ a.0, a.1 ∙ ap (λ l. l ++ a.0) k.1 ∙ append_assoc old k.0 a.0)

lacks_one : (held trees : List (Tree ℕ)) (k : ℕ) (t : Tree ℕ) → k < length trees → t ≡ get_or trees k t → LacksSubtree held t → LacksOne held trees
lacks_one held trees k t lt is lacks = (t, subst (λ u. Mem u trees) (sym is) (mem_at trees k t lt), lacks)

pub loop-tree-preserved : goal.loop-tree-preserved
loop-tree-preserved c = record {
  put = put_more c.loop-tree.store c.put.new.self c.args.trees.now c.loop-tree.ids.items c.push.new.self.items c.loop-tree.tree-index c.in-Ok.id c.tree-item.result c.tree-item.result
      c.loop-tree.invariant.put c.put.ensures.added c.in-Ok.ensures.found c.loop-tree-test.true c.tree-item.is c.in-Ok-push.ensures.items;
  keeps = kept_on c.args.store.now c.loop-tree.store c.put.new.self c.tree-item.result c.loop-tree.invariant.keeps c.put.ensures.added;
}

pub returns-in-Err-clause-full : goal.returns-in-Err-clause-full
returns-in-Err-clause-full c = λ e.
    let same : c.in-Err.fail ≡ StoreFull = cc e in
    lacks_one c.put.new.self c.args.trees.now c.loop-tree.tree-index c.tree-item.result c.loop-tree-test.true c.tree-item.is (c.in-Err.ensures.full (ap Err same))
