use Rattle.std.proofs.Common.{◌≤◌, arith, subst, sym}
use Rattle.shuffle_trees.specs.LabelLists.{arity_in}
use Rattle.modular_sums.specs.Lists.{Distinct}
use Rattle.shuffle_sums.specs.Sorting.{AreOfOneArity}
use Rattle.shuffle_sums.proofs.PutTrees.{listing_distinct, listing_put}
use Rattle.bench_shuffle.proofs.stores.put_and_sort.Goals as goal

pub positions-requires-clause-trees : goal.positions-requires-clause-trees
positions-requires-clause-trees c = subst (AreOfOneArity c.put_all.new.store) (sym c.as_slice-2.ensures.value)
    (listing_put (arity_in c.args.labels.now) c.args.arity c.put_all.new.store c.args.trees.now c.in_ok-ids.ids.items (omega (arith, c.requires.few)) c.requires.listing c.in_ok-ids.ensures.put)

pub positions-requires-clause-distinct : goal.positions-requires-clause-distinct
positions-requires-clause-distinct c = subst Distinct (sym c.as_slice-2.ensures.value)
    (listing_distinct (arity_in c.args.labels.now) c.args.arity c.put_all.new.store c.args.trees.now c.in_ok-ids.ids.items c.requires.listing c.in_ok-ids.ensures.put)
