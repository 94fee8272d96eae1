use Rattle.std.proofs.Common.{subst}
use Rattle.shuffle_trees.specs.LabelLists.{arity_in}
use Rattle.shuffle_sums.specs.Putting.{ArePut}
use Rattle.shuffle_sums.proofs.PutTrees.{listing_put, listing_distinct}
use Rattle.call_rows.proofs.sorting.listing.Goals as goal

pub returns-clause-one_arity : goal.returns-clause-one_arity
returns-clause-one_arity c = listing_put (arity_in c.args.labels.now) c.args.arity c.put_all.new.store c.in_ok-trees.trees c.in_ok-ids.ids.items c.requires c.in_ok-trees.ensures.listing
    (subst (λ ts. ArePut c.put_all.new.store ts c.in_ok-ids.ids.items) c.as_slice.ensures c.in_ok-ids.ensures.put)

pub returns-clause-distinct : goal.returns-clause-distinct
returns-clause-distinct c = listing_distinct (arity_in c.args.labels.now) c.args.arity c.put_all.new.store c.in_ok-trees.trees c.in_ok-ids.ids.items c.in_ok-trees.ensures.listing
    (subst (λ ts. ArePut c.put_all.new.store ts c.in_ok-ids.ids.items) c.as_slice.ensures c.in_ok-ids.ensures.put)
