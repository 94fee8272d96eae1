use Rattle.std.proofs.Common.{subst, arith}
use Rattle.std.proofs.lemmas.Result.{IfOk-weaker}
use Rattle.shuffle_trees.specs.LabelLists.{arity_in}
use Rattle.shuffle_sums.specs.Putting.{ArePut}
use Rattle.shuffle_sums.specs.Sorting.{AreOfOneArity}
use Rattle.shuffle_sums.proofs.PutTrees.{listing_put}
use Rattle.reduction_rows.proofs.cones.listing.Goals as goal

pub returns : goal.returns
returns c =
    let held = c.shelve_all.new.shelf.trees in
    record {
      one_arity = IfOk-weaker c.shelve_all.result (λ ids. ArePut held c.as_slice.result.now ids.items) (λ ids. AreOfOneArity held ids.items)
          (λ ids put. listing_put (arity_in c.args.labels.now) 3 held c.in_ok-trees.trees ids.items (omega arith) c.in_ok-trees.ensures.listing (subst (λ ts. ArePut held ts ids.items) c.as_slice.ensures put))
          c.shelve_all.ensures.put;
    }
