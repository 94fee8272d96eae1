-- The laws of shuffle trees, their orders and their list, proved.
use Rattle.std.proofs.Common.{◌≤◌, sym, subst}
use Rattle.labelled_trees.specs.Labelled.{Fits}
use Rattle.labelled_trees.specs.Equality.{tree_discrete, row_discrete}
use Rattle.labelled_trees.proofs.Leaves.{at_leaf}
use Rattle.shuffle_insertions.specs.ShuffleTrees.{least, IsShuffle}
use Rattle.shuffle_insertions.specs.Frames.{insert}
use Rattle.shuffle_insertions.specs.Laws.{FirstIsLeast, ShuffleTreesAreLabelled, InsertionKeeps, FramesAreSlots, FourOrders, TreesListed}
use Rattle.shuffle_insertions.proofs.Rising.{least-occurs, least-le}
use Rattle.shuffle_insertions.proofs.Insertions.{fill_slot-valid, fill_slot-fits}
use Rattle.shuffle_insertions.proofs.Frames.{slot_of, frame_of, frame_of-is_frame, insert-frame_of}
use Rattle.shuffle_insertions.proofs.TreeOrders.{path_order, pathshort_order, leafpath_order, weightpath_order}
use Rattle.shuffle_insertions.proofs.Listing.{all_listed}
use Rattle.shuffle_insertions.proofs.Counting.{length_all, trees_one, trees_more}

pub first_least : FirstIsLeast
first_least t h = (least-occurs t h, λ i o. at_leaf t (λ j. least t ≤ j) i (least-le t h) o)

pub labelled : ShuffleTreesAreLabelled
labelled arity n t = (
  λ h. (record { fits = h.fits; each = h.shuffle.each; only = h.shuffle.only }, h.shuffle.rising),
  λ l r. record { fits = l.fits; shuffle = record { rising = r; each = l.each; only = l.only } },
)

pub keeps : InsertionKeeps
keeps k n f x y h =
    let s = slot_of k f h in
    let valid : IsShuffle k x → IsShuffle k y → IsShuffle n (insert f x) → IsShuffle n (insert f y)
    = λ hx hy v. subst (IsShuffle n) (sym (s.inserts y)) (fill_slot-valid k n s.slot x y s.rises hx hy (subst (IsShuffle n) (s.inserts x) v)) in (
      valid,
      λ arity hx hy v. record {
        fits = subst (Fits arity) (sym (s.inserts y))
            (fill_slot-fits arity k s.slot x y hx.shuffle hy.shuffle (subst (Fits arity) (s.inserts x) v.fits) hy.fits);
        shuffle = valid hx.shuffle hy.shuffle v.shuffle;
      },
    )

pub slots : FramesAreSlots
slots k = (
  λ f h. let s = slot_of k f h in (s.slot, s.rises, s.inserts),
  λ n s x r hx v. (frame_of k s, frame_of-is_frame k n s r x hx v, insert-frame_of k n s r x hx v),
)

pub orders : FourOrders
orders arity weights = (path_order arity weights, pathshort_order arity weights, leafpath_order arity weights, weightpath_order arity weights)

pub listed : TreesListed
listed labels arity are n = (all_listed labels arity are tree_discrete row_discrete n, length_all labels arity n, trees_one labels arity are, trees_more labels arity are n)
