use Rattle.std.proofs.Common.{ℕ, List, arith, subst, sym}
use Rattle.shuffle_insertions.specs.ShuffleTrees.{IsShuffleTree}
use Rattle.shuffle_trees.specs.LabelLists.{arity_in}
use Rattle.reduction_rows.proofs.shelves.fits_shelf.Goals as goal

pub returns : goal.returns
returns c e =
    let most = c.most.ensures.most in
    (c.in-Some.arity, omega (arith, most), subst (λ (ls : List ℕ). IsShuffleTree (arity_in ls) c.in-Some.arity c.args.tree.now) (sym c.requires.own) (c.is_over.ensures e))
