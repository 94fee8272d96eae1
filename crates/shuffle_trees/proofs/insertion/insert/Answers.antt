use Rattle.std.proofs.Common.{◌≡◌, ◌∙◌, ◌<◌, ◌≤◌, List, ℕ, length, sym, subst}
use mathlib.Core.Path.{ap₂}
use Rattle.labelled_trees.specs.Trees.{Tree, graft}
use Rattle.labelled_trees.specs.Leaves.{AllLeaves}
use Rattle.labelled_trees.specs.Insertions.{put, item}
use Rattle.labelled_trees.specs.Meaning.{tree_of}
use Rattle.labelled_trees.proofs.Leaves.{by_leaf}
use Rattle.shuffle_insertions.specs.Frames.{Frame, insert}
use Rattle.shuffle_insertions.specs.ShuffleTrees.{IsShuffle}
use Rattle.shuffle_trees.specs.ValidTrees.{IsValid}
use Rattle.shuffle_trees.proofs.InsertedTrees.{inserted_valid}
use Rattle.shuffle_trees.proofs.insertion.insert.Goals as goal

among : (t x : Tree ℕ) (us ts : List (Tree ℕ)) → t ≡ x → us ≡ ts → IsShuffle (length ts) x → AllLeaves t (λ i. (0 < i) × (i ≤ length us))
among t x us ts e f h = subst (λ u. AllLeaves u (λ i. (0 < i) × (i ≤ length us))) (sym e) (by_leaf x (λ i. (0 < i) × (i ≤ length us)) (λ i o. subst (λ vs. (0 < i) × (i ≤ length vs)) (sym f) (h.only i o)))

inserted_is : (f : Frame) (hole t x : Tree ℕ) (us : List (Tree ℕ)) → hole ≡ f.hole → t ≡ x → us ≡ f.inputs → put hole (graft t (item us)) ≡ insert f x
inserted_is f hole t x us e g h = ap₂ put e (ap₂ (λ u vs. graft u (item vs)) g h)

pub filled-requires : goal.filled-requires
filled-requires c = among (tree_of c.shape.result.now) c.args.tree.now c.inputs.result.now c.args.frame.now.inputs c.shape.ensures.shape c.inputs.ensures.inputs c.requires.leaves

pub from_valid-requires : goal.from_valid-requires
from_valid-requires c =
    let is = c.in_ok-shape.ensures.filled ∙ inserted_is c.args.frame.now (tree_of c.context.result.now) (tree_of c.shape.result.now) c.args.tree.now c.inputs.result.now c.context.ensures.context c.shape.ensures.shape c.inputs.ensures.inputs in
    subst IsValid (sym is) (inserted_valid c.args.frame.now c.args.tree.now c.context.ensures.valid c.requires.leaves c.shape.ensures.valid)
