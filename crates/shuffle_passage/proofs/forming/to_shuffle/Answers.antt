use Rattle.std.proofs.Common.{◌∙◌, ℕ, ◌<◌, sym, subst}
use Rattle.labelled_trees.specs.Leaves.{occurs}
use Rattle.labelled_trees.specs.Meaning.{tree_of}
use Rattle.shuffle_insertions.specs.ShuffleTrees.{IsShuffleTree}
use Rattle.shuffle_transfer.specs.Labels.{inputs_of, shuffle_form}
use Rattle.shuffle_trees.specs.ValidTrees.{IsValid}
use Rattle.shuffle_passage.proofs.ThereAndBack.{form_of, form_valid, form_shuffle}
use Rattle.shuffle_passage.proofs.forming.to_shuffle.Goals as goal
use Rattle.symmetric_trees.specs.Generators.{generators_of}

pub unreachable-requires : goal.unreachable-requires
unreachable-requires c =
    let gens = c.args.table.now in
    let l = c.requires.labelled in
    let tree = c.in_ok-sign.ensures.tree in
    let small : (k : ℕ) → 0 < occurs k (shuffle_form (generators_of gens) (tree_of c.args.tree.now)) → k < 256 = λ k o. c.in_ok-sign.branch.small k (subst (λ t. 0 < occurs k t) (sym tree) o) in
    c.in_default.ensures.none (subst IsValid (sym tree) (form_valid gens l.0 (tree_of c.args.tree.now) l.1 small))

pub returns-clause-form : goal.returns-clause-form
returns-clause-form c =
    let l = c.requires.labelled in
    form_of c.args.table.now l.0 (tree_of c.args.tree.now) c.in_ok-sign.sign c.in-Some.shuffle l.1 c.in_ok-sign.ensures.sign (c.in-Some.ensures.tree ∙ c.in_ok-sign.ensures.tree)

pub returns-clause-shuffle : goal.returns-clause-shuffle
returns-clause-shuffle c n h =
    subst (IsShuffleTree (inputs_of (generators_of c.args.table.now)) n) (sym (c.in-Some.ensures.tree ∙ c.in_ok-sign.ensures.tree)) (form_shuffle c.args.table.now n (tree_of c.args.tree.now) h)
