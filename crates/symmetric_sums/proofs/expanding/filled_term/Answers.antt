use Rattle.std.proofs.Common.{◌∙◌, ◌≡◌, ◌<◌, ◌≤◌, ap, map, sym, subst, length, rules}
use Rattle.operad_ideals.specs.Ideals.{placed}
use Rattle.labelled_trees.specs.Leaves.{AllLeaves}
use Rattle.labelled_trees.specs.Meaning.{tree_of}
use Rattle.symmetric_trees.specs.Trees.{IsLabelled}
use Rattle.symmetric_sums.specs.Instances.{in_place}
use Rattle.symmetric_sums.proofs.expanding.filled_term.Goals as goal

pub fill-requires : goal.fill-requires
fill-requires c = record { numbers = subst (λ ts. AllLeaves (tree_of c.args.term.now.tree) (λ i. (0 < i) × (i ≤ length ts))) (sym c.as_slice-inputs.ensures) c.requires.numbers }

pub returns-in_err-tree : goal.returns-in_err-tree
returns-in_err-tree c = search rules

pub returns-in_default : goal.returns-in_default
returns-in_default c n h =
    let place : tree_of c.in_ok-tree.tree ≡ in_place c.args.instance.now (tree_of c.args.term.now.tree) =
    c.in_ok-tree.ensures.filled ∙ ap (λ ts. placed (tree_of c.args.instance.now.context) (map tree_of ts) (tree_of c.args.term.now.tree)) c.as_slice-inputs.ensures in
    c.in_default.ensures.none n (subst (IsLabelled c.args.table.now n) (sym place) h)
