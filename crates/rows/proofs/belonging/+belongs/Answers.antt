use Rattle.std.proofs.Common.{◌≡◌, ◌∙◌, take, sym, subst, arith}
use Rattle.std.proofs.lemmas.List.{take_all}
use Rattle.std.specs.List.{AllByRecursion}
use Rattle.labelled_trees.specs.Labelled.{Fits}
use Rattle.labelled_trees.specs.Meaning.{tree_of}
use Rattle.labelled_trees.proofs.ProgramTrees.{fits-node}
use Rattle.shuffle_trees.specs.LabelLists.{arity_in}
use Rattle.rows.proofs.belonging.+belongs.Goals as goal

pub returns-after-loop-input : goal.returns-after-loop-input
returns-after-loop-input t c e =
    let a = arity_in c.args.labels.now in
    let l = c.in-Node.label in
    let ts = c.in-Node.inputs in
    let all : take c.loop-input.input-index c.as_slice-input-items.result.now ≡ ts = take_all c.loop-input.input-index c.as_slice-input-items.result.now c.loop-input-test.false ∙ c.as_slice-input-items.ensures in
    subst (λ u. Fits a (tree_of u)) (sym c.in-Node.is)
    (fits-node a l ts (omega (arith, c.arity.ensures.arity, c.arity.ensures.wide)) (omega (arith, c.arity.ensures.arity, c.len-in-Node.ensures, c.if-len-arity.false))
    (subst (AllByRecursion (λ u. Fits a (tree_of u))) all c.loop-input.invariant))
