use Rattle.std.proofs.Common.{◌≡◌, ◌∙◌, sym, ap, subst}
use Rattle.std.proofs.lemmas.Result.{IfOk-weaker}
use Rattle.labelled_trees.specs.Meaning.{tree_of}
use Rattle.operad_ideals.specs.Spelling.{IsSorted}
use Rattle.shuffle_transfer.specs.Labels.{symmetric_tree}
use Rattle.symmetric_trees.specs.Generators.{parts_at, generators_of}
use Rattle.symmetric_trees.specs.Trees.{IsLabelled}
use Rattle.symmetric_trees.specs.declared.spelling.Sign.TheVariants.{Plus}
use Rattle.shuffle_passage.specs.Passage.{IsFormOf}
use Rattle.shuffle_passage.proofs.ThereAndBack.{back_sorted, back_form}
use Rattle.shuffle_passage.proofs.spelling_back.to_symmetric.Goals as goal

pub returns-clause-sorted : goal.returns-clause-sorted
returns-clause-sorted c =
    let gens = c.args.table.now in
    let s = c.args.tree.now in
    IfOk-weaker c.spell_back.result (λ made. tree_of made ≡ symmetric_tree (generators_of gens) (tree_of c.shape.result.now)) (λ made. IsSorted (parts_at gens) (tree_of made))
    (λ made e. subst (IsSorted (parts_at gens)) (sym (e ∙ ap (symmetric_tree (generators_of gens)) c.shape.ensures.shape)) (back_sorted gens s c.shape.ensures.valid c.requires.belongs))
    c.spell_back.ensures.tree

pub returns-clause-back : goal.returns-clause-back
returns-clause-back c n h =
    let gens = c.args.table.now in
    let s = c.args.tree.now in
    IfOk-weaker c.spell_back.result (λ made. tree_of made ≡ symmetric_tree (generators_of gens) (tree_of c.shape.result.now)) (λ made. IsLabelled gens n (tree_of made) × IsFormOf gens (tree_of made) Plus s)
    (λ made e. subst (λ t. IsLabelled gens n t × IsFormOf gens t Plus s) (sym (e ∙ ap (symmetric_tree (generators_of gens)) c.shape.ensures.shape)) (back_form gens n s h c.requires.belongs))
    c.spell_back.ensures.tree
