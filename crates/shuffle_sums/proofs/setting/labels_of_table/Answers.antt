use Rattle.std.proofs.Common.{◌≡◌, ◌∙◌, ap, sym, subst}
use Rattle.std.proofs.lemmas.Result.{IfOk-weaker}
use Rattle.shuffle_trees.specs.LabelLists.{AreFew, labels_of_kinds}
use Rattle.shuffle_sums.specs.LabelArities.{AreLabelArities}
use Rattle.shuffle_sums.proofs.LabelKinds.{few_arities, label_arities}
use Rattle.shuffle_sums.proofs.setting.labels_of_table.Goals as goal

pub of-requires : goal.of-requires
of-requires c =
    let all = c.as_slice.ensures.value ∙ c.in_ok-kinds.ensures in
    record { few = subst (λ ks. AreFew (labels_of_kinds ks)) (sym all) (few_arities c.args.table.now c.len.ensures.table) }

pub returns : goal.returns
returns c =
    let gens = c.args.table.now in
    let all = c.as_slice.ensures.value ∙ c.in_ok-kinds.ensures in
    IfOk-weaker c.of.result (λ labels. labels ≡ labels_of_kinds c.as_slice.result.now) (AreLabelArities gens)
    (λ labels e. subst (AreLabelArities gens) (sym (e ∙ ap labels_of_kinds all)) (label_arities gens c.len.ensures.table)) c.of.ensures.labels
