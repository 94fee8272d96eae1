use Rattle.std.proofs.Common.{◌≡◌, ◌∙◌, ◌++◌, ap, map, subst, sym}
use Rattle.std.specs.List.{All}
use Rattle.labelled_trees.specs.Meaning.{tree_of}
use Rattle.labelled_trees.specs.declared.Tree as program
use Rattle.symmetric_trees.specs.Trees.{Fits}
use Rattle.presentation_text.specs.DocumentText.{blank_before}
use Rattle.presentation_text.specs.TreeText.{tree_text}
use Rattle.certificate_text.specs.PrintedBlocks.{coefficient_text, input_words, rule_words}
use Rattle.certificate_text.proofs.UseTexts.{use_grown}
use Rattle.certificate_text.proofs.WrittenSums.{inputs_fit}
use Rattle.certificate_text.proofs.writing.write_use.Goals as goal

pub write_inputs-requires : goal.write_inputs-requires
write_inputs-requires c = record {
  fit = subst (All (λ (tree : program.Tree). Fits c.args.table.now (tree_of tree))) (sym c.as_slice.ensures) (inputs_fit c.args.field c.args.table.now c.args.item.now.inputs c.requires.writable.inputs);
}

pub returns : goal.returns
returns c =
    let inputs = input_words c.args.table.now (map tree_of c.args.item.now.inputs) in
    let last : c.write_inputs.new.out.items ≡ c.write_rule.new.out.items ++ blank_before inputs =
    c.in_ok-write_inputs.ensures ∙ ap (λ trees. c.write_rule.new.out.items ++ blank_before (input_words c.args.table.now (map tree_of trees))) c.as_slice.ensures in
    use_grown c.args.out.now.items c.write_word.new.out.items c.write_coefficient.new.out.items c.write_word-2.new.out.items c.write_tree.new.out.items c.write_word-3.new.out.items
    c.write_rule.new.out.items c.write_inputs.new.out.items c.push.new.self.items (coefficient_text c.args.field c.args.item.now.coef) (tree_text c.args.table.now (tree_of c.args.item.now.context))
    (rule_words c.args.item.now.rule) inputs c.in_ok-write_word.ensures c.in_ok-write_coefficient.ensures c.in_ok-write_word-2.ensures c.in_ok-write_tree.ensures.text
    c.in_ok-write_word-3.ensures c.in_ok-write_rule.ensures last c.in_ok-push.ensures.items
