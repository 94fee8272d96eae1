use Rattle.std.proofs.Common.{◌≡◌, ◌++◌, drop, map}
use Rattle.labelled_trees.specs.Meaning.{tree_of}
use Rattle.presentation_text.specs.DocumentText.{blank_before}
use Rattle.certificate_text.specs.PrintedBlocks.{input_words}
use Rattle.certificate_text.proofs.writing.write_inputs.Given as goal

abbrev pub invariant-loop-input : goal.invariant-loop-input
invariant-loop-input l =
    l.out.items ++ blank_before (input_words l.table (map tree_of (drop l.input-index l.inputs)))
    ≡ l.fn.out.items ++ blank_before (input_words l.table (map tree_of l.inputs))
