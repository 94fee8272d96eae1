use Rattle.std.proofs.Common.{◌≡◌, ◌++◌, drop}
use Rattle.presentation_text.specs.DocumentText.{blank_before, part_words}
use Rattle.presentation_text.proofs.document_writing.write_parts.Given as goal

abbrev pub invariant-loop-part : goal.invariant-loop-part
invariant-loop-part l = l.out.items ++ blank_before (part_words (drop l.part-index l.parts)) ≡ l.fn.out.items ++ blank_before (part_words l.parts)
