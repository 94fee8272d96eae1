use Rattle.std.proofs.Common.{◌≡◌, ◌++◌, [], codes, drop, map}
use Rattle.std.specs.List.{flat_map}
use Rattle.presentation_text.specs.DocumentText.{line_of}
use Rattle.certificate_text.specs.Plain.{plain_block, plain_step}
use Rattle.certificate_text.specs.PrintedBlocks.{block_text, step_text}
use Rattle.certificate_text.proofs.writing.write_block.Given as goal

abbrev pub invariant-loop-step : goal.invariant-loop-step
invariant-loop-step l =
    l.out.items ++ (flat_map (step_text l.document.field l.document.gens) (map plain_step (drop l.step-index l.step-items)) ++ line_of (codes "end") [])
    ≡ l.fn.out.items ++ block_text l.document.field l.document.gens (plain_block l.block)
