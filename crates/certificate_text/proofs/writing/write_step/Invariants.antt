use Rattle.std.proofs.Common.{◌≡◌, ◌++◌, drop, map}
use Rattle.std.specs.List.{flat_map}
use Rattle.certificate_text.specs.Plain.{plain_step, plain_use}
use Rattle.certificate_text.specs.PrintedBlocks.{step_text, use_text}
use Rattle.certificate_text.proofs.writing.write_step.Given as goal

abbrev pub invariant-loop-item : goal.invariant-loop-item
invariant-loop-item l =
    l.out.items ++ flat_map (use_text l.field l.table) (map plain_use (drop l.item-index l.item-items))
    ≡ l.fn.out.items ++ step_text l.field l.table (plain_step l.step)
