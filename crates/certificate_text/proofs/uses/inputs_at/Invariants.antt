use Rattle.std.proofs.Common.{◌≤◌, ◌-◌, drop, length, map}
use Rattle.labelled_trees.specs.Meaning.{tree_of}
use Rattle.certificate_text.specs.BlockReadings.{inputs_in}
use Rattle.certificate_text.proofs.UseReading.{GoesOn}
use Rattle.certificate_text.proofs.uses.inputs_at.Given as goal

abbrev pub invariant-loop-next : goal.invariant-loop-next
invariant-loop-next l = record {
  within : l.next ≤ length l.tokens;
  read : GoesOn l.table (inputs_in (length (drop l.at l.tokens)) l.table (drop l.at l.tokens)) (map tree_of l.inputs) (drop l.next l.tokens);
}

abbrev pub decreases-loop-next : goal.decreases-loop-next
decreases-loop-next l = length l.tokens - l.next
