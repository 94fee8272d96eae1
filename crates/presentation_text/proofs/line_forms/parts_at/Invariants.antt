use Rattle.std.proofs.Common.{◌≤◌, ◌-◌, drop, length}
use Rattle.presentation_text.specs.LineReadings.{all_parts_in}
use Rattle.presentation_text.proofs.LineReadingsParts.{Behind}
use Rattle.presentation_text.proofs.line_forms.parts_at.Given as goal

abbrev pub invariant-loop-parts : goal.invariant-loop-parts
invariant-loop-parts l = record {
  within : l.next ≤ length l.tokens;
  small : l.sum ≤ l.arity;
  read : Behind (all_parts_in l.arity 0 (drop l.at l.tokens)) l.parts (all_parts_in l.arity l.sum (drop l.next l.tokens));
}

abbrev pub decreases-loop-parts : goal.decreases-loop-parts
decreases-loop-parts l = length l.tokens - l.next
