use Rattle.std.proofs.Common.{◌-◌, length}
use Rattle.presentation_text.specs.ElementReadings.{IsUnderWay}
use Rattle.presentation_text.specs.TreeReadings.{demands_of}
use Rattle.presentation_text.proofs.ElementReadingsFurther.{OnTheWay}
use Rattle.presentation_text.proofs.terms.further_at.Given as goal

abbrev pub invariant-loop-negative : goal.invariant-loop-negative
invariant-loop-negative l = record {
  way : OnTheWay l.table (demands_of l.least l.arity) l.field l.tokens l.fn.begun l.sum l.next;
  under_way : IsUnderWay l.field l.table (record { sum = l.sum; arity = l.arity; next = l.next });
}

abbrev pub decreases-loop-negative : goal.decreases-loop-negative
decreases-loop-negative l = length l.tokens - l.next
