use Rattle.std.proofs.Common.{◌≡◌, ◌<◌, ◌+◌, ◌^◌, [], length}
use Rattle.presentation_text.specs.Lines.{lines}
use Rattle.certificate_text.specs.BlockReadings.{base_of, between, blocks_from}
use Rattle.certificate_text.specs.PlaceReadings.{follow_of}
use Rattle.certificate_text.proofs.reading.blocks_of.Given as goal

abbrev pub invariant-loop-line : goal.invariant-loop-line
invariant-loop-line l = record {
  few : l.number + length l.rest < 2 ^ 32;
  read : blocks_from (base_of l.document) (between, []) l.first (lines l.text) ≡ blocks_from (base_of l.document) (follow_of l.now) l.number (lines l.rest);
}

abbrev pub decreases-loop-line : goal.decreases-loop-line
decreases-loop-line l = length l.rest
