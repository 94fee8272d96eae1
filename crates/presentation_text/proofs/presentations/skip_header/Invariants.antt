use Rattle.std.proofs.Common.{◌≡◌, length}
use Rattle.presentation_text.specs.DocumentDrafts.{IsRestFrom}
use Rattle.presentation_text.specs.DocumentReadings.{document_from, read_text}
use Rattle.presentation_text.specs.Lines.{lines}
use Rattle.presentation_text.proofs.presentations.skip_header.Given as goal

abbrev pub invariant-loop-line : goal.invariant-loop-line
invariant-loop-line l = record {
  stands : IsRestFrom l.bytes 1 l.number l.rest;
  read : read_text l.bytes ≡ document_from l.number (lines l.rest);
}

abbrev pub decreases-loop-line : goal.decreases-loop-line
decreases-loop-line l = length l.rest
