use Rattle.std.proofs.Common.{◌≡◌, length}
use Rattle.presentation_text.specs.DocumentDrafts.{IsRestFrom}
use Rattle.presentation_text.specs.DocumentReadings.{lines_from}
use Rattle.presentation_text.specs.DraftReadings.{IsSoundDraft, contents_of}
use Rattle.presentation_text.specs.LineReadings.{contents_by_header}
use Rattle.presentation_text.specs.Lines.{lines}
use Rattle.presentation_text.proofs.presentations.read_presentation.Given as goal

abbrev pub invariant-loop-line : goal.invariant-loop-line
invariant-loop-line l = record {
  stands : IsRestFrom l.header.rest.now l.header.number l.number l.rest;
  read : lines_from (contents_by_header l.header.version) l.header.number (lines l.header.rest.now) ≡ lines_from (contents_of l.draft) l.number (lines l.rest);
  sound : IsSoundDraft l.draft;
}

abbrev pub decreases-loop-line : goal.decreases-loop-line
decreases-loop-line l = length l.rest
