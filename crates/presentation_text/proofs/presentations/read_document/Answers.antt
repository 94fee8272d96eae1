use Rattle.std.proofs.Common.{◌∙◌}
use Rattle.presentation_text.specs.DocumentDrafts.{tail_number}
use Rattle.presentation_text.specs.DraftReadings.{contents_of}
use Rattle.presentation_text.proofs.DocumentReadingsRest.{is_tail, rest_joined}
use Rattle.presentation_text.proofs.ElementsAccepted.{elements_accepted}
use Rattle.presentation_text.proofs.ContentsLines.{documents_well}
use Rattle.presentation_text.proofs.TreesAccepted.{all_accepted}
use Rattle.presentation_text.proofs.WritableDocuments.{written_document}
use Rattle.presentation_text.proofs.presentations.read_document.Goals as goal

pub returns-in-Ok-clause-document : goal.returns-in-Ok-clause-document
returns-in-Ok-clause-document c =
    let header = c.in_ok-header.header in
    let read = c.in_ok-read.read in
    let found = c.in_ok-read.ensures in
    record {
      whole = record { contents = contents_of read.draft; tail = tail_number read.left read.number };
      reading_is = c.in_ok-header.ensures.read ∙ found.reading_is;
      says = c.in-Ok.ensures.says;
      tail_is =
          is_tail c.args.bytes.now found.rest read.left read.number c.in-Ok.document.tail
          (rest_joined c.args.bytes.now header.rest.now found.rest 1 header.number read.number c.in_ok-header.ensures.stands found.stands) found.left_is c.in-Ok.ensures.tail;
    }

pub returns-in-Ok-clause-formed : goal.returns-in-Ok-clause-formed
returns-in-Ok-clause-formed c =
    let read = c.in_ok-read.read in
    let found = c.in_ok-read.ensures in
    written_document (contents_of read.draft) c.in-Ok.document
    (documents_well (elements_accepted all_accepted) c.args.bytes.now (record { contents = contents_of read.draft; tail = tail_number read.left read.number }) (c.in_ok-header.ensures.read ∙ found.reading_is)) c.in-Ok.ensures.says
