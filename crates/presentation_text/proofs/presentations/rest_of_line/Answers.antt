use Rattle.presentation_text.specs.DraftReadings.{contents_of}
use Rattle.presentation_text.proofs.DocumentReadingsWords.{field_before, first_field}
use Rattle.presentation_text.proofs.presentations.rest_of_line.Goals as goal

pub field_line-requires-clause-first : goal.field_line-requires-clause-first
field_line-requires-clause-first c = first_field (contents_of c.args.draft) c.args.word.now c.requires.free c.in-field.is

pub rel_line-requires-clause-field : goal.rel_line-requires-clause-field
rel_line-requires-clause-field c = field_before (contents_of c.args.draft) c.args.word.now c.requires.free c.in-rel.not-field

pub query_line-requires-clause-field : goal.query_line-requires-clause-field
query_line-requires-clause-field c = field_before (contents_of c.args.draft) c.args.word.now c.requires.free c.in-query.not-field

pub same_line-requires-clause-field : goal.same_line-requires-clause-field
same_line-requires-clause-field c = field_before (contents_of c.args.draft) c.args.word.now c.requires.free c.in_default.not-field
