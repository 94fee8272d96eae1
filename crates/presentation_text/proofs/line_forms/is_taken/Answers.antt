use Rattle.std.proofs.Common.{◌∙◌, ap, sym}
use Rattle.std.specs.Option.{is_some}
use Rattle.presentation_text.proofs.Names.{index_found}
use Rattle.presentation_text.proofs.line_forms.is_taken.Goals as goal

pub returns : goal.returns
returns c =
    c.is_some.ensures
    ∙ sym (ap is_some (index_found c.args.table.now c.args.name.now c.find.result c.requires.table c.find.ensures.found c.find.ensures.absent))
