use Rattle.presentation_text.proofs.ElementReadingsSums.{over-push, joins, never_differs}
use Rattle.presentation_text.proofs.terms.add.Goals as goal

pub unreachable-requires : goal.unreachable-requires
unreachable-requires c =
    never_differs c.residue-coef.result c.args.term.tree.tree c.args.sum.now c.add_term.new.self c.in-Err-ArityDiffers.field-0 c.in-Err-ArityDiffers.field-0-is c.in-Err-ArityDiffers.ensures.answer
    (joins c.args.field c.args.table.now c.args.term.tree.leaves c.args.sum.now c.residue-coef.result c.args.term.tree.tree c.requires.over c.requires.labelled)

pub returns-in-Ok-clause-over : goal.returns-in-Ok-clause-over
returns-in-Ok-clause-over c =
    over-push c.args.field c.args.table.now c.args.term.tree.leaves c.args.sum.now c.add_term.new.self c.residue-coef.result c.args.term.tree.tree c.requires.over c.requires.labelled
    c.residue-coef.ensures.small c.in-Ok.ensures.answer.0
