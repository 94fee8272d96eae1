use Rattle.operad_run.proofs.AnswerSteps.{some_arity}
use Rattle.operad_run.proofs.forms.write_answer.Goals as goal

pub collected-requires-clause-residues : goal.collected-requires-clause-residues
collected-requires-clause-residues c = c.requires.fits.residues

pub collected-requires-clause-fit : goal.collected-requires-clause-fit
collected-requires-clause-fit c = c.requires.fits.trees

pub write_sum-requires-clause-fit : goal.write_sum-requires-clause-fit
write_sum-requires-clause-fit c k d l =
    let n = some_arity c.args.sum.now c.arity-arity.result c.arity-arity.ensures.arity in
    (c.in_ok-form.ensures.labelled n.0 n.1 k d l).fits
