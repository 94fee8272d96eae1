use Rattle.certificate_text.proofs.WrittenSums.{said_residues, said_trees}
use Rattle.certificate_text.proofs.writing.write_sum_line.Goals as goal

pub write_sum-requires-clause-residues : goal.write_sum-requires-clause-residues
write_sum-requires-clause-residues c = said_residues c.args.field c.args.table.now c.args.sum.now c.requires.said

pub write_sum-requires-clause-fit : goal.write_sum-requires-clause-fit
write_sum-requires-clause-fit c = said_trees c.args.field c.args.table.now c.args.sum.now c.requires.said
