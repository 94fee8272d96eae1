use Rattle.std.proofs.Common.{subst, refl}
use Rattle.std.specs.List.{All}
use Rattle.symmetric_sums.specs.Terms.{FitsOver}
use Rattle.certificate_check.specs.Blocks.{AreCheckable}
use Rattle.call_rows.proofs.checking.checked.Goals as goal

pub check_block-requires-clause-rels : goal.check_block-requires-clause-rels
check_block-requires-clause-rels c = let d = c.args.document.now in subst (All (FitsOver d.field d.gens)) c.as_slice-rels.ensures (c.if-not-all_fit.ensures refl)

pub check_block-requires-clause-steps : goal.check_block-requires-clause-steps
check_block-requires-clause-steps c = let d = c.args.document.now in subst (AreCheckable d.field d.gens) c.as_slice.ensures (c.if-not-are_checkable.ensures refl)
