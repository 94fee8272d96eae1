use Rattle.std.proofs.Common.{sym}
use Rattle.labelled_trees.specs.Meaning.{tree_of}
use Rattle.operad_ideals.specs.Sorting.{spelled, spelled_sign}
use Rattle.operad_ideals.proofs.Spellings.{one_spelling}
use Rattle.symmetric_trees.specs.Generators.{parts_at}
use Rattle.symmetric_sums.proofs.SpelledTerms.{signed_residue}
use Rattle.symmetric_sums.proofs.collecting.spelled_term.Goals as goal

pub returns : goal.returns
returns c =
    let parts = parts_at c.args.table.now in
    let t = tree_of c.args.term.now.tree in
    let one = (one_spelling parts c.requires.labelled.0 t c.requires.labelled.1).0 in
    let found = c.in_ok-sign.ensures.only (spelled_sign parts t) (spelled parts t) one in
    let number = signed_residue c.args.field c.args.term.now.coef c.signed.result c.in_ok-sign.sign (spelled_sign parts t) found.0 c.requires.residue.0 c.requires.residue.1 c.signed.ensures.plus c.signed.ensures.minus in
    record {
      coef = number.0;
      residue = (number.1, number.2);
      tree = sym found.1;
    }
