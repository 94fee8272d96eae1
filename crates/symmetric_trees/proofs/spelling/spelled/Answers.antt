use Rattle.std.proofs.Common.{◌∙◌, sym, subst}
use Rattle.labelled_trees.specs.Meaning.{tree_of}
use Rattle.operad_ideals.specs.Spelling.{IsSpelling}
use Rattle.operad_ideals.specs.Sorting.{spelled_sign}
use Rattle.operad_ideals.proofs.Spellings.{one_spelling}
use Rattle.symmetric_trees.specs.Generators.{parts_at}
use Rattle.symmetric_trees.proofs.spelling.spelled.Goals as goal

pub returns-clause-spelling : goal.returns-clause-spelling
returns-clause-spelling c =
    let one = one_spelling (parts_at c.args.table.now) c.requires.labelled.0 (tree_of c.args.tree.now) c.requires.labelled.1 in
    let t = tree_of c.args.tree.now in
    subst (λ s. IsSpelling (parts_at c.args.table.now) t s (tree_of c.in_ok-sign.branch.tree)) (sym c.in_ok-sign.ensures.sign)
    (subst (λ u. IsSpelling (parts_at c.args.table.now) t (spelled_sign (parts_at c.args.table.now) t) u) (sym c.in_ok-sign.ensures.tree) one.0)

pub returns-clause-only : goal.returns-clause-only
returns-clause-only c s v h =
    let one = one_spelling (parts_at c.args.table.now) c.requires.labelled.0 (tree_of c.args.tree.now) c.requires.labelled.1 in
    let both = one.1 s v h in
    (both.0 ∙ sym c.in_ok-sign.ensures.sign, both.1 ∙ sym c.in_ok-sign.ensures.tree)
