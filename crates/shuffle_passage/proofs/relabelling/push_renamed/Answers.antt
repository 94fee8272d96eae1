use Rattle.std.proofs.Common.{◌∙◌, Err, length, map, ap, subst, refl}
use Rattle.std.proofs.Math.ListN.{length-map}
use Rattle.labelled_trees.specs.Meaning.{tree_of}
use Rattle.labelled_trees.proofs.Numbered.{numbered_of_labelled}
use Rattle.symmetric_sums.specs.Calls.{TermIsAdded}
use Rattle.shuffle_passage.proofs.RenamedTerms.{leaves_within, renamed_labelled, with_one}
use Rattle.shuffle_passage.proofs.relabelling.push_renamed.Goals as goal

pub graft-requires : goal.graft-requires
graft-requires c =
    let o = c.requires.ordering in
    record { numbers = leaves_within c.args.table.now c.args.arity (tree_of c.args.term.now.tree) o.0 (map tree_of c.args.leaves.now) (length c.args.leaves.now) o.1 o.2 c.requires.labelled (length-map c.args.leaves.now tree_of) }

pub add_term-requires-clause-labelled : goal.add_term-requires-clause-labelled
add_term-requires-clause-labelled c =
    let o = c.requires.ordering in
    (c.args.arity, renamed_labelled c.args.table.now c.args.arity (tree_of c.args.term.now.tree) (tree_of c.in_ok-tree.tree) o.0 (map tree_of c.args.leaves.now) o.1 o.2 c.requires.labelled c.in_ok-tree.ensures.grafted)

pub unreachable-requires : goal.unreachable-requires
unreachable-requires c =
    let o = c.requires.ordering in
    let labelled = renamed_labelled c.args.table.now c.args.arity (tree_of c.args.term.now.tree) (tree_of c.in_ok-tree.tree) o.0 (map tree_of c.args.leaves.now) o.1 o.2 c.requires.labelled c.in_ok-tree.ensures.grafted in
    let k = subst (λ r. TermIsAdded c.args.term.now.coef c.in_ok-tree.tree c.args.sum.now r c.add_term.new.self) (c.in-Err-ArityDiffers.is ∙ ap Err c.in-Err-ArityDiffers.field-0-is) c.add_term.ensures.answer in
    k.1 (λ positive. (c.args.arity, numbered_of_labelled labelled, c.requires.arity))

pub returns-in-Ok : goal.returns-in-Ok
returns-in-Ok c =
    let o = c.requires.ordering in
    let labelled = renamed_labelled c.args.table.now c.args.arity (tree_of c.args.term.now.tree) (tree_of c.in_ok-tree.tree) o.0 (map tree_of c.args.leaves.now) o.1 o.2 c.requires.labelled c.in_ok-tree.ensures.grafted in
    let k = subst (λ r. TermIsAdded c.args.term.now.coef c.in_ok-tree.tree c.args.sum.now r c.add_term.new.self) c.in-Ok.is c.add_term.ensures.answer in
    record {
      last = record { coef = c.args.term.now.coef; tree = c.in_ok-tree.tree };
      behind = with_one c.args.term.now.coef c.in_ok-tree.tree c.args.sum.now c.add_term.new.self c.requires.nonzero k.0;
      coef_is = refl;
      tree_is = c.in_ok-tree.ensures.grafted;
      labelled = labelled;
    }
