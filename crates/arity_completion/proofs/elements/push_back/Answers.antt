use Rattle.std.proofs.Common.{◌∙◌, ◌++◌, ◌∷◌, [], Err, ap, subst, sym, ℕ}
use Rattle.labelled_trees.specs.Labelled.{Fits}
use Rattle.labelled_trees.specs.Meaning.{tree_of}
use Rattle.labelled_trees.specs.Trees.{Tree}
use Rattle.labelled_trees.proofs.Numbered.{numbered_of_labelled}
use Rattle.shuffle_transfer.specs.Labels.{inputs_of, symmetric_tree}
use Rattle.std.proofs.lemmas.List.{map-append}
use Rattle.symmetric_trees.specs.Trees.{IsLabelled}
use Rattle.symmetric_sums.specs.Calls.{TermIsAdded}
use Rattle.symmetric_sums.specs.Terms.{terms_of}
use Rattle.symmetric_sums.specs.declared.term.Term.{Term}
use Rattle.shuffle_passage.proofs.RenamedTerms.{with_one}
use Rattle.arity_completion.proofs.elements.push_back.Goals as goal
use Rattle.symmetric_trees.specs.Generators.{generators_of}

pub to_symmetric-requires : goal.to_symmetric-requires
to_symmetric-requires c = record { belongs = subst (λ gens. Fits (inputs_of (generators_of gens)) c.args.term.now.1) (sym c.table.ensures.table) c.requires.arity.1.fits }

pub add_term-requires-clause-labelled : goal.add_term-requires-clause-labelled
add_term-requires-clause-labelled c =
    (c.requires.arity.0, subst (λ gens. IsLabelled gens c.requires.arity.0 (tree_of c.in_ok-tree.tree)) (c.table.ensures.table ∙ sym c.table-2.ensures.table) (c.in_ok-tree.ensures.back c.requires.arity.0 c.requires.arity.1.shuffle).0)

pub unreachable-requires : goal.unreachable-requires
unreachable-requires c =
    let k = subst (λ r. TermIsAdded c.args.term.now.0 c.in_ok-tree.tree c.args.sum.now r c.add_term.new.self) (c.in-Err-ArityDiffers.is ∙ ap Err c.in-Err-ArityDiffers.field-0-is) c.add_term.ensures.answer in
    k.1 (λ positive. (c.requires.arity.0, numbered_of_labelled (c.in_ok-tree.ensures.back c.requires.arity.0 c.requires.arity.1.shuffle).0, c.requires.arity.2))

pub returns-in-Ok : goal.returns-in-Ok
returns-in-Ok c =
    let k = subst (λ r. TermIsAdded c.args.term.now.0 c.in_ok-tree.tree c.args.sum.now r c.add_term.new.self) c.in-Ok.is c.add_term.ensures.answer in
    let last : Term = record { coef = c.args.term.now.0; tree = c.in_ok-tree.tree } in
    ap terms_of (with_one c.args.term.now.0 c.in_ok-tree.tree c.args.sum.now c.add_term.new.self c.requires.residue.0 k.0)
    ∙ map-append (λ (x : Term). (x.coef, tree_of x.tree)) c.args.sum.now (record { coef = c.args.term.now.0; tree = c.in_ok-tree.tree } ∷ [])
    ∙ ap (λ (t : Tree ℕ). terms_of c.args.sum.now ++ (c.args.term.now.0, t) ∷ []) (c.in_ok-tree.ensures.tree ∙ ap (λ gens. symmetric_tree (generators_of gens) c.args.term.now.1) c.table.ensures.table)
