use Rattle.std.proofs.Common.{◌-◌, ◌<◌, ◌%◌, suc, ◌∙◌, sym, ap, subst, arith, ◌++◌, ◌∷◌, [], refl}
use Rattle.std.specs.List.{AllByRecursion}
use Rattle.labelled_trees.specs.Meaning.{tree_of}
use Rattle.symmetric_sums.specs.Collecting.{IsResidue, added, cancelled}
use Rattle.operad_ideals.proofs.LastOnes.{each-pop}
use Rattle.symmetric_sums.proofs.Joining.{trees_differ, trees_agree, apart-last}
use Rattle.symmetric_sums.proofs.collecting.join.Goals as goal

pub returns-then-is_ne : goal.returns-then-is_ne
returns-then-is_ne c =
    apart-last c.args.field c.args.terms.now c.pop.new.self c.push-then-is_ne-2.new.self c.in-Some.last c.args.term c.in-Some.ensures
    (trees_differ c.spelling_order.result (tree_of c.in-Some.last.tree) (tree_of c.args.term.tree) c.if-is_ne.ensures c.spelling_order.ensures.compared)
    (c.in_ok-push-3.ensures.ok ∙ ap (λ xs. xs ++ c.args.term ∷ []) c.in_ok-push-2.ensures.ok)

pub add-coef-requires-clause-first : goal.add-coef-requires-clause-first
add-coef-requires-clause-first c =
    (each-pop (IsResidue c.args.field) c.pop.new.self c.in-Some.last (subst (AllByRecursion (IsResidue c.args.field)) c.in-Some.ensures c.requires.residues)).1.1

pub returns-in_ok-push-4 : goal.returns-in_ok-push-4
returns-in_ok-push-4 c =
    added c.pop.new.self c.in-Some.last c.add-coef.result c.in-Some.ensures
    (trees_agree c.spelling_order.result (tree_of c.in-Some.last.tree) (tree_of c.args.term.tree) c.if-is_ne.ensures c.spelling_order.ensures.compared)
    (let positive : 0 < c.add-coef.result = omega arith in (positive, c.add-coef.ensures.residue)) c.add-coef.ensures.sum c.in_ok-push-4.ensures.ok

pub returns-else-coef-ne0 : goal.returns-else-coef-ne0
returns-else-coef-ne0 c =
    cancelled c.pop.new.self c.in-Some.last c.in-Some.ensures
    (trees_agree c.spelling_order.result (tree_of c.in-Some.last.tree) (tree_of c.args.term.tree) c.if-is_ne.ensures c.spelling_order.ensures.compared)
    (ap (λ n. n % suc (c.args.field - 1)) (sym c.if-coef-ne0.false) ∙ c.add-coef.ensures.sum) refl
