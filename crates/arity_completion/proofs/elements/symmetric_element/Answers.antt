use Rattle.std.proofs.Common.{◌∙◌, ap, subst, sym, ℕ, ◌<◌, arith, take}
use Rattle.std.specs.List.{All}
use Rattle.labelled_trees.specs.Trees.{Tree}
use Rattle.labelled_trees.specs.Meaning.{tree_of}
use Rattle.symmetric_trees.specs.Trees.{Fits}
use Rattle.symmetric_sums.specs.Terms.{HaveResidues, terms_of}
use Rattle.symmetric_sums.specs.declared.term.Term.{Term}
use Rattle.modular_sums.specs.Sums.{moved}
use Rattle.shuffle_insertions.specs.ShuffleTrees.{IsShuffleTree}
use Rattle.shuffle_transfer.specs.Labels.{inputs_of, symmetric_tree}
use Rattle.arity_completion.proofs.Backs.{have_arity, taken_all, collected_element, have_residues, are_fit, take_terms, term_at, back_more}
use Rattle.arity_completion.proofs.elements.symmetric_element.Goals as goal
use Rattle.symmetric_trees.specs.Generators.{generators_of}

pub push_back-requires : goal.push_back-requires
push_back-requires c =
    let gens = c.args.log.now.gens in
    let l = c.args.terms.now in
    let i = c.loop-term.term-index in
    let n = c.requires.trees.0 in
    let P = IsShuffleTree (inputs_of (generators_of c.args.log.now.gens)) c.requires.trees.0 in
    record {
      residue = subst (λ (x : ℕ × Tree ℕ). (0 < x.0) × (x.0 < c.args.log.now.field)) (sym c.term-item.is) (c.requires.residues i c.term-item.result c.loop-term-test.true);
      arity = (
        n,
        subst (λ (x : ℕ × Tree ℕ). IsShuffleTree (inputs_of (generators_of c.args.log.now.gens)) c.requires.trees.0 x.1) (sym c.term-item.is) (term_at P i l c.term-item.result c.loop-term-test.true c.requires.trees.1),
        have_arity c.args.log.now.field gens n c.loop-term.sum (take i l) c.loop-term.invariant (take_terms P i l c.requires.trees.1),
      );
    }

pub loop-term-preserved : goal.loop-term-preserved
loop-term-preserved c =
    back_more (symmetric_tree (generators_of c.args.log.now.gens)) c.args.terms.now c.loop-term.term-index c.term-item.result (terms_of c.loop-term.sum) (terms_of c.push_back.new.sum) c.loop-term-test.true c.term-item.is c.loop-term.invariant
    c.in_ok-push_back.ensures

pub collected-requires-clause-residues : goal.collected-requires-clause-residues
collected-requires-clause-residues c =
    let l = c.args.terms.now in
    let is = c.loop-term.invariant ∙ ap (moved (symmetric_tree (generators_of c.args.log.now.gens))) (taken_all l c.loop-term.term-index (omega (arith, c.loop-term-test.false))) in
    subst (λ p. HaveResidues p c.loop-term.sum) (sym c.field.ensures.field)
    (have_residues c.args.log.now.field c.args.log.now.gens c.requires.trees.0 c.loop-term.sum l is c.requires.residues)

pub collected-requires-clause-fit : goal.collected-requires-clause-fit
collected-requires-clause-fit c =
    let l = c.args.terms.now in
    let is = c.loop-term.invariant ∙ ap (moved (symmetric_tree (generators_of c.args.log.now.gens))) (taken_all l c.loop-term.term-index (omega (arith, c.loop-term-test.false))) in
    subst (λ gens. All (λ (t : Term). Fits gens (tree_of t.tree)) c.loop-term.sum) (sym c.table.ensures.table)
    (are_fit c.args.log.now.field c.args.log.now.gens c.requires.trees.0 c.loop-term.sum l is c.requires.trees.1)

pub returns : goal.returns
returns c =
    let l = c.args.terms.now in
    let m = c.args.log.now.field in
    let gens = c.args.log.now.gens in
    let is = c.loop-term.invariant ∙ ap (moved (symmetric_tree (generators_of c.args.log.now.gens))) (taken_all l c.loop-term.term-index (omega (arith, c.loop-term-test.false))) in
    record {
      element = collected_element c.args.log.now.field c.field.result c.args.log.now.gens c.table.result.now c.args.log.now.rels c.requires.trees.0 l c.loop-term.sum c.field.ensures.field c.table.ensures.table c.requires.trees.1 is c.collected.result
          c.collected.ensures.collected c.collected.ensures.residues c.collected.ensures.labelled;
    }
