use Rattle.std.proofs.Common.{◌∙◌, ◌<◌, length, map, get_or, ap, subst, arith}
use Rattle.labelled_trees.specs.Meaning.{tree_of}
use Rattle.shuffle_passage.proofs.RenamedTerms.{renamed-more, fits-push, arity-push}
use Rattle.shuffle_passage.proofs.relabelling.renamed.Goals as goal

pub loop-term-preserved : goal.loop-term-preserved
loop-term-preserved c =
    let items = c.terms-term-items.result.now in
    let i = c.loop-term.term-index in
    let term = c.term-item.result in
    let k = c.in_ok-push_renamed.ensures in
    let leaves = ap (map tree_of) c.as_slice.ensures ∙ c.in_ok-leaves.ensures in
    let same = c.terms-term-items.ensures.terms in
    let small = c.requires.fits.residues i term (subst (λ xs. i < length xs) same c.loop-term-test.true) in
    record {
      terms = renamed-more c.args.permutation.now (map tree_of c.as_slice.result.now) items i term k.last c.loop-term.sum c.push_renamed.new.sum c.loop-term-test.true c.term-item.is leaves k.behind k.coef_is k.tree_is c.loop-term.invariant.terms;
      fits = fits-push c.args.field c.args.table.now c.args.arity c.loop-term.sum c.push_renamed.new.sum k.last c.loop-term.invariant.fits k.behind (omega (arith, small, k.coef_is, ap (λ x. x.coef) (c.term-item.is ∙ ap (λ xs. get_or xs i term) same))) k.labelled;
      arity = arity-push c.args.table.now c.args.arity c.loop-term.sum c.push_renamed.new.sum k.last c.loop-term.invariant.arity k.behind k.labelled;
    }
