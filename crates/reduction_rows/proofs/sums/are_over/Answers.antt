use Rattle.std.proofs.Common.{◌<◌, ℕ, subst, refl, arith}
use Rattle.std.specs.List.{All}
use Rattle.std.proofs.lemmas.List.{take_all}
use Rattle.std.proofs.lemmas.List.Elements.{All-more}
use Rattle.labelled_trees.specs.Trees.{Tree}
use Rattle.shuffle_insertions.specs.ShuffleTrees.{IsShuffleTree}
use Rattle.shuffle_trees.specs.LabelLists.{arity_in}
use Rattle.reduction_rows.proofs.sums.are_over.Goals as goal

pub loop-term-preserved : goal.loop-term-preserved
loop-term-preserved c =
    let small : c.term-item.result.0 < c.args.prime = omega arith in
    All-more (λ (x : ℕ × Tree ℕ). (x.0 < c.args.prime) × IsShuffleTree (arity_in c.args.labels.now) c.args.arity x.1) c.args.terms.now c.loop-term.term-index c.term-item.result c.loop-term-test.true c.loop-term.invariant
    (subst (λ (x : ℕ × Tree ℕ). (x.0 < c.args.prime) × IsShuffleTree (arity_in c.args.labels.now) c.args.arity x.1) c.term-item.is (small, c.if-not-is_over.ensures refl))

pub returns : goal.returns
returns c e = subst (All (λ (x : ℕ × Tree ℕ). (x.0 < c.args.prime) × IsShuffleTree (arity_in c.args.labels.now) c.args.arity x.1)) (take_all c.loop-term.term-index c.args.terms.now c.loop-term-test.false) c.loop-term.invariant
