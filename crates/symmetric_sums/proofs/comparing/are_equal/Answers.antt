use Rattle.std.proofs.Common.{◌<◌, arith, length}
use Rattle.labelled_trees.specs.Meaning.{tree_of}
use Rattle.symmetric_sums.proofs.EqualTerms.{terms-at, terms-more}
use Rattle.symmetric_sums.proofs.Joining.{trees_differ, trees_agree}
use Rattle.symmetric_sums.proofs.comparing.are_equal.Goals as goal

pub returns-then-term-against : goal.returns-then-term-against
returns-then-term-against c = (
  λ e. absurd cc,
  λ h.
      let within : c.loop-at.at < length c.args.other.now = omega (arith, c.loop-at-test.true, c.if-one-other.false) in
      absurd (c.if-term-against.true (terms-at c.args.one.now c.args.other.now c.loop-at.at c.index-one-at.result c.index-other-at.result c.loop-at-test.true within c.index-one-at.is c.index-other-at.is h).0),
)

pub returns-then-is_ne : goal.returns-then-is_ne
returns-then-is_ne c = (
  λ e. absurd cc,
  λ h.
      let within : c.loop-at.at < length c.args.other.now = omega (arith, c.loop-at-test.true, c.if-one-other.false) in
      absurd (trees_differ c.spelling_order.result (tree_of c.index-one-at.result.tree) (tree_of c.index-other-at.result.tree) c.if-is_ne.ensures c.spelling_order.ensures.compared
      (terms-at c.args.one.now c.args.other.now c.loop-at.at c.index-one-at.result c.index-other-at.result c.loop-at-test.true within c.index-one-at.is c.index-other-at.is h).1),
)

pub loop-at-preserved : goal.loop-at-preserved
loop-at-preserved c =
    let within : c.loop-at.at < length c.args.other.now = omega (arith, c.loop-at-test.true, c.if-one-other.false) in
    terms-more c.args.one.now c.args.other.now c.loop-at.at c.index-one-at.result c.index-other-at.result c.loop-at-test.true within c.index-one-at.is c.index-other-at.is c.loop-at.invariant
    c.if-term-against.false (trees_agree c.spelling_order.result (tree_of c.index-one-at.result.tree) (tree_of c.index-other-at.result.tree) c.if-is_ne.ensures c.spelling_order.ensures.compared)
