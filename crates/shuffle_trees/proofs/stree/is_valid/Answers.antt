use Rattle.std.proofs.Common.{arith, refl}
use Rattle.labelled_trees.specs.Meaning.{tree_of}
use Rattle.shuffle_trees.proofs.Counts.{no_times}
use Rattle.shuffle_trees.proofs.Validity.{twice_invalid, zero_invalid, valid_by}
use Rattle.shuffle_trees.proofs.stree.is_valid.Goals as goal

pub count_once-requires : goal.count_once-requires
count_once-requires c k = let e = no_times k in omega (arith, e)

pub returns-then-not-count_once : goal.returns-then-not-count_once
returns-then-not-count_once c = (λ e. absurd cc, λ v. absurd (twice_invalid (tree_of c.args.shape.now) (c.if-not-count_once.ensures.twice refl) v))

pub returns-then-times-ne0 : goal.returns-then-times-ne0
returns-then-times-ne0 c = (
  λ e. absurd cc,
  λ v. absurd (zero_invalid c.count_once.new.times (tree_of c.args.shape.now) (c.if-not-count_once.ensures.added refl) c.if-times-ne0.true v),
)

pub returns : goal.returns
returns c =
    let made = valid_by c.count_once.new.times (tree_of c.args.shape.now) c.least_leaf.result (c.if-not-count_once.ensures.added refl) c.if-times-ne0.false c.least_leaf.ensures.ordered c.least_leaf.ensures.none in
    rw c.is_some.ensures made
