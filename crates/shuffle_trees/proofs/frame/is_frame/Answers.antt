use Rattle.std.proofs.Common.{◌∙◌, arith, refl}
use Rattle.labelled_trees.specs.Meaning.{tree_of}
use Rattle.shuffle_trees.proofs.Counts.{no_times}
use Rattle.shuffle_trees.proofs.Inputs.{frame_by, twice_no_frame, holes_no_frame, repeated_no_frame, first_row}
use Rattle.shuffle_trees.proofs.frame.is_frame.Goals as goal

pub count_once-requires : goal.count_once-requires
count_once-requires c k = let e = no_times k in omega (arith, e)

pub returns-then-not-count_once : goal.returns-then-not-count_once
returns-then-not-count_once c = (λ e. absurd cc, λ v. absurd (twice_no_frame (tree_of c.args.context.now) c.args.inputs.now (c.if-not-count_once.ensures.twice refl) v))

pub returns-then-times-ne1 : goal.returns-then-times-ne1
returns-then-times-ne1 c = (
  λ e. absurd cc,
  λ v. absurd (holes_no_frame c.count_once.new.times (tree_of c.args.context.now) c.args.inputs.now (c.if-not-count_once.ensures.added refl) c.if-times-ne1.true v),
)

pub returns-then-not-count_inputs : goal.returns-then-not-count_inputs
returns-then-not-count_inputs c = (
  λ e. absurd cc,
  λ v. absurd (repeated_no_frame c.count_once.new.times (tree_of c.args.context.now) c.args.inputs.now (c.if-not-count_once.ensures.added refl) (c.if-not-count_inputs.ensures.twice refl) v),
)

pub returns : goal.returns
returns c =
    let made = frame_by c.count_once.new.times c.count_inputs.new.times (tree_of c.args.context.now) c.args.inputs.now c.least.result c.least_leaf.result (omega (arith, c.in-len1-up.len_at_least))
    (c.if-not-inputs_rise.ensures.0 refl) (c.least.ensures.least ∙ first_row c.args.inputs.now c.first-item.result (omega (arith, c.in-len1-up.len_at_least)) c.first-item.is)
    (c.if-not-count_once.ensures.added refl) c.if-times-ne1.false (c.if-not-count_inputs.ensures.added refl) c.least_leaf.ensures.ordered c.least_leaf.ensures.none in
    rw c.is_some.ensures made
