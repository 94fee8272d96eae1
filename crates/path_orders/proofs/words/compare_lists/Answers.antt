use Rattle.std.proofs.Common.{◌∙◌, arith}
use Rattle.path_orders.specs.Comparing.{words_by}
use Rattle.path_orders.proofs.WordLists.{ended_less}
use Rattle.path_orders.proofs.words.compare_lists.Goals as goal

pub returns-then-ones-others : goal.returns-then-ones-others
returns-then-ones-others c = record {
  compared = ended_less (words_by c.args.short) c.args.ones.now c.args.others.now c.loop-at.at c.loop-at-test.false (omega (arith, c.loop-at.auto.at-end, c.if-ones-others.true)) ∙ c.loop-at.invariant;
}
