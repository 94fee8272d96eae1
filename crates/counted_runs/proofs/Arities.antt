-- The start, the end of an arity, and the end of the completion.
use Rattle.std.proofs.Common.{suc, ◌+◌, [], refl, ap, arith}
use Rattle.shuffle_reductions.proofs.Laws.{multiples_are_greater}
use Rattle.shuffle_transfer.specs.GroebnerBases.{setting}
use Rattle.shuffle_completion.proofs.Laws.{starts, arity_ends, complete_is_reduced}
use Rattle.counted_runs.proofs.RunsSoFar.{runs_so_far}
use Rattle.counted_runs.specs.LoopLaws.{LoopBegins, ArityIsDone, LoopEnds}
use Rattle.counted_runs.proofs.Becoming.{all_reduced}

pub loop_begins : LoopBegins
loop_begins d N given = record {
  complete = starts d.presentation given.proper d.compare;
  run = [];
  so_far = (runs_so_far d N).0 1 [];
  all = record {
    relations = λ k r n e two le w o. absurd (omega (arith, two, le));
    multiples = λ n le g h mg mh lg lh t first second k. absurd mg;
  };
  counted = refl;
}

pub arity_is_done : ArityIsDone
arity_is_done d N m given elements now spent a = record {
  complete = arity_ends d.presentation given.sound given.wide d.compare given.order elements m a.tasks a.underway a.all_tasks now
      (all_reduced (setting d.presentation d.compare elements) (suc m) elements now a.becoming);
  run = a.run;
  so_far = a.so_far;
  all = a.all;
  counted = a.counted;
}

pub loop_ends : LoopEnds
loop_ends d N given elements spent t before = record {
  run = t.run;
  full = ((runs_so_far d N).1 N elements t.run t.so_far).full
      (complete_is_reduced d.presentation given.sound given.wide given.positive d.compare given.order elements N t.complete)
      (λ k r n e two le w o. t.all.relations k r n e two le w o)
      (λ m le g h mg mh u first second k.
      let big = multiples_are_greater (setting d.presentation d.compare elements) t.complete.certified.monic t.complete.apart m g h mg mh u first second k in
      (big.0, big.1, t.all.multiples m le g h mg mh big.0 big.1 u first second k));
  made_of = t.so_far.made_of;
  kept = t.so_far.kept;
  counted = ap (λ k. before + k) t.counted;
}
