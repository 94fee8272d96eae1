use Rattle.std.proofs.Common.{rules, subst, sym, ◌∙◌, take, drop}
use Rattle.std.proofs.Math.Seq.{take-add}
use Rattle.outside_io.specs.Taken.{Takes}
use Rattle.outside_io.proofs.Runs.{Takes-trans, take-to_end}
use Rattle.outside_io.proofs.whole.write_all.Goals as goal

pub loop-at-preserved : goal.loop-at-preserved
loop-at-preserved g c =
    let bytes = c.args.bytes.now in
    let at = c.loop-at.at in
    let count = c.in-Ok.count in
    let before = g.K.Sink.taken c.loop-at.sink in
    let after = g.K.Sink.taken c.write.new.self in
    let rest : Takes before after (take count (drop at bytes)) = subst (λ t. Takes before after (take count t)) (take-to_end at bytes) c.in-Ok.ensures.bytes in
    record {
      within = search rules;
      taken = subst (Takes (g.K.Sink.taken c.args.sink.now) after) (sym (take-add at count bytes)) (Takes-trans _ before after (take at bytes) _ c.loop-at.invariant.taken rest);
      kept = c.in-Ok.ensures.cause.kept ∙ c.loop-at.invariant.kept;
    }
