use Rattle.std.proofs.Common.{◌++◌, ◌∙◌, ap, arith, append_assoc}
use Rattle.common_multiples.proofs.OverlapLists.{one_more, all_from}
use Rattle.common_multiples.proofs.families.push_family.Goals as goal

pub loop-at-preserved : goal.loop-at-preserved
loop-at-preserved c =
    let so_far = c.loop-at.invariant in
    let more = c.in_ok-push_overlaps.ensures.overlaps in (
      so_far.0 ++ more.0,
      more.1 ∙ ap (λ l. l ++ more.0) so_far.1 ∙ append_assoc c.args.found.now.items so_far.0 more.0,
      one_more c.args.n c.args.host.now.tree.now c.args.guest.now.tree.now c.args.is_turned c.args.from c.loop-at.at so_far.0 more.0 c.loop-at.auto.at so_far.2 more.2,
    )

pub returns : goal.returns
returns c =
    let all = c.loop-at.invariant in
    let test = c.loop-at-test.false in
    let count = c.vertex_count.ensures.count in
    record { overlaps = (all.0, all.1, all_from c.args.n c.args.host.now.tree.now c.args.guest.now.tree.now c.args.is_turned c.args.from c.loop-at.at all.0 (omega (arith, test, count)) all.2) }
