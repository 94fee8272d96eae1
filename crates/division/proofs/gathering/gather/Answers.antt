use Rattle.std.proofs.Common.{◌≡◌, ◌^◌, ◌<◌, ◌∙◌, Some, length, get_or, slice_get, sym, subst, ap, arith}
use mathlib.Core.Path.{ap₂}
use Rattle.std.specs.List.{All}
use Rattle.std.proofs.lemmas.Option.{slice_get-get_or}
use Rattle.shuffle_sums.proofs.Kept.{keeps_both}
use Rattle.division.specs.Gathered.{CameFrom, StandAt}
use Rattle.division.proofs.MadeTrees.{grown_held}
use Rattle.division.proofs.Meeting.{gathering_more, held_low, step_held}
use Rattle.division.proofs.gathering.gather.Goals as goal

pub each-preserved : goal.each-preserved
each-preserved c =
    let x = c.index-as_slice-len.result in
    let lt : length c.each.tails < length c.each.ids = omega (arith, c.len.ensures, c.len-in-each.ensures) in
    let stands : slice_get c.each.ids (length c.each.tails) ≡ Some x =
    slice_get-get_or c.each.ids (length c.each.tails) x lt ∙ ap Some (sym (c.index-as_slice-len.is ∙ ap₂ (λ l k. get_or l k x) c.as_slice.ensures c.len-in-each-2.ensures)) in
    let there = subst (StandAt c.meet_all.new.ids c.in_ok-at.at) c.as_slice-in-each.ensures c.in_ok-at.ensures.there in
    let old = grown_held c.each.shelf.trees c.step.new.shelf.trees c.step.ensures.keeps.trees c.each.ids c.each.invariant.1.held in
    let tail = step_held c.step.new.shelf.trees c.args.reducers.now c.step.new.found x c.in_ok-tail.tail c.in_ok-tail.ensures.step in
    let held = c.meet_all.ensures.held (length c.step.new.shelf.trees) old (subst (All (λ i. i < length c.step.new.shelf.trees)) (sym c.as_slice-in-each.ensures) tail) in (
      (keeps_both c.args.shelf.now c.each.shelf c.step.new.shelf c.each.invariant.0.0 c.step.ensures.keeps, c.step.ensures.keys ∙ c.each.invariant.0.1),
      gathering_more c.args.shelf.now.trees c.each.shelf.trees c.step.new.shelf.trees c.args.reducers.now c.args.groups.now c.args.found.now c.each.found c.step.new.found c.each.kept c.step.new.kept c.each.places c.meet_all.new.places
          c.args.ids.now c.each.ids c.meet_all.new.ids c.each.tails c.each.invariant.1 c.step.ensures.found c.step.ensures.working c.step.ensures.keeps.trees c.meet_all.ensures.places c.meet_all.ensures.longer
          x c.in_ok-tail.tail c.in_ok-at.at c.push.new.self lt stands c.in_ok-push.ensures.ok c.in_ok-tail.ensures.step there held (subst (CameFrom c.each.ids c.meet_all.new.ids) c.as_slice-in-each.ensures c.meet_all.ensures.only),
    )

pub meet_all-requires-clause-low : goal.meet_all-requires-clause-low
meet_all-requires-clause-low c =
    held_low c.step.new.shelf.trees c.args.reducers.now c.args.groups.now c.step.new.found c.step.new.kept c.each.ids c.step.ensures.working
    (grown_held c.each.shelf.trees c.step.new.shelf.trees c.step.ensures.keeps.trees c.each.ids c.each.invariant.1.held)

pub meet_all-requires-clause-tail : goal.meet_all-requires-clause-tail
meet_all-requires-clause-tail c =
    subst (All (λ i. i < 2 ^ 31)) (sym c.as_slice-in-each.ensures)
    (held_low c.step.new.shelf.trees c.args.reducers.now c.args.groups.now c.step.new.found c.step.new.kept c.in_ok-tail.tail c.step.ensures.working
    (step_held c.step.new.shelf.trees c.args.reducers.now c.step.new.found c.index-as_slice-len.result c.in_ok-tail.tail c.in_ok-tail.ensures.step))
