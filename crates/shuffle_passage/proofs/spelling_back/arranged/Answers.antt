use Rattle.std.proofs.Common.{◌∙◌, ◌-◌, length, ap, arith, refl, take, drop}
use Rattle.labelled_trees.specs.declared.Tree.TheVariants.{Leaf}
use Rattle.shuffle_passage.specs.Words as spec
use Rattle.shuffle_passage.proofs.WordTables.{step, chosen-more}
use Rattle.std.proofs.lemmas.List.Edits.{length-remove}
use Rattle.shuffle_passage.proofs.spelling_back.arranged.Goals as goal

pub remove-requires : goal.remove-requires
remove-requires c =
    let left = c.loop-left.left.now in
    let later = take (length left - 1) (drop 1 left) in
    let k = step left later c.loop-left.below c.loop-left.over c.first_place.result c.find_place-place.result.0 c.find_place-place.result.1 refl c.in-len1-up.len_at_least c.loop-left.invariant.held
    c.first_place.ensures c.find_place-place.ensures.place c.find_place-place.ensures.over in
    omega (arith, k.low, k.size, c.loop-left.invariant.same)

pub loop-left-preserved : goal.loop-left-preserved
loop-left-preserved c =
    let left = c.loop-left.left.now in
    let later = take (length left - 1) (drop 1 left) in
    let k = step left later c.loop-left.below c.loop-left.over c.first_place.result c.find_place-place.result.0 c.find_place-place.result.1 refl c.in-len1-up.len_at_least c.loop-left.invariant.held
    c.first_place.ensures c.find_place-place.ensures.place c.find_place-place.ensures.over in
    let at = c.find_place-place.result.0 in
    let size = length-remove c.loop-left.rest at (omega (arith, k.low, k.size, c.loop-left.invariant.same)) in
    record {
      order = chosen-more (Leaf 0) c.remove.result c.loop-left.made c.push.new.self c.loop-left.rest c.remove.new.self _ (spec.digits_of left c.loop-left.below c.loop-left.over) (spec.digits_of later at c.find_place-place.result.1) at
          k.digits_are c.remove.ensures.item c.remove.ensures.rest c.loop-left.invariant.order c.in_ok-push.ensures.ok;
      few = omega (arith, k.size, c.loop-left.invariant.few);
      same = ap length c.remove.ensures.rest ∙ omega (arith, size, k.size, c.loop-left.invariant.same);
      held = k.held;
    }
