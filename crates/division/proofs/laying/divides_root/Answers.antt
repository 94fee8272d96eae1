use Rattle.std.proofs.Common.{IsTrue, ap, arith, refl}
use Rattle.shuffle_insertions.specs.ShuffleTrees.{least}
use Rattle.tree_store.specs.Stores.{tree_at}
use Rattle.shuffle_places.proofs.RootPlaces.{one_parts}
use Rattle.division.specs.Parts.{part_at}
use Rattle.division.proofs.laying.divides_root.Goals as goal

pub returns-then-lay-clause-not : goal.returns-then-lay-clause-not
returns-then-lay-clause-not c = λ z s d.
    let same = one_parts c.args.arity (tree_at c.args.store.now c.args.host) (tree_at c.args.store.now c.args.lead) c.requires.valid (part_at c.args.store.now c.lay.new.parts) s (c.if-lay.ensures.laid refl) d.whole in
    let r : IsTrue c.rises.result = c.rises.ensures.rises.1 (λ i j p lt le.
    let a = ap least (same i p (omega (arith, lt, le))) in
    let b = ap least (same j (omega (arith, lt)) le) in
    let o = d.order i j p lt le in omega (arith, a, b, o)) in
    absurd (cc (z, r))
