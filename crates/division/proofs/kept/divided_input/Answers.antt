use Rattle.std.proofs.Common.{◌∙◌, ap, arith, slice_get, inl, inr}
use Rattle.tree_store.proofs.Trees.{place_of}
use Rattle.division.proofs.kept.divided_input.Goals as goal

pub returns-in-Leaf : goal.returns-in-Leaf
returns-in-Leaf c = record { input = inl (c.in-Leaf.field-0, c.in-Leaf.ensures.root) }

pub returns-after-loop-at : goal.returns-after-loop-at
returns-after-loop-at c = record {
  input = inr (
    c.in-Node.field-0,
    c.in-Node.inputs.now,
    c.in-Node.ensures.root.0,
    c.in-Node.ensures.root.1,
    λ i m s.
        let p = place_of c.in-Node.inputs.now i 0 m in
        c.loop-at.invariant p.0 (omega (arith, p.1)) (ap (slice_get c.args.found.now) p.2 ∙ s),
  );
}
