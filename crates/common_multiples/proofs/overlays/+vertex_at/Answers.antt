use Rattle.std.proofs.Common.{◌+◌, suc}
use Rattle.labelled_trees.specs.Meaning.{tree_of}
use Rattle.labelled_trees.specs.Trees.{vertices}
use Rattle.tree_divisors.proofs.LaidPatterns.{rows}
use Rattle.common_multiples.proofs.VertexSearch.{found_here, found_inside, next_search}
use Rattle.common_multiples.proofs.overlays.+vertex_at.Goals as goal

pub returns-then-from-at : goal.returns-then-from-at
returns-then-from-at t c = record { vertex = found_here c.args.at c.args.from c.in-Node.field-0 c.args.tree.now c.in-Node.inputs c.in-Node.is c.if-from-at.true }

pub returns-in-At : goal.returns-in-At
returns-in-At t c = record {
  vertex = found_inside c.args.at c.args.from c.in-Node.field-0 c.loop-input.next c.args.tree.now c.in-Node.inputs c.as_slice-input-items.result.now c.loop-input.input-index c.input-item.result (tree_of c.in-At.found.now)
      c.in-Node.is c.as_slice-input-items.ensures c.loop-input-test.true c.input-item.is c.loop-input.invariant c.in-At.ensures.vertex;
}

pub loop-input-preserved : goal.loop-input-preserved
loop-input-preserved t c =
    let items = c.as_slice-input-items.result.now in
    next_search c.args.at (suc c.args.from) (rows items) c.loop-input.next c.in-Past.number (c.args.from + vertices (tree_of c.args.tree.now)) items c.loop-input.input-index c.input-item.result c.loop-input-test.true c.input-item.is c.loop-input.invariant
    c.in-Past.ensures.vertex.1 c.in-Past.ensures.vertex.0
