use Rattle.std.proofs.Common.{◌≡◌, ◌<◌, ◌≤◌, ◌∙◌, List, ℕ, length, map, refl, ap, sym, subst, arith}
use Rattle.labelled_trees.specs.Trees.{Tree, node, row, graft}
use Rattle.labelled_trees.specs.Leaves.{occurs, occurs_row}
use Rattle.tree_store.specs.Stores.{tree_at, IsStore}
use Rattle.tree_store.proofs.Counts.{held_valid}
use Rattle.division.specs.Parts.{part_at}
use Rattle.division.proofs.LaidParts.{next_among, laid_more, not_laid, laid_all, other_width, other_label}
use Rattle.division.proofs.laying.lay_inputs.Goals as goal

-- no number stands at two leaves of a tree's inputs
once : (trees : List (Tree ℕ)) (id l : ℕ) (ids : List ℕ) → IsStore trees → id < length trees → tree_at trees id ≡ node l (row (map (tree_at trees) ids)) → (i : ℕ) → occurs_row i (row (map (tree_at trees) ids)) ≤ 1
once trees id l ids s h e i = subst (λ t. occurs i t ≤ 1) e ((held_valid trees id s h).once i)

pub returns-then-own-label-clause-not : goal.returns-then-own-label-clause-not
returns-then-own-label-clause-not c = λ _ s e.
    other_label (tree_at c.args.store.now) c.in-Node.inputs.now c.args.hosts.now c.in-Node.own c.args.label c.if-own-label.true s
    (ap (λ u. graft u s) (sym c.in-Node.ensures.root.0) ∙ e)

pub returns-then-inputs-hosts-clause-not : goal.returns-then-inputs-hosts-clause-not
returns-then-inputs-hosts-clause-not c = λ _ s e.
    other_width (tree_at c.args.store.now) c.in-Node.inputs.now c.args.hosts.now c.in-Node.own c.args.label c.if-inputs-hosts.true s
    (ap (λ u. graft u s) (sym c.in-Node.ensures.root.0) ∙ e)

pub lay-requires : goal.lay-requires
lay-requires c =
    let low : c.loop-at.at < length c.args.hosts.now = omega arith in
    let a = c.in-Node.ensures.root.1 c.loop-at.at c.index-inputs-at.result c.loop-at-test.true in
    let b = c.requires.hosts c.loop-at.at c.index-hosts-at.result low in
    let x = c.index-inputs-at.is in
    let y = c.index-hosts-at.is in
    record {
      lead = omega arith;
      host = omega arith;
      room = λ i o.
          let among = next_among c.args.store.now c.in-Node.inputs.now c.args.hosts.now c.loop-at.at c.index-inputs-at.result c.index-hosts-at.result c.loop-at-test.true low x y i in
          let e = ap (occurs i) c.in-Node.ensures.root.0 in
          let r = c.requires.room i (omega (arith, among, e, o)) in
          omega arith;
    }

pub returns-then-not-lay-clause-not : goal.returns-then-not-lay-clause-not
returns-then-not-lay-clause-not c = λ _ s e.
    let low : c.loop-at.at < length c.args.hosts.now = omega arith in
    not_laid c.args.store.now c.in-Node.inputs.now c.args.hosts.now c.loop-at.at c.index-inputs-at.result c.index-hosts-at.result c.loop-at-test.true low c.index-inputs-at.is c.index-hosts-at.is
    c.in-Node.own c.args.label (c.if-not-lay.ensures.not refl) s (ap (λ u. graft u s) (sym c.in-Node.ensures.root.0) ∙ e)

pub loop-at-preserved : goal.loop-at-preserved
loop-at-preserved c =
    let low : c.loop-at.at < length c.args.hosts.now = omega arith in
    laid_more c.args.store.now c.in-Node.inputs.now c.args.hosts.now c.loop-at.at c.index-inputs-at.result c.index-hosts-at.result c.loop-at-test.true low c.index-inputs-at.is c.index-hosts-at.is
    c.args.parts.now c.loop-at.parts c.lay.new.parts (once c.args.store.now c.args.lead c.in-Node.own c.in-Node.inputs.now c.node.ensures.store c.requires.lead c.in-Node.ensures.root.0) c.loop-at.invariant
    (c.if-not-lay.ensures.laid refl) (c.if-not-lay.ensures.held refl) c.lay.ensures.others

pub returns-after-loop-at-clause-laid : goal.returns-after-loop-at-clause-laid
returns-after-loop-at-clause-laid c = λ _.
    ap (λ u. graft u (part_at c.args.store.now c.loop-at.parts)) c.in-Node.ensures.root.0
    ∙ laid_all c.args.store.now c.in-Node.inputs.now c.args.hosts.now c.args.parts.now c.loop-at.parts c.loop-at.at c.in-Node.own c.args.label c.if-own-label.false c.if-inputs-hosts.false c.loop-at-test.false c.loop-at.invariant
