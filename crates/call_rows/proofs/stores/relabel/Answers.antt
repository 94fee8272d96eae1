use Rattle.std.proofs.Common.{map, sym, subst}
use Rattle.std.proofs.lemmas.Option.{slice_get_within}
use Rattle.labelled_trees.specs.Trees.{node, row}
use Rattle.shuffle_trees.specs.ValidTrees.{IsValid}
use Rattle.tree_store.specs.Stores.{tree_at}
use Rattle.tree_store.proofs.Counts.{held_valid}
use Rattle.call_rows.proofs.stores.relabel.Goals as goal

pub vertex-requires-clause-valid : goal.vertex-requires-clause-valid
vertex-requires-clause-valid c =
    let trees = c.args.store.now in
    let valid = subst IsValid c.in-Node.ensures.root.0 (held_valid trees c.args.id c.node.ensures.store c.requires.held) in
    subst (λ ids. IsValid (node c.args.label (row (map (tree_at trees) ids)))) (sym c.in_ok-inputs-in-Node.ensures.ok)
    (record { wide = valid.wide; rising = valid.rising; once = valid.once; only = valid.only })

pub returns : goal.returns
returns c = record { held = slice_get_within c.vertex.new.self c.in_ok-vertex.field-0 _ c.in_ok-vertex.ensures.found }
