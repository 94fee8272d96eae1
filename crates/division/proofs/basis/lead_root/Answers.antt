use Rattle.std.proofs.Common.{◌<◌, ap, subst, sym, ◌∙◌}
use Rattle.labelled_trees.specs.Leaves.{leaf_count}
use Rattle.tree_store.specs.Stores.{tree_at}
use Rattle.division.specs.declared.root.Root.{Root}
use Rattle.division.proofs.Indexed.{few_leaves, first_has_key}
use Rattle.division.proofs.basis.lead_root.Goals as goal

pub returns-clause-small : goal.returns-clause-small
returns-clause-small g c =
    let few = few_leaves c.args.shelf.now c.in-Some.first.1 c.store.ensures.shelf (first_has_key c.args.shelf.now c.args.sum.now c.in-Some.first c.requires.stands (sym c.in-Some.ensures.lead)) in
    subst (λ n. n < 10) (sym (ap (λ (r : Root). r.arity) c.root_of.ensures.root ∙ ap (λ trees. leaf_count (tree_at trees c.in-Some.first.1)) c.store.ensures.store)) few
