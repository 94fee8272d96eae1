use Rattle.std.proofs.Common.{ap, sym, ◌∙◌}
use Rattle.tree_store.specs.Stores.{tree_at}
use Rattle.division.specs.declared.root.Root.{Root}
use Rattle.division.specs.Bases.{first_id}
use Rattle.division.proofs.LeafDivisors.{leaf_divides_none}
use Rattle.division.proofs.divider.place_of_lead.Goals as goal

pub returns-in-None : goal.returns-in-None
returns-in-None g c = record {
  first = leaf_divides_none (tree_at c.args.shelf.now.trees (first_id c.args.sum.now)) c.args.tree.now (sym (ap (λ (r : Root). r.label) c.requires.root) ∙ c.in-None.is);
}
