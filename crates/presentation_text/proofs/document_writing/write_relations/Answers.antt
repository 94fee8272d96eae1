use Rattle.std.proofs.Common.{subst, sym}
use Rattle.symmetric_sums.specs.Terms.{FitsOver}
use Rattle.presentation_text.proofs.document_writing.write_relations.Goals as goal

pub write_relation-requires : goal.write_relation-requires
write_relation-requires c = record {
  fits = subst (FitsOver c.args.field c.args.table.now) (sym c.relation-item.is) (c.requires.fit c.loop-relation.relation-index c.relation-item.result c.loop-relation-test.true);
}
