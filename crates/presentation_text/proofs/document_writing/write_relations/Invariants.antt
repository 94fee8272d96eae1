use Rattle.std.proofs.Common.{◌≡◌, ◌++◌, drop}
use Rattle.std.specs.List.{flat_map}
use Rattle.symmetric_sums.specs.Terms.{terms_of}
use Rattle.presentation_text.specs.DocumentText.{relation_text}
use Rattle.presentation_text.proofs.document_writing.write_relations.Given as goal

abbrev pub invariant-loop-relation : goal.invariant-loop-relation
invariant-loop-relation l =
    l.out.items ++ flat_map (λ sum. relation_text l.field l.table (terms_of sum)) (drop l.relation-index l.relations)
    ≡ l.fn.out.items ++ flat_map (λ sum. relation_text l.field l.table (terms_of sum)) l.relations
