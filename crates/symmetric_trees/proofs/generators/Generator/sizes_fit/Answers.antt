use Rattle.std.proofs.Common.{◌<◌, arith}
use Rattle.std.proofs.lemmas.List.Elements.{All-more}
use Rattle.std.proofs.lemmas.List.Sums.{sum_by_more}
use Rattle.symmetric_trees.specs.declared.generators.Part.{Part}
use Rattle.symmetric_trees.specs.declared.generators.PartKind.TheVariants.{Sym}
use Rattle.symmetric_trees.proofs.generators.Generator.sizes_fit.Goals as goal

pub loop-part-preserved : goal.loop-part-preserved
loop-part-preserved c =
    let parts = c.as_slice-part-items.result.now in
    let i = c.loop-part.part-index in
    let d : Part = record { kind = Sym; size = 0 } in
    record {
      positive = All-more (λ (part : Part). 0 < part.size) parts i d c.loop-part-test.true c.loop-part.invariant.positive (omega arith);
      used = let more = sum_by_more (λ (part : Part). part.size) parts i d c.loop-part-test.true in omega (arith, more, c.loop-part.invariant.used);
    }
