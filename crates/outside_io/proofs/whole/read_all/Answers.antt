use Rattle.std.proofs.Common.{◌∙◌, ◌++◌, take, arith}
use Rattle.std.proofs.lemmas.Grind.{common_steps}
use Rattle.std.proofs.KnownBytes.{Consumes-trans}
use Rattle.outside_io.proofs.whole.read_all.Goals as goal

pub returns-in-Err-extend_from_slice-clause-memory : goal.returns-in-Err-extend_from_slice-clause-memory
returns-in-Err-extend_from_slice-clause-memory g c =
    let new = take c.in-Ok.count c.read.new.buf in
    λ _. (
      c.in-Ok.ensures.cause.kept ∙ c.loop-buf.invariant.kept,
      c.loop-buf.bytes.items ++ new,
      grind (arith, common_steps),
      grind (arith, common_steps),
      Consumes-trans _ _ _ c.loop-buf.bytes.items new c.loop-buf.invariant.read c.in-Ok.ensures.bytes.0,
    )
