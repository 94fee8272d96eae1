use Rattle.std.proofs.Common.{length, ap, arith}
use Rattle.path_orders.proofs.JoinedLists.{length-parts}
use Rattle.path_orders.proofs.blocks.Blocks.len.Goals as goal

pub returns : goal.returns
returns c = let size = length-parts 0 c.self.inside.ends.items c.self.inside.numbers.items in let same = ap length c.self.view_is in omega (arith, size, same, c.self.inside.ends.ok.0)
