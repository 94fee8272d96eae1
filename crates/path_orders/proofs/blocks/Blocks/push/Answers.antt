use Rattle.std.proofs.Common.{◌≡◌, ◌∙◌, ◌++◌, ◌∷◌, [], length, ap, arith}
use Rattle.path_orders.specs.Joined.{parts, AreEnds}
use Rattle.path_orders.proofs.JoinedLists.{pushed}
use Rattle.path_orders.proofs.blocks.Blocks.push.Goals as goal

both : (c : goal.In-Ok) → AreEnds 0 c.push.new.self.items (length c.extend_from_slice.new.self.items)
    × (parts 0 c.push.new.self.items c.extend_from_slice.new.self.items ≡ parts 0 c.self.inside.ends.items c.self.inside.numbers.items ++ (c.args.block.now ∷ []))
both c = pushed c.self.inside.ends.items c.self.inside.numbers.items c.push.new.self.items c.extend_from_slice.new.self.items c.args.block.now c.len-end.result
    c.self.invariant c.in-Ok.ensures.items c.in_ok-extend_from_slice.ensures.items (omega (arith, c.len-end.ensures, c.extend_from_slice.new.self.ok.0))

pub invariant_of-self-in-Ok : goal.invariant_of-self-in-Ok
invariant_of-self-in-Ok c = (both c).0

pub returns-in-Ok : goal.returns-in-Ok
returns-in-Ok c = (both c).1 ∙ ap (λ k. k ++ (c.args.block.now ∷ [])) c.self.view_is
