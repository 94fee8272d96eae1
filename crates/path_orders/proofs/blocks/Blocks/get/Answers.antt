use Rattle.std.proofs.Common.{◌≡◌, ◌∙◌, ◌-◌, [], length, take, drop, get_or, ap, sym, arith}
use mathlib.Core.Path.{ap₂}
use Rattle.std.specs.Prelude.{slice_range}
use Rattle.path_orders.specs.Joined.{start_of}
use Rattle.path_orders.proofs.JoinedLists.{length-parts, part_at}
use Rattle.path_orders.proofs.blocks.Blocks.get.Goals as goal

pub bounds-from-requires-clause-place : goal.bounds-from-requires-clause-place
bounds-from-requires-clause-place c =
    let size = length-parts 0 c.self.inside.ends.items c.self.inside.numbers.items in
    let same = ap length c.self.view_is in
    let ends = ap length c.as_slice.ensures.value in
    let place = c.requires in
    omega (arith, size, same, ends, place)

pub returns : goal.returns
returns c =
    let ends = c.self.inside.ends.items in
    let numbers = c.self.inside.numbers.items in
    let at = c.args.at in
    let size = length-parts 0 ends numbers in
    let same = ap length c.self.view_is in
    let place = c.requires in
    let part = part_at 0 ends numbers at (omega (arith, size, same, place)) in
    let to : c.bounds-from.result.1 ≡ get_or ends at 0 = c.bounds-from.ensures.to ∙ ap (λ k. get_or k at 0) c.as_slice.ensures.value in
    let from : c.bounds-from.result.0 ≡ start_of 0 ends at = c.bounds-from.ensures.from ∙ ap (λ k. start_of 0 k at) c.as_slice.ensures.value in
    ap (λ k. take (c.bounds-from.result.1 - c.bounds-from.result.0) (drop c.bounds-from.result.0 k)) c.as_slice-numbers.ensures.value
    ∙ ap₂ (λ i j. slice_range numbers i j) from to ∙ sym part ∙ ap (λ bs. get_or bs at []) c.self.view_is
