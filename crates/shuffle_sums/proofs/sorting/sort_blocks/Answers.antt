use Rattle.std.specs.Prelude.{false}
use Rattle.std.proofs.Common.{◌≡◌, ◌∙◌, ap, map, refl}
use Rattle.std.specs.declared.cmp.Ordering.{Ordering}
use Rattle.std.specs.declared.cmp.Ordering.TheVariants.{Less, Equal, Greater}
use Rattle.std.specs.Ordering.{nat_cmp, is_lt, ordering_then}
use Rattle.std.specs.Cmp.Lexicographic.{slice_cmp}
use Rattle.std.proofs.lemmas.Result.{IfOk-weaker}
use Rattle.shuffle_sums.specs.Entries.{position}
use Rattle.shuffle_sums.proofs.EntryLists.{all_positions, blocks_sorted}
use Rattle.shuffle_sums.proofs.sorting.sort_blocks.Goals as goal

first_not_less : (o p : Ordering) → is_lt (ordering_then o p) ≡ false → is_lt o ≡ false
first_not_less Less p e = e
first_not_less Equal p e = refl
first_not_less Greater p e = e

pub returns-clause-each : goal.returns-clause-each
returns-clause-each c = IfOk-weaker c.positions.result _ _ (λ made is. all_positions c.args.blocks.now c.in_ok-sorted.sorted.items c.sort_unstable.new.self.items made.items
    c.in_ok-sorted.ensures c.sort_unstable.ensures.permutation (is ∙ ap (map position) c.as_slice.ensures.value)) c.positions.ensures

pub returns-clause-sorted : goal.returns-clause-sorted
returns-clause-sorted c = IfOk-weaker c.positions.result _ _ (λ made is. blocks_sorted c.args.blocks.now c.in_ok-sorted.sorted.items c.sort_unstable.new.self.items made.items
    (λ x y. ordering_then (slice_cmp nat_cmp x.block.now y.block.now) (nat_cmp x.at y.at)) (λ x y e. first_not_less (slice_cmp nat_cmp x.block.now y.block.now) (nat_cmp x.at y.at) e)
    c.in_ok-sorted.ensures c.sort_unstable.ensures.permutation c.sort_unstable.ensures.sorted (is ∙ ap (map position) c.as_slice.ensures.value)) c.positions.ensures
