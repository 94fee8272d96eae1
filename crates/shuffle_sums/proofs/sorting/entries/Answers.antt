use Rattle.std.proofs.Common.{◌≡◌, ◌∙◌, ap, sym, subst, map}
use Rattle.std.specs.List.{All}
use Rattle.std.proofs.lemmas.List.Elements.{All-push}
use Rattle.shuffle_sums.specs.Sorting.{block_at}
use Rattle.shuffle_sums.specs.Entries.{position}
use Rattle.shuffle_sums.specs.declared.sorting.Entry.{Entry}
use Rattle.shuffle_sums.proofs.EntryLists.{positions_more}
use Rattle.shuffle_sums.proofs.sorting.entries.Goals as goal
use Rattle.std.proofs.Common.{refl}

pub loop-at-preserved : goal.loop-at-preserved
loop-at-preserved c =
    let before = c.loop-at.made.items in
    let more = c.in_ok-push.ensures.items in
    let entry : Entry = record { block = c.get.result; at = c.loop-at.at } in
    let P : Entry → Type 0 = λ entry. entry.block.now ≡ block_at c.args.blocks.now entry.at in
    record {
      positions = ap (map position) more ∙ positions_more before c.loop-at.at entry c.loop-at.invariant.positions refl;
      blocks_are = subst (All P) (sym more) (All-push P before entry c.loop-at.invariant.blocks_are c.get.ensures);
    }
