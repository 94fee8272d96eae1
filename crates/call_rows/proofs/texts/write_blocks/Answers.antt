use Rattle.std.proofs.Common.{◌≡◌, ◌<◌, ◌∙◌, ap, sym, subst, arith, length, map}
use Rattle.std.specs.List.{All}
use Rattle.std.proofs.lemmas.List.{get_or-map, length-map}
use Rattle.certificate_text.specs.Plain.{plain_block}
use Rattle.certificate_text.specs.Writable.{IsWritableBlock}
use Rattle.call_rows.proofs.texts.write_blocks.Goals as goal

pub print_block-requires : goal.print_block-requires
print_block-requires c =
    let d = c.args.document.now in
    let i = c.loop-block.block-index in
    let b = c.block-item.result in
    let items = c.as_slice-block-items.result.now in
    let long = length-map items plain_block in
    let all = subst (λ bs. All (IsWritableBlock d.field d.gens) (map plain_block bs)) (sym c.as_slice-block-items.ensures) c.requires.writable in
    record {
      writable = subst (IsWritableBlock d.field d.gens) (get_or-map plain_block items i b (plain_block b) c.loop-block-test.true ∙ ap plain_block (sym c.block-item.is))
          (all i (plain_block b) (omega (arith, long, c.loop-block-test.true)));
    }
