use Rattle.std.proofs.Common.{◌≡◌, ◌++◌, drop}
use Rattle.std.specs.List.{flat_map}
use Rattle.presentation_text.specs.DocumentText.{ask_text}
use Rattle.presentation_text.proofs.document_writing.write_asks.Given as goal

abbrev pub invariant-loop-ask : goal.invariant-loop-ask
invariant-loop-ask l =
    l.out.items ++ flat_map (λ ask. ask_text l.field l.table ask.kind) (drop l.ask-index l.asks)
    ≡ l.fn.out.items ++ flat_map (λ ask. ask_text l.field l.table ask.kind) l.asks
