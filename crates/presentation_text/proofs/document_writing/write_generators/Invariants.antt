use Rattle.std.proofs.Common.{◌≡◌, ◌++◌, drop}
use Rattle.presentation_text.specs.DocumentText.{generators_text}
use Rattle.presentation_text.proofs.document_writing.write_generators.Given as goal

abbrev pub invariant-loop-index : goal.invariant-loop-index
invariant-loop-index l =
    l.out.items ++ generators_text l.document.version (drop l.index l.document.gens) (drop l.index l.document.weights)
    ≡ l.fn.out.items ++ generators_text l.document.version l.document.gens l.document.weights
