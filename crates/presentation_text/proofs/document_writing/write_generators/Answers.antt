use Rattle.std.proofs.Common.{◌++◌, ◌∙◌, get_or, ap, arith}
use Rattle.presentation_text.specs.DocumentText.{weight_text}
use Rattle.presentation_text.proofs.GeneratorTexts.{generators_text-one}
use Rattle.presentation_text.proofs.document_writing.write_generators.Goals as goal

pub loop-index-preserved : goal.loop-index-preserved
loop-index-preserved c =
    let d = c.args.document.now in
    generators_text-one d.version d.gens d.weights c.loop-index.index c.get-generator.result.now c.loop-index.out.items c.write_generator.new.out.items c.write_weight.new.out.items
    (omega (arith, c.loop-index-test.true, c.len-index-end.ensures.length)) (omega (arith, c.loop-index-test.true, c.len-index-end.ensures.length, c.requires.weights)) c.get-generator.ensures.found
    c.in_ok-write_generator.ensures
    (c.in_ok-write_weight.ensures ∙ ap (λ ws. c.write_generator.new.out.items ++ weight_text c.get-generator.result.now (get_or ws c.loop-index.index 0)) c.as_slice.ensures)
    ∙ c.loop-index.invariant
