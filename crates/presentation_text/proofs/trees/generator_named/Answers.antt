use Rattle.std.proofs.Common.{◌≡◌, None, ap, sym, ◌∙◌}
use Rattle.presentation_text.specs.TreeReadings.{index_of}
use Rattle.presentation_text.proofs.TreeReadingsSteps.{index-none, index-some}
use Rattle.presentation_text.proofs.trees.generator_named.Goals as goal

pub returns-in_err-generator-clause-index : goal.returns-in_err-generator-clause-index
returns-in_err-generator-clause-index c =
    let unknown : index_of c.args.name.now c.args.table.now ≡ None = ap (λ w. index_of w c.args.table.now) (sym c.as_str.ensures.bytes) ∙ index-none c.args.table.now c.as_str.result.now c.in_err-generator.ensures.absent in
    c.from_residual.ensures ∙ sym unknown

pub returns-clause-index : goal.returns-clause-index
returns-clause-index c =
    let found = c.in_ok-generator.ensures.found in
    sym (ap (λ w. index_of w c.args.table.now) (sym c.as_str.ensures.bytes) ∙ index-some c.args.table.now c.as_str.result.now c.in_ok-generator.generator c.len.ensures.table found.0 found.1)
