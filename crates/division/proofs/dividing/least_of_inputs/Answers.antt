use Rattle.std.proofs.Common.{◌<◌, ◌∙◌, ◌∷◌, [], ap, sym, subst, take, length, get_or, None}
use mathlib.Core.List.{◌++◌}
use Rattle.std.proofs.lemmas.List.{take_more}
use Rattle.std.proofs.lemmas.Option.{slice_get-get_or}
use Rattle.division.specs.Dividers.{IsLeastOf, IsLesser}
use Rattle.division.proofs.FirstDividers.{least_more}
use Rattle.division.proofs.dividing.least_of_inputs.Goals as goal

pub loop-input-preserved : goal.loop-input-preserved
loop-input-preserved c =
    let ids = c.args.inputs.now in
    let at = c.loop-input.input-index in
    let x = c.input-item.result in
    let low = c.requires.found at x c.loop-input-test.true in
    let within : x < length c.args.found.now = subst (λ i. i < length c.args.found.now) (sym c.input-item.is) low in
    let stands = slice_get-get_or c.args.found.now x None within in
    subst (λ l. IsLeastOf c.args.found.now l c.lesser-least.result) (ap (λ i. take at ids ++ (i ∷ [])) c.input-item.is ∙ sym (take_more ids at x c.loop-input-test.true))
    (least_more c.args.found.now (take at ids) x c.loop-input.least _ c.lesser-least.result c.loop-input.invariant stands
    (subst (λ k. IsLesser c.loop-input.least (get_or c.args.found.now k None) c.lesser-least.result) c.index.ensures.index c.lesser-least.ensures.lesser))
