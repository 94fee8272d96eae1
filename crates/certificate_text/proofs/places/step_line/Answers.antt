use Rattle.std.proofs.Common.{◌≡◌, ◌∙◌, ◌∷◌, [], Ok, ap, codes, drop, false, map, subst, sym, true}
use Rattle.std.proofs.lemmas.List.{map-append}
use Rattle.symmetric_sums.specs.Terms.{terms_of}
use Rattle.presentation_text.specs.LineReadings.{is}
use Rattle.certificate_text.specs.BlockReadings.{block_line, in_step, step_line, use_in}
use Rattle.certificate_text.specs.PlaceReadings.{GivesFollow}
use Rattle.certificate_text.specs.Plain.{plain_block, plain_step, plain_use}
use Rattle.certificate_text.proofs.BlockReading.{follow_stops}
use Rattle.presentation_text.proofs.LineReadingsStops.{stops_on}
use Rattle.certificate_text.proofs.places.step_line.Goals as goal

pub returns-in_err-item : goal.returns-in_err-item
unfolding step_line
returns-in_err-item c =
    let here : is c.args.word.now (codes "use") ≡ true = sym c.eq.ensures ∙ c.if-eq.true in
    follow_stops c.args.tokens.now _ c.from_residual.result c.in_err-item.field-0.0 c.from_residual.ensures.0 c.from_residual.ensures.1
    (rw here (stops_on c.args.tokens.now (use_in c.args.document.now.field c.args.document.now.gens (drop 1 c.args.tokens.now)) _ _ c.in_err-item.ensures.read))

pub returns-then-eq : goal.returns-then-eq
unfolding step_line
returns-then-eq c =
    let here : is c.args.word.now (codes "use") ≡ true = sym c.eq.ensures ∙ c.if-eq.true in
    rw (here, c.in_ok-item.ensures.read)
    (ap (λ uses. Ok (in_step (plain_block c.args.block) (record { element = terms_of c.args.step.element; uses = uses }), map plain_block c.args.blocks))
    (sym (ap (map plain_use) c.in_ok-push.ensures.ok ∙ map-append plain_use c.args.step.uses (c.in_ok-item.item ∷ []))))

pub returns : goal.returns
unfolding step_line
returns c =
    let other : is c.args.word.now (codes "use") ≡ false = sym c.eq.ensures ∙ c.if-eq.false in
    let steps = ap (map plain_step) c.in_ok-push-2.ensures.ok ∙ map-append plain_step c.args.block.steps (c.args.step ∷ []) in
    rw other
    (subst (λ steps. GivesFollow c.args.tokens.now
    (block_line c.args.document.now.field c.args.document.now.gens (record { want = terms_of c.args.block.want; steps = steps }) (map plain_block c.args.blocks) c.args.word.now (drop 1 c.args.tokens.now))
    c.block_line.result) steps c.block_line.ensures)
