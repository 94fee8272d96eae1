use Rattle.std.proofs.Common.{◌≡◌, ◌∙◌, ◌∷◌, [], Ok, ap, codes, drop, false, map, sym, true}
use Rattle.std.proofs.lemmas.List.{map-append}
use Rattle.symmetric_sums.specs.Terms.{terms_of}
use Rattle.presentation_text.specs.LineReadings.{is}
use Rattle.presentation_text.specs.Readings.{end_in}
use Rattle.certificate_text.specs.BlockReadings.{between, block_line, in_step, sum_in}
use Rattle.certificate_text.specs.Plain.{plain_block, plain_use}
use Rattle.certificate_text.proofs.BlockReading.{follow_stops}
use Rattle.presentation_text.proofs.LineReadingsStops.{stops_on}
use Rattle.certificate_text.proofs.places.block_line.Goals as goal

pub returns-in_err-end_at : goal.returns-in_err-end_at
unfolding block_line
returns-in_err-end_at c =
    let here : is c.args.word.now (codes "end") ≡ true = sym c.eq.ensures ∙ c.if-eq.true in
    follow_stops c.args.tokens.now _ c.from_residual.result c.in_err-end_at.field-0.0 c.from_residual.ensures.0 c.from_residual.ensures.1
    (rw here (stops_on c.args.tokens.now (end_in (drop 1 c.args.tokens.now)) _ _ c.in_err-end_at.ensures))

pub returns-then-eq : goal.returns-then-eq
unfolding block_line
returns-then-eq c =
    let here : is c.args.word.now (codes "end") ≡ true = sym c.eq.ensures ∙ c.if-eq.true in
    rw (here, c.in_ok-end_at.ensures) (ap (λ blocks. Ok (between, blocks)) (sym (ap (map plain_block) c.in_ok-push.ensures.ok ∙ map-append plain_block c.args.blocks (c.args.block ∷ []))))

pub returns-in_err-element : goal.returns-in_err-element
unfolding block_line
returns-in_err-element c =
    let other : is c.args.word.now (codes "end") ≡ false = sym c.eq.ensures ∙ c.if-eq.false in
    follow_stops c.args.tokens.now _ c.from_residual-in_err-element.result c.in_err-element.field-0.0 c.from_residual-in_err-element.ensures.0 c.from_residual-in_err-element.ensures.1
    (rw other (stops_on c.args.tokens.now (sum_in c.args.document.now.field c.args.document.now.gens (drop 1 c.args.tokens.now)) _ _ c.in_err-element.ensures.read))

pub returns : goal.returns
unfolding block_line
returns c =
    let other : is c.args.word.now (codes "end") ≡ false = sym c.eq.ensures ∙ c.if-eq.false in
    rw (other, c.in_ok-element.ensures.read)
    (ap (λ uses. Ok (in_step (plain_block c.args.block) (record { element = terms_of c.in_ok-element.element; uses = map plain_use uses }), map plain_block c.args.blocks)) (sym c.new.ensures))
