use Rattle.std.proofs.Common.{Ok, ap, drop, map, sym}
use Rattle.symmetric_sums.specs.Terms.{terms_of}
use Rattle.certificate_text.specs.BlockReadings.{in_block, sum_in, want_line}
use Rattle.certificate_text.specs.Plain.{plain_block, plain_step}
use Rattle.certificate_text.proofs.BlockReading.{follow_stops}
use Rattle.presentation_text.proofs.LineReadingsStops.{stops_on}
use Rattle.certificate_text.proofs.places.want_line.Goals as goal

pub returns-in_err-want : goal.returns-in_err-want
unfolding want_line
returns-in_err-want c =
    follow_stops c.args.tokens.now _ c.from_residual.result c.in_err-want.field-0.0 c.from_residual.ensures.0 c.from_residual.ensures.1
    (stops_on c.args.tokens.now (sum_in c.args.document.now.field c.args.document.now.gens (drop 1 c.args.tokens.now)) _ _ c.in_err-want.ensures.read)

pub returns : goal.returns
unfolding want_line
returns c =
    rw c.in_ok-want.ensures.read
    (ap (λ steps. Ok (in_block (record { want = terms_of c.in_ok-want.want; steps = map plain_step steps }), map plain_block c.args.blocks)) (sym c.new.ensures))
