-- Places in blocks as the program keeps them.
use Rattle.std.specs.Prelude.{◌≡◌, List, map, Result, Ok, Err}
use Rattle.presentation_text.specs.declared.kinds.PartFail.{PartFail}
use Rattle.presentation_text.specs.declared.lexing.Token.{Token}
use Rattle.presentation_text.specs.DocumentReadings.{LineFault}
use Rattle.presentation_text.specs.Readings.{Fault, StopsAs}
use Rattle.certificate_text.specs.BlockReadings as plain
use Rattle.certificate_text.specs.Plain.{plain_block, plain_step}
use Rattle.certificate_text.specs.declared.cert_fail.ReadCertFail.{ReadCertFail}
use Rattle.certificate_text.specs.declared.cert_fail.ReadCertFail.TheVariants.{At, NoMemory}
use Rattle.certificate_text.specs.declared.places.Progress.{Progress}
use Rattle.certificate_text.specs.declared.places.Place.{Place}
use Rattle.certificate_text.specs.declared.places.Place.TheVariants.{Between, InBlock, InStep}

-- the place in plain blocks and steps
abbrev pub place_of : Place → plain.LinePlace
place_of Between = plain.between
place_of (InBlock block) = plain.in_block (plain_block block)
place_of (InStep block step) = plain.in_step (plain_block block) (plain_step step)

abbrev pub follow_of : Progress → plain.Follow
follow_of now = (place_of now.place, map plain_block now.blocks)

-- the function gave the place and the blocks that the line leads to, or it stops as reading the line does
abbrev pub GivesFollow : List Token → Result plain.Follow Fault → Result Progress PartFail → Type 0
GivesFollow tokens reading (Ok next) = reading ≡ Ok (follow_of next)
GivesFollow tokens reading (Err fail) = StopsAs tokens reading fail

-- the function stops at the line, and for the reason, for which reading stops
abbrev pub StopsAtBlockLine : {X : Type 0} → Result X LineFault → ReadCertFail → Type 0
StopsAtBlockLine reading (At fail) = reading ≡ Err (fail.line, fail.kind)
StopsAtBlockLine reading NoMemory = Unit {0}
