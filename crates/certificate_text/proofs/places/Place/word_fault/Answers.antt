use Rattle.std.proofs.Common.{◌∙◌, sym}
use Rattle.certificate_text.specs.PlaceReadings.{place_of}
use Rattle.certificate_text.proofs.BlockReading.{word_cant_follow, word_may_follow, word_unknown}
use Rattle.certificate_text.proofs.places.Place.word_fault.Goals as goal

pub returns-then-is_unknown : goal.returns-then-is_unknown
returns-then-is_unknown c = sym (word_unknown c.args.version (place_of c.args.self.now) c.args.word.now (sym c.is_unknown.ensures ∙ c.if-is_unknown.true))

pub returns-then-not-may_follow : goal.returns-then-not-may_follow
returns-then-not-may_follow c =
    sym
    (word_cant_follow c.args.version (place_of c.args.self.now) c.args.word.now (sym c.is_unknown.ensures ∙ c.if-is_unknown.false) (sym c.may_follow.ensures ∙ c.if-not-may_follow.true))

pub returns : goal.returns
returns c =
    sym
    (word_may_follow c.args.version (place_of c.args.self.now) c.args.word.now (sym c.is_unknown.ensures ∙ c.if-is_unknown.false) (sym c.may_follow.ensures ∙ c.if-not-may_follow.false))
