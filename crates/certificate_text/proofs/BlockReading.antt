-- Reading the lines of blocks one after the other.
use Rattle.std.proofs.Common.{◌≡◌, ◌+◌, ℕ, true, false, List, [], ◌∷◌, map, Some, None, Result, Ok, Err, add-one, ap, refl, subst, sym, ◌∙◌}
use Rattle.std.specs.Result.{IsErr, IsErrAnd, MatchResult}
use Rattle.presentation_text.specs.DocumentReadings.{LineFault}
use Rattle.presentation_text.specs.LineReadings.{is_unknown}
use Rattle.presentation_text.specs.Lines.{counts}
use Rattle.presentation_text.specs.Readings.{Fault, StopsAs}
use Rattle.presentation_text.specs.Tokens.{tokens}
use Rattle.presentation_text.specs.declared.kinds.DocKind.{DocKind}
use Rattle.presentation_text.specs.declared.kinds.DocKind.TheVariants.{Block, Directive}
use Rattle.presentation_text.specs.declared.kinds.PartFail.{PartFail}
use Rattle.presentation_text.specs.declared.lexing.Token.{Token}
use Rattle.presentation_text.specs.declared.lexing.Token.TheVariants.{Word}
use Rattle.certificate_text.specs.BlockReadings.{Base, Follow, LinePlace, at_end, blocks_from, may_follow, refused_at, rest_of_tail_line, tail_line, tail_word_fault, unless_refused, word_line}
use Rattle.certificate_text.specs.PlaceReadings.{GivesFollow, StopsAtBlockLine, place_of}
use Rattle.certificate_text.specs.Plain.{PlainBlock, plain_block}
use Rattle.certificate_text.specs.declared.cert_fail.ReadCertFail.{ReadCertFail}
use Rattle.certificate_text.specs.declared.cert_fail.ReadCertFail.TheVariants.{At, NoMemory}
use Rattle.certificate_text.specs.declared.places.Place as program
use Rattle.certificate_text.specs.declared.places.Place.TheVariants.{Between, InBlock, InStep}
use Rattle.certificate_text.specs.declared.places.Progress.{Progress}

-- ---- the word of a line

pub word_unknown : (version : ℕ) (place : LinePlace) (w : List ℕ) → is_unknown version w ≡ true → tail_word_fault version place w ≡ Some Directive
unfolding tail_word_fault
word_unknown version place w e = rw e refl

pub word_cant_follow : (version : ℕ) (place : LinePlace) (w : List ℕ) → is_unknown version w ≡ false → may_follow place w ≡ false → tail_word_fault version place w ≡ Some Block
unfolding tail_word_fault
word_cant_follow version place w e f = rw (e, f) refl

pub word_may_follow : (version : ℕ) (place : LinePlace) (w : List ℕ) → is_unknown version w ≡ false → may_follow place w ≡ true → tail_word_fault version place w ≡ None
unfolding tail_word_fault
word_may_follow version place w e f = rw (e, f) refl

-- ---- one line

-- an error that is handed on gives what it says
pub follow_stops : (tokens : List Token) (reading : Result Follow Fault) (r : Result Progress PartFail) (fail : PartFail) → IsErr r → IsErrAnd r (λ e. e ≡ fail)
    → StopsAs tokens reading fail → GivesFollow tokens reading r
follow_stops tokens reading (Ok next) fail h e stops = absurd e
follow_stops tokens reading (Err other) fail h e stops = subst (StopsAs tokens reading) (sym e) stops

pub line_refused : (base : Base) (now : Follow) (number : ℕ) (ts rest : List Token) (w : List ℕ) (kind : DocKind) → ts ≡ Word w ∷ rest → tail_word_fault base.version now.0 w ≡ Some kind
    → tail_line base now number ts ≡ Err (number, kind)
unfolding word_line
line_refused base now number ts rest w kind e f = rw (e, f) refl

pub line_goes_on : (base : Base) (now : Follow) (number : ℕ) (ts rest : List Token) (w : List ℕ) → ts ≡ Word w ∷ rest → tail_word_fault base.version now.0 w ≡ None
    → tail_line base now number ts ≡ refused_at number (rest_of_tail_line base.p base.generators now.0 now.1 w rest)
unfolding word_line
line_goes_on base now number ts rest w e f = rw (e, f) refl

-- ---- what functions that stop at a line give

pub line_fails : {A X : Type 0} (Given : A → Type 0) (reading : Result X LineFault) (r : Result A ReadCertFail) (line : ℕ) (kind : DocKind) → reading ≡ Err (line, kind)
    → r ≡ Err (At (record { line = line; kind = kind })) → MatchResult r Given (StopsAtBlockLine reading)
line_fails Given reading r line kind e f = subst (λ x. MatchResult x Given (StopsAtBlockLine reading)) (sym f) e

pub line_stops : {A : Type 0} (Given : A → Type 0) (Stops : ReadCertFail → Type 0) (r : Result A ReadCertFail) (fail : ReadCertFail) → IsErr r → IsErrAnd r (λ e. e ≡ fail) → Stops fail
    → MatchResult r Given Stops
line_stops Given Stops (Ok x) fail h e stops = absurd e
line_stops Given Stops (Err other) fail h e stops = subst Stops (sym e) stops

-- what stops at its first line stops
pub lines_stop : (on : Follow → Result (List PlainBlock) LineFault) (reading : Result Follow LineFault) (whole : Result (List PlainBlock) LineFault) (fail : ReadCertFail)
    → whole ≡ unless_refused on reading → StopsAtBlockLine reading fail → StopsAtBlockLine whole fail
lines_stop on reading whole (At fail) e h = e ∙ ap (unless_refused on) h
lines_stop on reading whole NoMemory e h = tt

-- ---- all lines

module _ (base : Base) (now : Follow) (number : ℕ) (all others : List (List ℕ)) (line : List ℕ) (e : all ≡ line ∷ others) where
  pub lines_passed : counts line ≡ false → blocks_from base now number all ≡ blocks_from base now (number + 1) others
  unfolding blocks_from
  lines_passed passed = rw (e, passed, add-one) refl

  pub lines_counted : counts line ≡ true → blocks_from base now number all ≡ unless_refused (λ next. blocks_from base next (number + 1) others) (tail_line base now number (tokens line))
  unfolding blocks_from
  lines_counted counted = rw (e, counted, add-one) refl

  pub lines_go_on : (next : Follow) → counts line ≡ true → tail_line base now number (tokens line) ≡ Ok next → blocks_from base now number all ≡ blocks_from base next (number + 1) others
  lines_go_on next counted h = lines_counted counted ∙ ap (unless_refused (λ later. blocks_from base later (number + 1) others)) h

pub lines_end : (base : Base) (now : Follow) (number : ℕ) (all : List (List ℕ)) → all ≡ [] → blocks_from base now number all ≡ at_end now.0 now.1 number
unfolding blocks_from
lines_end base now number all e = rw e refl

pub ends_whole : (now : Progress) (number : ℕ) → now.place ≡ Between → at_end (place_of now.place) (map plain_block now.blocks) number ≡ Ok (map plain_block now.blocks)
ends_whole now number e = rw e refl

open_place : (place : program.Place) (blocks : List PlainBlock) (number : ℕ) → (place ≡ Between → ⊥) → at_end (place_of place) blocks number ≡ Err (number, Block)
open_place Between blocks number h = absurd (h refl)
open_place (InBlock block) blocks number h = refl
open_place (InStep block step) blocks number h = refl

pub ends_open : (now : Progress) (number : ℕ) → (now.place ≡ Between → ⊥) → at_end (place_of now.place) (map plain_block now.blocks) number ≡ Err (number, Block)
ends_open now number h = open_place now.place (map plain_block now.blocks) number h
