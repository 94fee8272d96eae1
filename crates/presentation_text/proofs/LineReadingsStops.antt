-- Where reading stops at a step, the whole of it stops there.
use Rattle.std.proofs.Common.{◌≡◌, ◌<◌, ◌≤◌, ◌+◌, ◌-◌, ℕ, suc, List, [], Result, Ok, Err, ap, arith, drop, length, length-drop, subst, sym, ◌∙◌}
use Rattle.std.specs.List.{All}
use Rattle.std.proofs.lemmas.List.Elements.{All-nil}
use Rattle.std.specs.Result.{IsErr, IsErrAnd, MatchResult}
use Rattle.symmetric_trees.specs.declared.generators.Generator.{Generator}
use Rattle.presentation_text.specs.DraftReadings.{GivesAsk, GivesDraft, IsSoundDraft, contents_of}
use Rattle.presentation_text.specs.LineReadings.{Asked, Contents}
use Rattle.presentation_text.specs.Readings.{Fault, ◌>>=◌, StopsAs}
use Rattle.presentation_text.specs.declared.document.AskKind.{AskKind}
use Rattle.presentation_text.specs.declared.draft.Draft.{Draft}
use Rattle.presentation_text.specs.declared.kinds.DocKind.{DocKind}
use Rattle.presentation_text.specs.declared.kinds.PartFail.{PartFail}
use Rattle.presentation_text.specs.declared.kinds.PartFail.TheVariants.{At, NoMemory}
use Rattle.presentation_text.specs.declared.lexing.Token.{Token}

-- what stops at its first step stops
pub stops_on : {A B : Type 0} (tokens : List Token) (reading : Result A Fault) (more : A → Result B Fault) (fail : PartFail) → StopsAs tokens reading fail → StopsAs tokens (reading >>= more) fail
stops_on tokens reading more (At token kind) h = (ap (λ r. r >>= more) h.0, h.1)
stops_on tokens reading more NoMemory h = tt

-- what is read first is known, and what is read then stops
pub stops_in : {A : Type 0} (tokens : List Token) (reading other : Result A Fault) (fail : PartFail) → reading ≡ other → StopsAs tokens other fail → StopsAs tokens reading fail
stops_in tokens reading other fail e h = subst (λ r. StopsAs tokens r fail) (sym e) h

-- an error that is handed on gives what it says
pub draft_stops : (tokens : List Token) (reading : Result Contents Fault) (r : Result Draft PartFail) (fail : PartFail) → IsErr r → IsErrAnd r (λ e. e ≡ fail)
    → StopsAs tokens reading fail → GivesDraft tokens reading r
draft_stops tokens reading (Ok draft) fail h e stops = absurd e
draft_stops tokens reading (Err other) fail h e stops = subst (StopsAs tokens reading) (sym e) stops

-- how many tokens are left from a place on
pub left_from : (tokens : List Token) (at : ℕ) → at < length tokens → suc (length (drop (at + 1) tokens)) ≡ length tokens - at
left_from tokens at l = let e : length (drop (at + 1) tokens) ≡ length tokens - (at + 1) = length-drop (at + 1) tokens in omega arith

-- a fault at a token
pub draft_fails : (tokens : List Token) (at : ℕ) (kind : DocKind) (reading : Result Contents Fault) (r : Result Draft PartFail) → at < length tokens
    → reading ≡ Err (suc (length (drop (at + 1) tokens)), kind) → r ≡ Err (At at kind) → GivesDraft tokens reading r
draft_fails tokens at kind reading r l e f =
    let here : reading ≡ Err (length tokens - at, kind) = e ∙ ap (λ left. Err (left, kind)) (left_from tokens at l) in
    let near : at ≤ length tokens = omega arith in
    subst (GivesDraft tokens reading) (sym f) (here, near)

-- an error that is handed on, where a question is given
pub ask_stops : (p : ℕ) (generators : List Generator) (tokens : List Token) (reading : Result Asked Fault) (r : Result AskKind PartFail) (fail : PartFail) → IsErr r
    → IsErrAnd r (λ e. e ≡ fail) → StopsAs tokens reading fail → GivesAsk p generators tokens reading r
ask_stops p generators tokens reading (Ok kind) fail h e stops = absurd e
ask_stops p generators tokens reading (Err other) fail h e stops = subst (StopsAs tokens reading) (sym e) stops

-- the same, where anything else is given
pub part_stops : {A : Type 0} (Given : A → Type 0) (Stops : PartFail → Type 0) (r : Result A PartFail) (fail : PartFail) → IsErr r → IsErrAnd r (λ e. e ≡ fail) → Stops fail
    → MatchResult r Given Stops
part_stops Given Stops (Ok x) fail h e stops = absurd e
part_stops Given Stops (Err other) fail h e stops = subst Stops (sym e) stops

-- a fault at a token, where anything else is given
pub part_fails : {A B : Type 0} (tokens : List Token) (at : ℕ) (kind : DocKind) (Given : A → Type 0) (reading : Result B Fault) (r : Result A PartFail) → at < length tokens
    → reading ≡ Err (suc (length (drop (at + 1) tokens)), kind) → r ≡ Err (At at kind) → MatchResult r Given (StopsAs tokens reading)
part_fails tokens at kind Given reading r l e f =
    let here : reading ≡ Err (length tokens - at, kind) = e ∙ ap (λ left. Err (left, kind)) (left_from tokens at l) in
    let near : at ≤ length tokens = omega arith in
    subst (λ x. MatchResult x Given (StopsAs tokens reading)) (sym f) (here, near)

-- all of no sums, and no questions, fit
pub none_hold : {X : Type 0} (P : X → Type 0) (xs : List X) → xs ≡ [] → All P xs
none_hold P xs e = subst (All P) (sym e) (All-nil P)

-- a draft that another question joined is given
pub draft_asked : (tokens : List Token) (reading : Result Contents Fault) (r : Result Draft PartFail) (contents : Contents) → reading ≡ Ok contents
    → MatchResult r (λ draft. (contents_of draft ≡ contents) × IsSoundDraft draft) (λ fail. fail ≡ NoMemory) → GivesDraft tokens reading r
draft_asked tokens reading (Ok draft) contents e h = (e ∙ ap Ok (sym h.0), h.1)
draft_asked tokens reading (Err fail) contents e h = subst (StopsAs tokens reading) (sym h) tt

-- a fault at the end of the line
pub part_fails_last : {A B : Type 0} (tokens : List Token) (at : ℕ) (kind : DocKind) (Given : A → Type 0) (reading : Result B Fault) (r : Result A PartFail) → at ≡ length tokens
    → reading ≡ Err (0, kind) → r ≡ Err (At at kind) → MatchResult r Given (StopsAs tokens reading)
part_fails_last tokens at kind Given reading r last e f =
    let none : 0 ≡ length tokens - at = omega arith in
    let near : at ≤ length tokens = omega arith in
    subst (λ x. MatchResult x Given (StopsAs tokens reading)) (sym f) (e ∙ ap (λ left. Err (left, kind)) none, near)
