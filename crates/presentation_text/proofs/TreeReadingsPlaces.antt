-- Stopping at a place among tokens.
use Rattle.std.proofs.Common.{◌≡◌, ◌≤◌, ◌-◌, ℕ, List, [], Result, Ok, Err, length, drop, ap, sym, ◌∙◌, subst, refl, length-drop}
use Rattle.std.specs.Result.{IsErr, IsErrAnd, MatchResult}
use Rattle.labelled_trees.specs.Trees.{Tree}
use Rattle.presentation_text.specs.declared.kinds.DocKind.{DocKind}
use Rattle.presentation_text.specs.declared.kinds.PartFail.{PartFail}
use Rattle.presentation_text.specs.declared.kinds.PartFail.TheVariants.{At, NoMemory}
use Rattle.presentation_text.specs.declared.lexing.Token.{Token}
use Rattle.presentation_text.specs.declared.trees.TreeRead.{TreeRead}
use Rattle.presentation_text.specs.Readings.{Fault, Reading, misfit, misplaced_in, StopsAs, GivesBehind}
use Rattle.presentation_text.specs.TreeReadings.{GivesTree}

-- a fault at a place, told by the tokens from there on
pub stops-at : {X : Type 0} (tokens : List Token) (at : ℕ) (kind : DocKind) (reading : Result X Fault) (fail : PartFail) → at ≤ length tokens
    → reading ≡ Err (length (drop at tokens), kind) → fail ≡ At at kind → StopsAs tokens reading fail
stops-at tokens at kind reading fail l e f =
    subst (StopsAs tokens reading) (sym f) (e ∙ ap (λ left. Err (left, kind)) (length-drop at tokens), l)

pub stops-misfit : {X : Type 0} (tokens : List Token) (at : ℕ) (reading : Result X Fault) (fail : PartFail) → at ≤ length tokens
    → reading ≡ misfit (drop at tokens) → fail ≡ At at (misplaced_in (drop at tokens)) → StopsAs tokens reading fail
stops-misfit tokens at reading fail l e f = stops-at tokens at (misplaced_in (drop at tokens)) reading fail l e f

-- the line ends before something that must stand there
pub stops-end : {X : Type 0} (tokens : List Token) (at : ℕ) (read : List Token → Result X Fault) (fail : PartFail) → at ≤ length tokens
    → drop at tokens ≡ [] → read [] ≡ misfit [] → fail ≡ At at (misplaced_in (drop at tokens)) → StopsAs tokens (read (drop at tokens)) fail
stops-end tokens at read fail l none e f = stops-misfit tokens at (read (drop at tokens)) fail l (ap read none ∙ e ∙ ap misfit (sym none)) f

-- a function gave up at a place
pub gives-fault : (tokens : List Token) (at : ℕ) (kind : DocKind) (reading : Result (List Token) Fault) (result : Result ℕ PartFail) → at ≤ length tokens
    → reading ≡ Err (length (drop at tokens), kind) → result ≡ Err (At at kind) → GivesBehind tokens reading result
gives-fault tokens at kind reading (Ok place) l e f = absurd cc
gives-fault tokens at kind reading (Err fail) l e f = let same : fail ≡ At at kind = cc in stops-at tokens at kind reading fail l e same

-- what stops one reading stops another
pub stops-on : {X Y : Type 0} (tokens : List Token) (reading : Result X Fault) (on : Result Y Fault) → ((fault : Fault) → reading ≡ Err fault → on ≡ Err fault)
    → (fail : PartFail) → StopsAs tokens reading fail → StopsAs tokens on fail
stops-on tokens reading on f (At token kind) h = (f (length tokens - token, kind) h.0, h.1)
stops-on tokens reading on f NoMemory h = tt

-- an error that is handed on
pub tree-handed_on : (tokens : List Token) (reading : Reading (Tree ℕ)) (result : Result TreeRead PartFail) (fail : PartFail) → IsErr result → IsErrAnd result (λ e. e ≡ fail)
    → StopsAs tokens reading fail → GivesTree tokens reading result
tree-handed_on tokens reading (Ok found) fail h e stops = absurd e
tree-handed_on tokens reading (Err other) fail h e stops = subst (StopsAs tokens reading) (sym e) stops

-- a function gave up at a place, where anything is given
pub fault-at : {A B : Type 0} (tokens : List Token) (at : ℕ) (kind : DocKind) (Given : A → Type 0) (reading : Result B Fault) (result : Result A PartFail) → at ≤ length tokens
    → reading ≡ Err (length (drop at tokens), kind) → result ≡ Err (At at kind) → MatchResult result Given (StopsAs tokens reading)
fault-at tokens at kind Given reading result l e f = subst (λ r. MatchResult r Given (StopsAs tokens reading)) (sym f) (stops-at tokens at kind reading (At at kind) l e refl)

-- a function that reads a tree gave up at a place
pub tree-fault : (tokens : List Token) (at : ℕ) (kind : DocKind) (reading : Reading (Tree ℕ)) (result : Result TreeRead PartFail) → at ≤ length tokens
    → reading ≡ Err (length (drop at tokens), kind) → result ≡ Err (At at kind) → GivesTree tokens reading result
tree-fault tokens at kind reading (Ok found) l e f = absurd cc
tree-fault tokens at kind reading (Err fail) l e f = let same : fail ≡ At at kind = cc in stops-at tokens at kind reading fail l e same
