-- Single bytes at a place, and the place behind them.
use Rattle.std.proofs.Common.{◌≡◌, ◌<◌, ◌≤◌, ◌+◌, ◌-◌, ℕ, zero, suc, Bool, true, false, if◌then◌else◌, List, [], ◌∷◌, Ok, add-one, ap, arith, drop, length, length-drop}
use Rattle.presentation_text.specs.ElementReadings.{behind_one}
use Rattle.presentation_text.specs.TreeReadings.{begins_with}
use Rattle.presentation_text.specs.Readings.{is_mark, mark_in, misfit}
use Rattle.presentation_text.specs.declared.lexing.Token.{Token}
use Rattle.presentation_text.proofs.ElementReadingsRead.{behind_suc}

room : (tokens : List Token) (at c : ℕ) → begins_with c (drop at tokens) ≡ true → at + 1 ≤ length tokens
room [] zero c e = absurd cc
room [] (suc at) c e = absurd cc
room (t ∷ ts) zero c e = omega arith
room (t ∷ ts) (suc at) c e = let h = room ts at c e in omega (arith, h)

-- behind a single byte at a place
pub marked_within : (tokens : List Token) (at c : ℕ) → at ≤ length tokens → begins_with c (drop at tokens) ≡ true → (behind_one (drop at tokens) ≡ drop (at + 1) tokens) × (at + 1 ≤ length tokens)
marked_within tokens at c l e = (rw add-one (behind_suc tokens at), room tokens at c e)

mark_shorter : (c : ℕ) (ts rest : List Token) → mark_in c ts ≡ Ok rest → length rest < length ts
mark_shorter c [] rest e = absurd cc
mark_shorter c (t ∷ ts) rest e = by_test (is_mark c t) e where
  by_test : (b : Bool) → (if b then Ok ts else misfit (t ∷ ts)) ≡ Ok rest → length rest < length (t ∷ ts)
  by_test true f = let same : ts ≡ rest = cc in let lengths = ap length same in omega (arith, lengths)
  by_test false f = absurd cc

-- a place behind a single byte is further on
pub marked_behind : (tokens : List Token) (at behind c : ℕ) → mark_in c (drop at tokens) ≡ Ok (drop behind tokens) → behind ≤ length tokens → at < behind
marked_behind tokens at behind c e l =
    let shorter = mark_shorter c (drop at tokens) (drop behind tokens) e in
    let one : length (drop at tokens) ≡ length tokens - at = length-drop at tokens in
    let other : length (drop behind tokens) ≡ length tokens - behind = length-drop behind tokens in
    omega (arith, shorter)

-- ---- what was read, told by what reading gave
