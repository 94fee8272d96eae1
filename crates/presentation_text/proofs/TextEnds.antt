-- The last bytes of a text.
use Rattle.std.proofs.Common.{◌≡◌, ℕ, suc, ◌-◌, ◌≤◌, Bool, true, false, ◌==◌, if◌then◌else◌, List, [], ◌∷◌, ◌++◌, length, drop, take, refl, ap, sym, ◌∙◌, subst, append_assoc, append-nil, length-append, length-drop, arith}
use Rattle.std.proofs.lemmas.List.{take-append-drop, take_all}
use Rattle.std.proofs.Math.Seq.{drop-append_seam}
use Rattle.presentation_text.specs.Lines.{EndsWith, in_front, lines}

pub ends_itself : (text : List ℕ) → EndsWith text text
ends_itself text = record { before = []; text_is = refl }

pub ends_with_nothing : (text : List ℕ) → EndsWith text []
ends_with_nothing text = record { before = text; text_is = sym (append-nil text) }

pub ends_within : (text middle end : List ℕ) → EndsWith text middle → EndsWith middle end → EndsWith text end
ends_within text middle end h g = record {
  before = h.before ++ g.before;
  text_is = h.text_is ∙ ap (λ m. h.before ++ m) g.text_is ∙ sym (append_assoc h.before g.before end);
}

pub ends_behind : (text : List ℕ) (n : ℕ) → EndsWith text (drop n text)
ends_behind text n = record { before = take n text; text_is = sym (take-append-drop n text) }

-- as a slice from some place on is seen
pub ends_slice : (text : List ℕ) (n : ℕ) → EndsWith text (take (length text - n) (drop n text))
ends_slice text n = subst (EndsWith text) (sym (take_all (length text - n) (drop n text) (let len = length-drop n text in omega (arith, len)))) (ends_behind text n)

pub end_is_short : (text end : List ℕ) → EndsWith text end → length end ≤ length text
end_is_short text end h = let len = ap length h.text_is ∙ length-append h.before end in omega (arith, len)

-- the end of a text stands behind so many bytes
pub drop-end : (text end : List ℕ) → EndsWith text end → drop (length text - length end) text ≡ end
drop-end text end h =
    let len = ap length h.text_is ∙ length-append h.before end in
    let at : length text - length end ≡ length h.before = omega (arith, len) in
    ap (λ n. drop n text) at ∙ ap (drop (length h.before)) h.text_is ∙ drop-append_seam h.before end

-- ---- how many lines a text has

some_front : (c : ℕ) (ls : List (List ℕ)) → in_front c ls ≡ [] → ⊥
some_front c [] e = cc
some_front c (l ∷ ls) e = cc

some_lines : (b : Bool) (c : ℕ) (cs : List ℕ) → (if b then [] ∷ lines cs else in_front c (lines cs)) ≡ [] → ⊥
some_lines true c cs e = cc
some_lines false c cs e = some_front c (lines cs) e

-- a text with bytes has lines
pub lines_of_some : (c : ℕ) (cs : List ℕ) → lines (c ∷ cs) ≡ [] → ⊥
lines_of_some c cs e = some_lines (c == 10) c cs e

pub front_few : (c n : ℕ) (ls : List (List ℕ)) → length ls ≤ n → length (in_front c ls) ≤ suc n
front_few c n [] h = omega arith
front_few c n (l ∷ ls) h = omega (arith, h)

pub lines_few : (b : Bool) (c : ℕ) (cs : List ℕ) → length (lines cs) ≤ length cs → length (if b then [] ∷ lines cs else in_front c (lines cs)) ≤ suc (length cs)
lines_few true c cs h = omega (arith, h)
lines_few false c cs h = front_few c (length cs) (lines cs) h

-- a text has no more lines than bytes
pub few_lines : (text : List ℕ) → length (lines text) ≤ length text
few_lines [] = omega arith
few_lines (c ∷ cs) = lines_few (c == 10) c cs (few_lines cs)
