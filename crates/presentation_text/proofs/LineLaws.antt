-- The lines of a text, one after the other, and which of them count.
use Rattle.std.proofs.Common.{◌≡◌, ◌≢◌, ℕ, suc, ◌+◌, ◌-◌, ◌<◌, ◌≤◌, Bool, true, false, not, ◌==◌, List, [], ◌∷◌, ◌++◌, length, take, drop, Some, None, refl, ap, sym, ◌∙◌, subst, arith, cond, add-one, length-drop, inl, inr, ⊎_elim, ltb}
use Rattle.std.specs.List.{position, position_or_len, find}
use Rattle.std.proofs.lemmas.Bool.Decides.{nat_tests}
use Rattle.std.proofs.lemmas.List.{take_all}
use Rattle.presentation_text.specs.Lines.{is_blank, HasNoFeed, IsFirstLine, AreLines, no_lines, last_line, ended_line, in_front, lines, counts}
use Rattle.presentation_text.specs.Laws.{LinesAreDefined}

-- ---- what the lines are, and the function

no_feed : (c : ℕ) → c ≢ 10 → (c == 10) ≡ false
no_feed c h = grind (arith, nat_tests)

pub lines-ended : (line rest : List ℕ) → HasNoFeed line → lines (line ++ 10 ∷ rest) ≡ line ∷ lines rest
lines-ended [] rest h = refl
lines-ended (c ∷ cs) rest h = let other = no_feed c h.0 in let further = lines-ended cs rest h.1 in rw (other, further) refl

pub lines-last : (c : ℕ) (cs : List ℕ) → HasNoFeed (c ∷ cs) → lines (c ∷ cs) ≡ (c ∷ cs) ∷ []
lines-last c [] h = let other = no_feed c h.0 in rw other refl
lines-last c (d ∷ ds) h = let other = no_feed c h.0 in let further = lines-last d ds h.1 in rw (other, further) refl

lines_are : (bytes : List ℕ) (found : List (List ℕ)) → AreLines bytes found → found ≡ lines bytes
lines_are bytes found no_lines = refl
lines_are bytes found (last_line c cs h) = sym (lines-last c cs h)
lines_are bytes found (ended_line line rest others h more) = ap (λ ls. line ∷ ls) (lines_are rest others more) ∙ sym (lines-ended line rest h)

longer_line : (c : ℕ) (bytes : List ℕ) (found : List (List ℕ)) → c ≢ 10 → AreLines bytes found → AreLines (c ∷ bytes) (in_front c found)
longer_line c bytes found other no_lines = last_line c [] (other, tt)
longer_line c bytes found other (last_line d ds h) = last_line c (d ∷ ds) (other, h)
longer_line c bytes found other (ended_line line rest others h more) = ended_line (c ∷ line) rest others (other, h) more

are_feed : (b : Bool) (c : ℕ) (cs : List ℕ) → (c == 10) ≡ b → AreLines cs (lines cs) → AreLines (c ∷ cs) (cond b ([] ∷ lines cs) (in_front c (lines cs)))
are_feed true c cs e h = let same : c ≡ 10 = grind (arith, nat_tests) in rw same (ended_line [] cs (lines cs) tt h)
are_feed false c cs e h = let other : c ≢ 10 = grind (arith, nat_tests) in longer_line c cs (lines cs) other h

pub are_lines : (bytes : List ℕ) → AreLines bytes (lines bytes)
are_lines [] = no_lines
are_lines (c ∷ cs) = are_feed (c == 10) c cs refl (are_lines cs)

pub lines_defined : LinesAreDefined
lines_defined bytes found = (lines_are bytes found, λ e. subst (AreLines bytes) (sym e) (are_lines bytes))

-- ---- the first line

pub lines-first : (text line rest : List ℕ) → (length text == 0) ≡ false → IsFirstLine text line rest → lines text ≡ line ∷ lines rest
lines-first text line rest some split = ⊎_elim
    (λ parts. ap lines parts ∙ lines-ended line rest split.unbroken)
    (λ parts. ap lines parts.0 ∙ whole line (subst (λ bytes. (length bytes == 0) ≡ false) parts.0 some) split.unbroken ∙ ap (λ bytes. line ∷ lines bytes) (sym parts.1))
    split.parts
  where
    whole : (line : List ℕ) → (length line == 0) ≡ false → HasNoFeed line → lines line ≡ line ∷ []
    whole [] some h = absurd cc
    whole (c ∷ cs) some h = lines-last c cs h

abbrev is_feed : ℕ → Bool
is_feed c = c == 10

split_here : (b : Bool) (c : ℕ) (cs : List ℕ) (end : ℕ) → (c == 10) ≡ b → cond (not b) (1 + position_or_len is_feed cs) 0 ≡ end → end < length (c ∷ cs)
    → ((n : ℕ) → position_or_len is_feed cs ≡ n → n < length cs → IsFirstLine cs (take n cs) (drop (suc n) cs)) → IsFirstLine (c ∷ cs) (take end (c ∷ cs)) (drop (suc end) (c ∷ cs))
split_here true c cs end e at l further =
    let feed : c ≡ 10 = grind (arith, nat_tests) in
    subst (λ n. IsFirstLine (c ∷ cs) (take n (c ∷ cs)) (drop (suc n) (c ∷ cs))) at (record { unbroken = tt; parts = inl (ap (λ d. d ∷ cs) feed) })
split_here false c cs end e at l further =
    let other : c ≢ 10 = grind (arith, nat_tests) in
    let n = position_or_len is_feed cs in
    let here : suc n ≡ end = omega arith in
    let split : IsFirstLine cs (take n cs) (drop (suc n) cs) = further n refl (omega arith) in
    subst (λ n. IsFirstLine (c ∷ cs) (take n (c ∷ cs)) (drop (suc n) (c ∷ cs))) here (record {
      unbroken = (other, split.unbroken);
      parts = ⊎_elim (λ parts. inl (ap (λ bytes. c ∷ bytes) parts)) (λ parts. inr (ap (λ bytes. c ∷ bytes) parts.0, parts.1)) split.parts;
    })

split_at : (text : List ℕ) (end : ℕ) → position_or_len is_feed text ≡ end → end < length text → IsFirstLine text (take end text) (drop (suc end) text)
split_at [] end e l = absurd (omega arith)
split_at (c ∷ cs) end e l = split_here (c == 10) c cs end refl e l (split_at cs)

position_is : (b : Bool) (n l end : ℕ) → ltb n l ≡ b → cond b (Some n) None ≡ Some end → (n ≡ end) × (n < l)
position_is true n l end e h = (cc, grind (arith, nat_tests))
position_is false n l end e h = absurd cc

position_past : (b : Bool) (n l : ℕ) → ltb n l ≡ b → cond b (Some n) None ≡ None → l ≤ n
position_past true n l e h = absurd cc
position_past false n l e h = grind (arith, nat_tests)

-- a text with a line feed
pub first_line-to_feed : (text : List ℕ) (end : ℕ) → position is_feed text ≡ Some end → IsFirstLine text (take end text) (take (length text - (end + 1)) (drop (end + 1) text))
first_line-to_feed text end h =
    let at = position_is _ (position_or_len is_feed text) (length text) end refl h in
    let rest = take_all (length text - (end + 1)) (drop (end + 1) text) (omega (arith, length-drop (end + 1) text)) in
    rw (rest, add-one) (split_at text end at.0 (omega arith))

no_feed_left : (b : Bool) (c : ℕ) (cs : List ℕ) → (c == 10) ≡ b → length (c ∷ cs) ≤ cond (not b) (1 + position_or_len is_feed cs) 0 → (length cs ≤ position_or_len is_feed cs → HasNoFeed cs) → HasNoFeed (c ∷ cs)
no_feed_left true c cs e past further = absurd (omega arith)
no_feed_left false c cs e past further = let other : c ≢ 10 = grind (arith, nat_tests) in (other, further (omega arith))

unbroken_text : (text : List ℕ) → length text ≤ position_or_len is_feed text → HasNoFeed text
unbroken_text [] past = tt
unbroken_text (c ∷ cs) past = no_feed_left (c == 10) c cs refl past (unbroken_text cs)

-- a text without one
pub first_line-whole : (text : List ℕ) → position is_feed text ≡ None → IsFirstLine text text []
first_line-whole text h = record { unbroken = unbroken_text text (position_past _ (position_or_len is_feed text) (length text) refl h); parts = inr (refl, refl) }

-- ---- which lines count

abbrev pub is_visible : ℕ → Bool
is_visible c = not (is_blank c)

found_here : (b : Bool) (c byte : ℕ) (cs : List ℕ) → (find is_visible cs ≡ Some byte → counts cs ≡ not (byte == 35)) → cond (not b) (Some c) (find is_visible cs) ≡ Some byte
    → cond b (counts cs) (not (c == 35)) ≡ not (byte == 35)
found_here true c byte cs further h = further h
found_here false c byte cs further h = let same : c ≡ byte = cc in rw same refl

-- the first byte that isn't a blank decides
pub counts-visible : (line : List ℕ) (byte : ℕ) → find is_visible line ≡ Some byte → counts line ≡ not (byte == 35)
counts-visible [] byte h = absurd cc
counts-visible (c ∷ cs) byte h = found_here (is_blank c) c byte cs (counts-visible cs byte) h

none_here : (b : Bool) (c : ℕ) (cs : List ℕ) → (find is_visible cs ≡ None → counts cs ≡ false) → cond (not b) (Some c) (find is_visible cs) ≡ None
    → cond b (counts cs) (not (c == 35)) ≡ false
none_here true c cs further h = further h
none_here false c cs further h = absurd cc

pub counts-blank : (line : List ℕ) → find is_visible line ≡ None → counts line ≡ false
counts-blank [] h = refl
counts-blank (c ∷ cs) h = none_here (is_blank c) c cs (counts-blank cs) h
