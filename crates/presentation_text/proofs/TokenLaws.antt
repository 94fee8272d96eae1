-- The tokens of a line: words are ASCII, short numbers fit, and what the tokens are.
use Rattle.std.proofs.Common.{◌≡◌, ℕ, zero, suc, ◌+◌, ◌-◌, ◌^◌, ◌<◌, ◌≤◌, Bool, true, false, ◌&&◌, List, [], ◌∷◌, ◌++◌, length, get_or, drop, take, refl, ap, sym, ◌∙◌, subst, arith, add-one, append_assoc, append-nil, lit<, cond, Result, Ok, Err, ⊎_elim, nat_le}
use Rattle.std.specs.Prelude.{take_while, IsOk, MatchResult}
use Rattle.std.specs.List.{list_all, prefix_len}
use Rattle.std.specs.Str.{IsUtf8}
use Rattle.std.proofs.lemmas.Str.{IsUtf8-from_ascii}
use Rattle.std.proofs.lemmas.List.{drop_more, take_all, drop_at, take-append-drop}
use Rattle.std.proofs.lemmas.List.Sums.{take_while-cons}
use Rattle.std.proofs.lemmas.List.Folds.{length-prefix_len}
use Rattle.std.proofs.lemmas.Bool.Decides.{nat_tests}
use Rattle.std.proofs.Math.Nat.{pow-le-pow_right}
use Rattle.modular_sums.specs.Lists.{Mem}
use Rattle.presentation_text.specs.declared.lexing.Token.{Token}
use Rattle.presentation_text.specs.declared.lexing.Token.TheVariants.{Word, Number, Long, Byte, Bad}
use Rattle.presentation_text.specs.Lines.{is_blank}
use Rattle.presentation_text.specs.Tokens.{is_word_byte, is_letter, is_digit, is_single, numeral, value_behind, StartsOtherwise, IsWord, IsStray, AreTokens, no_bytes, blank, word, number, single, stray, tokens_behind, tokens}
use Rattle.presentation_text.specs.Laws.{TokensAreDefined, WordsAreWords}

-- ---- tests of bytes

pub and_left : (a b : Bool) → (a && b) ≡ true → a ≡ true
and_left true b h = refl
and_left false b h = cc

pub and_right : (a b : Bool) → (a && b) ≡ true → b ≡ true
and_right true b h = h
and_right false b h = cc

letter_not_blank : (c : ℕ) → is_letter c ≡ true → is_blank c ≡ false
letter_not_blank c h = grind (arith, nat_tests)

digit_not_blank : (c : ℕ) → is_digit c ≡ true → is_blank c ≡ false
digit_not_blank c h = grind (arith, nat_tests)

digit_not_letter : (c : ℕ) → is_digit c ≡ true → is_letter c ≡ false
digit_not_letter c h = grind (arith, nat_tests)

single_not_blank : (c : ℕ) → is_single c ≡ true → is_blank c ≡ false
single_not_blank c h = grind (arith, nat_tests)

single_not_letter : (c : ℕ) → is_single c ≡ true → is_letter c ≡ false
single_not_letter c h = grind (arith, nat_tests)

single_not_digit : (c : ℕ) → is_single c ≡ true → is_digit c ≡ false
single_not_digit c h = grind (arith, nat_tests)

small_word_byte : (c : ℕ) → is_word_byte c ≡ true → c < 128
small_word_byte c h = grind (arith, nat_tests)

ascii_in : (text : List ℕ) → list_all is_word_byte text ≡ true → (i : ℕ) → get_or text i 0 < 128
ascii_in [] h i = lit< tt
ascii_in (c ∷ cs) h zero = small_word_byte c (and_left (is_word_byte c) (list_all is_word_byte cs) h)
ascii_in (c ∷ cs) h (suc i) = ascii_in cs (and_right (is_word_byte c) (list_all is_word_byte cs) h) i

pub word_is_utf8 : (text : List ℕ) → list_all is_word_byte text ≡ true → IsUtf8 text
word_is_utf8 text h = IsUtf8-from_ascii text (ascii_in text h)

-- a result that can be no error
pub ok_unless : {T E : Type 0} (r : Result T E) (P : T → Type 0) (Q : E → Type 0) → MatchResult r P Q → ((e : E) → Q e → ⊥) → IsOk r
ok_unless (Ok x) P Q h never = refl
ok_unless (Err e) P Q h never = absurd (never e h)

-- ---- runs of bytes that pass

passes_if : (p : ℕ → Bool) (c : ℕ) (xs : List ℕ) (b : Bool) → p c ≡ b → list_all p xs ≡ true → list_all p (cond b (c ∷ xs) []) ≡ true
passes_if p c xs true e h = rw (e, h) refl
passes_if p c xs false e h = refl

pub passes_all : (p : ℕ → Bool) (cs : List ℕ) → list_all p (take_while p cs) ≡ true
passes_all p [] = refl
passes_all p (c ∷ cs) = rw (take_while-cons p c cs) (passes_if p c (take_while p cs) (p c) refl (passes_all p cs))

-- a run is what stands before the first byte that doesn't pass
pub run_is : (p : ℕ → Bool) (c : ℕ) (cs : List ℕ) → take (length (take_while p cs) + 1) (c ∷ cs) ≡ c ∷ take_while p cs
run_is p c cs = let l = length-prefix_len p cs in rw (add-one, l) refl

pub run_passes : (p : ℕ → Bool) (c : ℕ) (cs : List ℕ) → p c ≡ true → list_all p (take (length (take_while p cs) + 1) (c ∷ cs)) ≡ true
run_passes p c cs h = let r = run_is p c cs in rw (r, h) (passes_all p cs)

pub letter_goes_on : (c : ℕ) → is_letter c ≡ true → is_word_byte c ≡ true
letter_goes_on c h = rw h refl

run_splits : (p : ℕ → Bool) (cs : List ℕ) → take_while p cs ++ drop (length (take_while p cs)) cs ≡ cs
run_splits p cs = let l = length-prefix_len p cs in rw l (take-append-drop (prefix_len p cs) cs)

-- a run ends where a byte doesn't pass
pub run_ends : (p : ℕ → Bool) (cs rest : List ℕ) → list_all p cs ≡ true → StartsOtherwise p rest → take_while p (cs ++ rest) ≡ cs
run_ends p [] [] h n = refl
run_ends p [] (b ∷ more) h n = rw (take_while-cons p b more, n) refl
run_ends p (c ∷ cs) rest h n = let one = and_left (p c) (list_all p cs) h in rw (take_while-cons p c (cs ++ rest), one) (ap (λ x. c ∷ x) (run_ends p cs rest (and_right (p c) (list_all p cs) h) n))

stops_if : (p : ℕ → Bool) (c : ℕ) (cs : List ℕ) (b : Bool) → p c ≡ b → StartsOtherwise p (drop (length (take_while p cs)) cs) → StartsOtherwise p (drop (length (cond b (c ∷ take_while p cs) [])) (c ∷ cs))
stops_if p c cs true e h = h
stops_if p c cs false e h = e

run_stops : (p : ℕ → Bool) (cs : List ℕ) → StartsOtherwise p (drop (length (take_while p cs)) cs)
run_stops p [] = tt
run_stops p (c ∷ cs) = rw (take_while-cons p c cs) (stops_if p c cs (p c) refl (run_stops p cs))

behind_first : (c : ℕ) (cs : List ℕ) → take (length (c ∷ cs) - 1) cs ≡ cs
behind_first c cs = let k : length (c ∷ cs) - 1 ≡ length cs = omega arith in rw (k, take_all (length cs) cs (omega arith)) refl

pub run_front : (p : ℕ → Bool) (rest : List ℕ) (n : ℕ) → 1 ≤ length rest → p (get_or rest 0 0) ≡ true → n ≡ length (take_while p (take (length rest - 1) (drop 1 rest))) → list_all p (take (n + 1) rest) ≡ true
run_front p [] n l h e = absurd (omega arith)
run_front p (c ∷ cs) n l h e = let b = behind_first c cs in let k : n ≡ length (take_while p cs) = rw b at e in rw k (run_passes p c cs h)

-- ---- tokens one after the other

pub behind_is : (k : ℕ) (cs : List ℕ) → tokens_behind k cs ≡ tokens (drop k cs)
behind_is zero cs = refl
behind_is (suc k) [] = refl
behind_is (suc k) (c ∷ cs) = behind_is k cs

behind_run : (cs rest : List ℕ) → tokens_behind (length cs) (cs ++ rest) ≡ tokens rest
behind_run cs rest = behind_is (length cs) (cs ++ rest) ∙ ap tokens (drop_at cs rest (length cs) refl)

pub tokens-blank : (c : ℕ) (rest : List ℕ) → is_blank c ≡ true → tokens (c ∷ rest) ≡ tokens rest
tokens-blank c rest h = rw h refl

pub tokens-word : (c : ℕ) (cs rest : List ℕ) → is_letter c ≡ true → list_all is_word_byte cs ≡ true → StartsOtherwise is_word_byte rest → tokens (c ∷ (cs ++ rest)) ≡ Word (c ∷ cs) ∷ tokens rest
tokens-word c cs rest l all n =
    let no_blank = letter_not_blank c l in let run = run_ends is_word_byte cs rest all n in
    rw (no_blank, l, run) (ap (λ x. Word (c ∷ cs) ∷ x) (behind_run cs rest))

pub tokens-number : (c : ℕ) (cs rest : List ℕ) → is_digit c ≡ true → list_all is_digit cs ≡ true → StartsOtherwise is_digit rest → tokens (c ∷ (cs ++ rest)) ≡ numeral (c ∷ cs) ∷ tokens rest
tokens-number c cs rest d all n =
    let no_blank = digit_not_blank c d in let no_letter = digit_not_letter c d in let run = run_ends is_digit cs rest all n in
    rw (no_blank, no_letter, d, run) (ap (λ x. numeral (c ∷ cs) ∷ x) (behind_run cs rest))

pub tokens-single : (c : ℕ) (rest : List ℕ) → is_single c ≡ true → tokens (c ∷ rest) ≡ Byte c ∷ tokens rest
tokens-single c rest h = let a = single_not_blank c h in let b = single_not_letter c h in let d = single_not_digit c h in rw (a, b, d, h) refl

pub tokens-stray : (c : ℕ) (rest : List ℕ) → IsStray c → tokens (c ∷ rest) ≡ Bad ∷ tokens rest
tokens-stray c rest h = let a = h.blank in let b = h.letter in let d = h.digit in let e = h.single in rw (a, b, d, e) refl

-- a step of reading: with a token, and with a blank
pub tokens_step : (found new : List Token) (token : Token) (rest behind line : List ℕ) (k : ℕ) → new ≡ found ++ token ∷ [] → tokens rest ≡ token ∷ tokens_behind k rest → behind ≡ drop k rest
    → found ++ tokens rest ≡ tokens line → new ++ tokens behind ≡ tokens line
tokens_step found new token rest behind line k n r b h = rw (n, b, ← behind_is k rest, append_assoc, ← r) h

pub tokens_skip : (found : List Token) (rest behind line : List ℕ) (k : ℕ) → tokens rest ≡ tokens_behind k rest → behind ≡ drop k rest → found ++ tokens rest ≡ tokens line → found ++ tokens behind ≡ tokens line
tokens_skip found rest behind line k r b h = rw (b, ← behind_is k rest, ← r) h

-- where no byte is left, all tokens are read
pub tokens_end : (found : List Token) (rest line : List ℕ) → length rest ≡ 0 → found ++ tokens rest ≡ tokens line → AreTokens line (tokens line) → AreTokens line found
tokens_end found [] line none h are = subst (AreTokens line) (sym (sym (append-nil found) ∙ h)) are
tokens_end found (c ∷ cs) line none h are = absurd (omega arith)

-- ---- what the tokens are, and the function

tokens_are : (line : List ℕ) (found : List Token) → AreTokens line found → found ≡ tokens line
tokens_are line found no_bytes = refl
tokens_are line found (blank c rest ts h further) = tokens_are rest ts further ∙ sym (tokens-blank c rest h)
tokens_are line found (word c cs rest ts l all n further) = ap (λ x. Word (c ∷ cs) ∷ x) (tokens_are rest ts further) ∙ sym (tokens-word c cs rest l all n)
tokens_are line found (number c cs rest ts d all n further) = ap (λ x. numeral (c ∷ cs) ∷ x) (tokens_are rest ts further) ∙ sym (tokens-number c cs rest d all n)
tokens_are line found (single c rest ts h further) = ap (λ x. Byte c ∷ x) (tokens_are rest ts further) ∙ sym (tokens-single c rest h)
tokens_are line found (stray c rest ts h further) = ap (λ x. Bad ∷ x) (tokens_are rest ts further) ∙ sym (tokens-stray c rest h)

-- the tokens behind any number of bytes are those of what is left
abbrev Further : List ℕ → Type 0
Further cs = (k : ℕ) → AreTokens (drop k cs) (tokens_behind k cs)

are_single : (b : Bool) (c : ℕ) (cs : List ℕ) → is_blank c ≡ false → is_letter c ≡ false → is_digit c ≡ false → is_single c ≡ b → Further cs
    → AreTokens (c ∷ cs) (cond b (Byte c ∷ tokens cs) (Bad ∷ tokens cs))
are_single true c cs no_blank no_letter no_digit h further = single c cs (tokens cs) h (further 0)
are_single false c cs no_blank no_letter no_digit h further = stray c cs (tokens cs) (record { blank = no_blank; letter = no_letter; digit = no_digit; single = h }) (further 0)

are_number : (b : Bool) (c : ℕ) (cs : List ℕ) → is_blank c ≡ false → is_letter c ≡ false → is_digit c ≡ b → Further cs
    → AreTokens (c ∷ cs) (cond b (numeral (c ∷ take_while is_digit cs) ∷ tokens_behind (length (take_while is_digit cs)) cs) (cond (is_single c) (Byte c ∷ tokens cs) (Bad ∷ tokens cs)))
are_number true c cs no_blank no_letter h further =
    let run = take_while is_digit cs in let ts = numeral (c ∷ run) ∷ tokens_behind (length run) cs in
    subst (λ x. AreTokens (c ∷ x) ts) (run_splits is_digit cs)
    (number c run (drop (length run) cs) (tokens_behind (length run) cs) h (passes_all is_digit cs) (run_stops is_digit cs) (further (length run)))
are_number false c cs no_blank no_letter h further = are_single (is_single c) c cs no_blank no_letter h refl further

are_word : (b : Bool) (c : ℕ) (cs : List ℕ) → is_blank c ≡ false → is_letter c ≡ b → Further cs
    → AreTokens (c ∷ cs) (cond b (Word (c ∷ take_while is_word_byte cs) ∷ tokens_behind (length (take_while is_word_byte cs)) cs)
    (cond (is_digit c) (numeral (c ∷ take_while is_digit cs) ∷ tokens_behind (length (take_while is_digit cs)) cs) (cond (is_single c) (Byte c ∷ tokens cs) (Bad ∷ tokens cs))))
are_word true c cs no_blank h further =
    let run = take_while is_word_byte cs in let ts = Word (c ∷ run) ∷ tokens_behind (length run) cs in
    subst (λ x. AreTokens (c ∷ x) ts) (run_splits is_word_byte cs)
    (word c run (drop (length run) cs) (tokens_behind (length run) cs) h (passes_all is_word_byte cs) (run_stops is_word_byte cs) (further (length run)))
are_word false c cs no_blank h further = are_number (is_digit c) c cs no_blank h refl further

are_front : (b : Bool) (c : ℕ) (cs : List ℕ) → is_blank c ≡ b → Further cs
    → AreTokens (c ∷ cs) (cond b (tokens cs) (cond (is_letter c) (Word (c ∷ take_while is_word_byte cs) ∷ tokens_behind (length (take_while is_word_byte cs)) cs)
    (cond (is_digit c) (numeral (c ∷ take_while is_digit cs) ∷ tokens_behind (length (take_while is_digit cs)) cs) (cond (is_single c) (Byte c ∷ tokens cs) (Bad ∷ tokens cs)))))
are_front true c cs h further = blank c cs (tokens cs) h (further 0)
are_front false c cs h further = are_word (is_letter c) c cs h refl further

are_behind : (line : List ℕ) → Further line
are_behind [] zero = no_bytes
are_behind [] (suc k) = no_bytes
are_behind (c ∷ cs) zero = are_front (is_blank c) c cs refl (are_behind cs)
are_behind (c ∷ cs) (suc k) = are_behind cs k

pub are_tokens : (line : List ℕ) → AreTokens line (tokens line)
are_tokens line = are_behind line 0

pub tokens_defined : TokensAreDefined
tokens_defined line found = (tokens_are line found, λ e. subst (AreTokens line) (sym e) (are_tokens line))

-- ---- words

no_word : (b : Bool) (n : ℕ) (name : List ℕ) → Word name ≡ cond b (Number n) Long → ⊥
no_word true n name e = cc
no_word false n name e = cc

word_in : (line name : List ℕ) (ts : List Token) → AreTokens line ts → Mem (Word name) ts → IsWord name
word_in _ name _ no_bytes m = absurd m
word_in _ name _ (blank c rest ts h are) m = word_in rest name ts are m
word_in _ name _ (word c cs rest ts letter all ends are) m =
    ⊎_elim (λ e. let same : name ≡ c ∷ cs = cc in subst IsWord (sym same) (letter, all)) (λ behind. word_in rest name ts are behind) m
word_in _ name _ (number c cs rest ts digit all ends are) m =
    ⊎_elim (λ e. absurd (no_word (nat_le (length (c ∷ cs)) 18) (value_behind 0 (c ∷ cs)) name e)) (λ behind. word_in rest name ts are behind) m
word_in _ name _ (single c rest ts h are) m = ⊎_elim (λ e. absurd cc) (λ behind. word_in rest name ts are behind) m
word_in _ name _ (stray c rest ts h are) m = ⊎_elim (λ e. absurd cc) (λ behind. word_in rest name ts are behind) m

pub words : WordsAreWords
words line name m = word_in line name (tokens line) (are_tokens line) m

-- ---- numbers

digit_bounds : (c : ℕ) → is_digit c ≡ true → (48 ≤ c) × (c ≤ 57)
digit_bounds c h = (grind (arith, nat_tests), grind (arith, nat_tests))

-- the digit at a place
pub digit_at : (ds : List ℕ) (i d : ℕ) → i < length ds → d ≡ get_or ds i d → list_all is_digit (drop i ds) ≡ true → (48 ≤ d) × (d ≤ 57) × (list_all is_digit (drop (i + 1) ds) ≡ true)
digit_at ds i d l e h =
    let here : drop i ds ≡ d ∷ drop (i + 1) ds = drop_more ds i d l ∙ ap (λ y. y ∷ drop (i + 1) ds) (sym e) in
    let all : list_all is_digit (d ∷ drop (i + 1) ds) ≡ true = ap (list_all is_digit) (sym here) ∙ h in
    let bounds = digit_bounds d (and_left (is_digit d) (list_all is_digit (drop (i + 1) ds)) all) in
    (bounds.0, bounds.1, and_right (is_digit d) (list_all is_digit (drop (i + 1) ds)) all)

pub below_limit : (v i : ℕ) → i ≤ 17 → v < 10 ^ i → v < 10 ^ 17
below_limit v i l h = let p = pow-le-pow_right {n = 10} (lit< tt) l in omega (arith, p)
