-- Texts that are made of lines, and lines that are made of words with a blank between them.
use Rattle.std.proofs.Common.{◌≡◌, ℕ, ◌^◌, ◌<◌, true, false, Bool, ◌==◌, List, [], ◌∷◌, ◌++◌, refl, ap, sym, ◌∙◌, subst, arith, append_assoc, append-nil, rules}
use Rattle.std.specs.List.{AllByRecursion, list_all, flat_map}
use Rattle.std.specs.Fmt.{decimal}
use Rattle.std.proofs.lemmas.Bool.Decides.{nat_tests}
use Rattle.std.proofs.lemmas.Str.Parse.{IsNumeralModel, numerals_by_fold}
use Rattle.std.proofs.lemmas.Fmt.{digits_decimal}
use Rattle.presentation_text.specs.declared.lexing.Token.{Token}
use Rattle.presentation_text.specs.declared.lexing.Token.TheVariants.{Word}
use Rattle.presentation_text.specs.DocumentText.{blank_before, line_of}
use Rattle.presentation_text.specs.Lines.{HasNoFeed, is_blank, counts, lines}
use Rattle.presentation_text.specs.Tokens.{is_digit, is_letter, is_word_byte, value_behind, numeral, StartsOtherwise, IsWord, AreTokens, no_bytes, blank, word as a_word, number, single, stray, tokens}
use Rattle.presentation_text.proofs.LineLaws.{lines-ended}
use Rattle.presentation_text.proofs.TokenLaws.{are_tokens, tokens_defined}

-- ---- a blank parts tokens

otherwise-blank : (p : ℕ → Bool) (rest behind : List ℕ) → p 32 ≡ false → StartsOtherwise p rest → StartsOtherwise p (rest ++ 32 ∷ behind)
otherwise-blank p [] behind e h = e
otherwise-blank p (c ∷ rest) behind e h = h

parted : (line : List ℕ) (ts : List Token) (behind : List ℕ) → AreTokens line ts → AreTokens (line ++ 32 ∷ behind) (ts ++ tokens behind)
parted _ _ behind no_bytes = blank 32 behind (tokens behind) refl (are_tokens behind)
parted _ _ behind (blank c rest ts h t) = blank c (rest ++ 32 ∷ behind) (ts ++ tokens behind) h (parted rest ts behind t)
parted _ _ behind (a_word c cs rest ts l all ends t) =
    subst (λ x. AreTokens (c ∷ x) (Word (c ∷ cs) ∷ (ts ++ tokens behind))) (sym (append_assoc cs rest (32 ∷ behind)))
    (a_word c cs (rest ++ 32 ∷ behind) (ts ++ tokens behind) l all (otherwise-blank is_word_byte rest behind refl ends) (parted rest ts behind t))
parted _ _ behind (number c cs rest ts d all ends t) =
    subst (λ x. AreTokens (c ∷ x) (numeral (c ∷ cs) ∷ (ts ++ tokens behind))) (sym (append_assoc cs rest (32 ∷ behind)))
    (number c cs (rest ++ 32 ∷ behind) (ts ++ tokens behind) d all (otherwise-blank is_digit rest behind refl ends) (parted rest ts behind t))
parted _ _ behind (single c rest ts h t) = single c (rest ++ 32 ∷ behind) (ts ++ tokens behind) h (parted rest ts behind t)
parted _ _ behind (stray c rest ts h t) = stray c (rest ++ 32 ∷ behind) (ts ++ tokens behind) h (parted rest ts behind t)

pub tokens-parted : (front behind : List ℕ) → tokens (front ++ 32 ∷ behind) ≡ tokens front ++ tokens behind
tokens-parted front behind = sym ((tokens_defined (front ++ 32 ∷ behind) (tokens front ++ tokens behind)).0 (parted front (tokens front) behind (are_tokens front)))

-- the tokens of words with a blank between them
pub tokens-words : (word : List ℕ) (words : List (List ℕ)) → tokens (word ++ blank_before words) ≡ tokens word ++ flat_map tokens words
tokens-words word [] = ap tokens (append-nil word) ∙ sym (append-nil (tokens word))
tokens-words word (next ∷ words) = tokens-parted word (next ++ blank_before words) ∙ ap (λ ts. tokens word ++ ts) (tokens-words next words)

-- ---- no line feed

pub no_feed-append : (xs ys : List ℕ) → HasNoFeed xs → HasNoFeed ys → HasNoFeed (xs ++ ys)
no_feed-append [] ys h g = g
no_feed-append (x ∷ xs) ys h g = (h.0, no_feed-append xs ys h.1 g)

pub no_feed-passing : (p : ℕ → Bool) (xs : List ℕ) → p 10 ≡ false → list_all p xs ≡ true → HasNoFeed xs
no_feed-passing p [] e h = tt
no_feed-passing p (x ∷ xs) e h = (
  λ same. let both : p x ≡ false = ap p same ∙ e in let one : p x ≡ true = grind arith in let never : false ≡ true = sym both ∙ one in cc,
  no_feed-passing p xs e (grind arith),
)

pub digits_model : IsNumeralModel (λ ds. list_all is_digit ds ≡ true) (value_behind 0)
digits_model = numerals_by_fold _ (search rules) value_behind (search rules)

pub no_feed-decimal : (n : ℕ) → n < 2 ^ 64 → HasNoFeed (decimal n)
no_feed-decimal n small = no_feed-passing is_digit (decimal n) refl (digits_decimal digits_model n small)

pub no_feed-word : (name : List ℕ) → IsWord name → HasNoFeed name
no_feed-word [] h = tt
no_feed-word (c ∷ cs) h = (
  λ same. let never : is_letter 10 ≡ true = ap is_letter (sym same) ∙ h.0 in cc,
  no_feed-passing is_word_byte cs refl h.1,
)

pub no_feed-words : (words : List (List ℕ)) → AllByRecursion HasNoFeed words → HasNoFeed (blank_before words)
no_feed-words [] h = tt
no_feed-words (word ∷ words) h = (λ same. omega (arith, same), no_feed-append word (blank_before words) h.0 (no_feed-words words h.1))

-- ---- the lines of a text

-- the first line of a text is that of these words
pub lines-line_of : (word : List ℕ) (words : List (List ℕ)) (rest : List ℕ) → HasNoFeed word → AllByRecursion HasNoFeed words
    → lines (line_of word words ++ rest) ≡ (word ++ blank_before words) ∷ lines rest
lines-line_of word words rest h all =
    let whole = word ++ blank_before words in
    ap lines (append_assoc word (blank_before words ++ 10 ∷ []) rest ∙ ap (λ xs. word ++ xs) (append_assoc (blank_before words) (10 ∷ []) rest) ∙ sym (append_assoc word (blank_before words) (10 ∷ rest)))
    ∙ lines-ended whole rest (no_feed-append word (blank_before words) h (no_feed-words words all))

-- a line counts that begins with a word
pub counts-word : (name rest : List ℕ) → IsWord name → counts (name ++ rest) ≡ true
counts-word [] rest h = absurd h
counts-word (c ∷ cs) rest h =
    let letter : is_letter c ≡ true = h.0 in
    let visible : is_blank c ≡ false = grind (arith, nat_tests) in
    let other : (c == 35) ≡ false = grind (arith, nat_tests) in
    rw visible (rw other refl)
