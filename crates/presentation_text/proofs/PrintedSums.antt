-- The tokens of printed sums: what is printed is read back.
use Rattle.std.proofs.Common.{◌≡◌, ℕ, ◌-◌, ◌%◌, ◌^◌, ◌<◌, ◌≤◌, Bool, true, false, List, [], ◌∷◌, ◌++◌, map, Option, Some, None, refl, ap, sym, ◌∙◌, arith, append_assoc, inl, inr}
use Rattle.std.specs.Prelude.{if◌then◌else◌, ◌==◌}
use Rattle.std.specs.Fmt.{decimal}
use Rattle.std.proofs.Math.Nat.{mod-eq_of_lt}
use Rattle.std.proofs.lemmas.Bool.Decides.{nat_tests}
use Rattle.std.proofs.lemmas.List.Elements.{All-nil, All-cons, All-head, All-tail}
use Rattle.labelled_trees.specs.Trees.{Tree}
use Rattle.labelled_trees.specs.Leaves.{AllLeaves}
use Rattle.labelled_trees.proofs.Leaves.{AllLeaves-imp}
use Rattle.prime_field.specs.Primes.{IsFieldPrime}
use Rattle.symmetric_trees.specs.declared.generators.Generator.{Generator}
use Rattle.symmetric_trees.specs.Generators.{IsTable}
use Rattle.presentation_text.specs.declared.lexing.Token.TheVariants.{Number, Byte}
use Rattle.presentation_text.specs.Tokens.{is_word_byte, StartsOtherwise, tokens}
use Rattle.presentation_text.specs.TreeText.{HasWords, tree_tokens, tree_text}
use Rattle.presentation_text.specs.Elements.{Written, coefficient_tokens, term_tokens, mark, further_tokens, element_tokens, number_of, residue, written_sum}
use Rattle.presentation_text.specs.SumText.{is_negative, magnitude, factor_text, term_text, further_text, sum_text, IsPrintable}
use Rattle.presentation_text.specs.Laws.{PrintedSumsAreReadBack}
use Rattle.presentation_text.proofs.TokenLaws.{tokens-single, tokens-blank}
use Rattle.presentation_text.proofs.PrintedTokens.{tokens-decimal, tokens-tree_text}
use Rattle.presentation_text.proofs.TermsOnce.{IsPositive, ArePositive, terms-once}
use Rattle.presentation_text.proofs.PrintedFeeds.{MayPrint}

-- ---- printed terms, as written ones

abbrev coefficient_of : ℕ → Option ℕ
coefficient_of m = if m == 1 then None else Some m

abbrev written_of : ℕ → ℕ × Tree ℕ → Written
written_of p x = record { negative = is_negative p x.0; coefficient = coefficient_of (magnitude p x.0); tree = x.1 }

abbrev all_written : ℕ → List (ℕ × Tree ℕ) → List Written
all_written p = map (written_of p)

pub small_prime : (p : ℕ) → IsFieldPrime p → p < 10 ^ 18
small_prime p (inl e) = omega arith
small_prime p (inr (inl e)) = omega arith
small_prime p (inr (inr (inl e))) = omega arith
small_prime p (inr (inr (inr (inl e)))) = omega arith
small_prime p (inr (inr (inr (inr (inl e))))) = omega arith
small_prime p (inr (inr (inr (inr (inr (inl e)))))) = omega arith
small_prime p (inr (inr (inr (inr (inr (inr e)))))) = absurd e

-- ---- what a printed term says

number-is : (b : Bool) (m : ℕ) → (m == 1) ≡ b → number_of (if b then None else Some m) ≡ m
number-is true m e = grind (arith, nat_tests)
number-is false m e = refl

residue-is : (p c : ℕ) (b : Bool) → is_negative p c ≡ b → 0 < c → c < p
    → (if b then (p - (if b then p - c else c) % p) % p else (if b then p - c else c) % p) ≡ c
residue-is p c true e positive small =
    let below : p - c < p = omega arith in
    let one : (p - c) % p ≡ p - c = mod-eq_of_lt below in
    let two : c % p ≡ c = mod-eq_of_lt small in
    let back : p - (p - c) ≡ c = omega arith in
    ap (λ k. (p - k) % p) one ∙ ap (λ k. k % p) back ∙ two
residue-is p c false e positive small = mod-eq_of_lt small

-- the residue of a printed term, read back
residue-back : (p : ℕ) (x : ℕ × Tree ℕ) → 0 < x.0 → x.0 < p → residue p (written_of p x) ≡ x.0
residue-back p x positive small =
    let m = magnitude p x.0 in
    let number : number_of (coefficient_of m) ≡ m = number-is (m == 1) m refl in
    ap (λ k. if is_negative p x.0 then (p - k % p) % p else k % p) number ∙ residue-is p x.0 (is_negative p x.0) refl positive small

kept : (p : ℕ) (term : Written) (terms : List Written) (c : ℕ) → residue p term ≡ c → 0 < c → written_sum p (term ∷ terms) ≡ (c, term.tree) ∷ written_sum p terms
kept p term terms c e positive =
    let nonzero : (residue p term == 0) ≡ false = grind (arith, nat_tests) in
    rw nonzero (ap (λ k. (k, term.tree) ∷ written_sum p terms) e)

same : (p : ℕ) (generators : List Generator) (e : List (ℕ × Tree ℕ)) → IsPrintable p generators e → written_sum p (all_written p e) ≡ e
same p generators [] h = refl
same p generators (x ∷ e) h =
    let may : MayPrint p generators x = All-head (MayPrint p generators) x e h in
    kept p (written_of p x) (all_written p e) x.0 (residue-back p x may.0 may.1) may.0 ∙ ap (λ r. x ∷ r) (same p generators e (All-tail (MayPrint p generators) x e h))

trees : (p : ℕ) (e : List (ℕ × Tree ℕ)) → map (λ (term : Written). term.tree) (all_written p e) ≡ map (λ (x : ℕ × Tree ℕ). x.1) e
trees p [] = refl
trees p (x ∷ e) = ap (λ r. x.1 ∷ r) (trees p e)

-- ---- the tokens of the text

magnitude-small : (p c : ℕ) (b : Bool) → is_negative p c ≡ b → c < p → (if b then p - c else c) ≤ p
magnitude-small p c true e small = omega arith
magnitude-small p c false e small = omega arith

further_begins : (p : ℕ) (generators : List Generator) (e : List (ℕ × Tree ℕ)) → StartsOtherwise is_word_byte (further_text p generators e)
further_begins p generators [] = tt
further_begins p generators (x ∷ e) = refl

module _ (p : ℕ) (generators : List Generator) (words : HasWords generators) (prime : p < 10 ^ 18) where
  tokens-factor : (m : ℕ) (b : Bool) → (m == 1) ≡ b → m < 10 ^ 18 → (rest : List ℕ)
      → tokens ((if b then [] else decimal m ++ 42 ∷ []) ++ rest) ≡ coefficient_tokens (if b then None else Some m) ++ tokens rest
  tokens-factor m true e small rest = refl
  tokens-factor m false e small rest =
      ap tokens (append_assoc (decimal m) (42 ∷ []) rest) ∙ tokens-decimal m (42 ∷ rest) small refl ∙ ap (λ r. Number m ∷ r) (tokens-single 42 rest refl)

  tokens-term : (x : ℕ × Tree ℕ) → MayPrint p generators x → (rest : List ℕ) → StartsOtherwise is_word_byte rest
      → tokens (term_text p generators x ++ rest) ≡ term_tokens generators (written_of p x) ++ tokens rest
  tokens-term x may rest ends =
      let m = magnitude p x.0 in
      let below : m ≤ p = magnitude-small p x.0 (is_negative p x.0) refl may.1 in
      let leaves : AllLeaves x.1 (λ n. n < 10 ^ 18) = AllLeaves-imp x.1 (λ n. (0 < n) × (n < 10 ^ 18)) (λ n. n < 10 ^ 18) (λ n h. h.1) may.3 in
      ap tokens (append_assoc (factor_text m) (tree_text generators x.1) rest)
      ∙ tokens-factor m (m == 1) refl (omega arith) (tree_text generators x.1 ++ rest)
      ∙ ap (λ r. coefficient_tokens (coefficient_of m) ++ r) (tokens-tree_text generators words x.1 rest may.2 leaves ends)
      ∙ sym (append_assoc (coefficient_tokens (coefficient_of m)) (tree_tokens generators x.1) (tokens rest))

  tokens-mark : (b : Bool) (rest : List ℕ) → tokens ((if b then 45 else 43) ∷ rest) ≡ mark b ∷ tokens rest
  tokens-mark true rest = tokens-single 45 rest refl
  tokens-mark false rest = tokens-single 43 rest refl

  tokens-further : (e : List (ℕ × Tree ℕ)) → IsPrintable p generators e → tokens (further_text p generators e) ≡ further_tokens generators (all_written p e)
  tokens-further [] h = refl
  tokens-further (x ∷ e) h =
      let may : MayPrint p generators x = All-head (MayPrint p generators) x e h in
      let behind = term_text p generators x ++ further_text p generators e in
      tokens-blank 32 ((if is_negative p x.0 then 45 else 43) ∷ (32 ∷ behind)) refl
      ∙ tokens-mark (is_negative p x.0) (32 ∷ behind)
      ∙ ap (λ r. mark (is_negative p x.0) ∷ r) (tokens-blank 32 behind refl
      ∙ tokens-term x may (further_text p generators e) (further_begins p generators e)
      ∙ ap (λ r. term_tokens generators (written_of p x) ++ r) (tokens-further e (All-tail (MayPrint p generators) x e h)))

  tokens-first : (b : Bool) (rest : List ℕ) → tokens ((if b then 45 ∷ [] else []) ++ rest) ≡ (if b then Byte 45 ∷ [] else []) ++ tokens rest
  tokens-first true rest = tokens-single 45 rest refl
  tokens-first false rest = refl

  tokens-sum : (e : List (ℕ × Tree ℕ)) → IsPrintable p generators e → tokens (sum_text p generators e) ≡ element_tokens generators (all_written p e)
  tokens-sum [] h = refl
  tokens-sum (x ∷ e) h =
      let may : MayPrint p generators x = All-head (MayPrint p generators) x e h in
      let sign : List ℕ = if is_negative p x.0 then 45 ∷ [] else [] in
      ap tokens (append_assoc sign (term_text p generators x) (further_text p generators e))
      ∙ tokens-first (is_negative p x.0) (term_text p generators x ++ further_text p generators e)
      ∙ ap (λ r. (if is_negative p x.0 then Byte 45 ∷ [] else []) ++ r) (tokens-term x may (further_text p generators e) (further_begins p generators e)
      ∙ ap (λ r. term_tokens generators (written_of p x) ++ r) (tokens-further e (All-tail (MayPrint p generators) x e h)))

-- ---- the law

are_positive : (p : ℕ) (generators : List Generator) (e : List (ℕ × Tree ℕ)) → IsPrintable p generators e → ArePositive generators (all_written p e)
are_positive p generators [] h = All-nil (λ (term : Written). IsPositive generators term.tree)
are_positive p generators (x ∷ e) h =
    let may : MayPrint p generators x = All-head (MayPrint p generators) x e h in
    All-cons (λ (term : Written). IsPositive generators term.tree) (written_of p x) (all_written p e)
    (record { fits = may.2; leaves = AllLeaves-imp x.1 (λ n. (0 < n) × (n < 10 ^ 18)) (λ n. 0 < n) (λ n k. k.0) may.3 })
    (are_positive p generators e (All-tail (MayPrint p generators) x e h))

apart : (p : ℕ) (generators : List Generator) → IsFieldPrime p → IsTable generators → HasWords generators → (e f : List (ℕ × Tree ℕ)) → IsPrintable p generators e → IsPrintable p generators f
    → sum_text p generators e ≡ sum_text p generators f → e ≡ f
apart p generators prime table words e f he hf text =
    let small = small_prime p prime in
    let terms : all_written p e ≡ all_written p f = terms-once generators table (all_written p e) (all_written p f) (are_positive p generators e he) (are_positive p generators f hf)
    (sym (tokens-sum p generators words small e he) ∙ ap tokens text ∙ tokens-sum p generators words small f hf) in
    sym (same p generators e he) ∙ ap (written_sum p) terms ∙ same p generators f hf

pub read_back : PrintedSumsAreReadBack
read_back p generators prime table words = record {
  read_back = λ e h. record { terms = all_written p e; read = tokens-sum p generators words (small_prime p prime) e h; same = same p generators e h; trees = trees p e };
  apart = apart p generators prime table words;
}
