-- Symbols in the places of a number: what is put there is read back, and how words are joined and shortened.
use Rattle.std.proofs.Common.{◌≡◌, ℕ, zero, suc, ◌+◌, ◌-◌, ◌*◌, ◌/◌, ◌%◌, ◌^◌, ◌<◌, ◌≤◌, List, [], ◌∷◌, length, refl, ap, ap₂, sym, ◌∙◌, subst, arith, add-zero}
use mathlib.Core.List.{◌++◌}
use Rattle.std.specs.List.{AllByRecursion}
use Rattle.std.proofs.Math.Nat.{pow-succ', pow-zero, zero-div, mul-le-mul_right, mul-div_cancel, mod-eq_of_lt, zero-mul}
use Rattle.std.proofs.lemmas.Nat.{pow-add, div-mul-add, mod-mul-add}
use Rattle.normal_listing.specs.Places.{IsSymbol, at_places, before, from_places, IsShortWord, number_of, word_in}

pub places_pos : (k : ℕ) → 0 < 32 ^ k
places_pos zero = let e = pow-zero 32 in omega (arith, e)
places_pos (suc k) = let e = pow-succ' 32 k in let h = places_pos k in omega (arith, e, h)

digit_below : (s p r : ℕ) → s < 32 → r < p → s * p + r < 32 * p
digit_below s p r h g = let k : s * p ≤ 31 * p = mul-le-mul_right p (omega arith) in omega (arith, k)

-- a number of k places is below 32^k
pub below_places : (k : ℕ) (l : List ℕ) → AllByRecursion IsSymbol l → at_places k l < 32 ^ k
below_places zero l h = let e = pow-zero 32 in omega (arith, e)
below_places (suc k) [] h = places_pos (suc k)
below_places (suc k) (s ∷ l) h = let e = pow-succ' 32 k in let d = digit_below s (32 ^ k) (at_places k l) h.0.small (below_places k l h.1) in omega (arith, e, d)

pub at_none : (k : ℕ) → at_places k [] ≡ 0
at_none zero = refl
at_none (suc k) = refl

before_some : (s : ℕ) (l : List ℕ) → 0 < s → before s l ≡ s ∷ l
before_some zero l h = absurd (omega (arith, h))
before_some (suc s) l h = refl

-- what is put into places is read back
pub read_back : (k : ℕ) (l : List ℕ) → AllByRecursion IsSymbol l → length l ≤ k → from_places k (at_places k l) ≡ l
read_back zero [] h f = refl
read_back zero (s ∷ l) h f = absurd (omega (arith, f))
read_back (suc k) [] h f = ap (λ d. before (d % 32) (from_places k (0 % 32 ^ k))) (zero-div (32 ^ k))
read_back (suc k) (s ∷ l) h f =
    let low = below_places k l h.1 in
    let digit : (s * 32 ^ k + at_places k l) / 32 ^ k % 32 ≡ s = ap (λ d. d % 32) (div-mul-add s (32 ^ k) (at_places k l) low) ∙ mod-eq_of_lt h.0.small in
    let others : (s * 32 ^ k + at_places k l) % 32 ^ k ≡ at_places k l = mod-mul-add s (32 ^ k) (at_places k l) low in
    ap₂ (λ d r. before d (from_places k r)) digit others
    ∙ ap (before s) (read_back k l h.1 (omega (arith, f))) ∙ before_some s l h.0.some

before_symbols : (s k : ℕ) (l : List ℕ) → s < 32 → AllByRecursion IsSymbol l → length l ≤ k → AllByRecursion IsSymbol (before s l) × (length (before s l) ≤ suc k)
before_symbols zero k l h a f = (tt, omega arith)
before_symbols (suc s) k l h a f = ((record { some = omega arith; small = h }, a), omega (arith, f))

-- what is read are symbols
pub symbols_read : (k w : ℕ) → AllByRecursion IsSymbol (from_places k w) × (length (from_places k w) ≤ k)
symbols_read zero w = (tt, omega arith)
symbols_read (suc k) w = let rest = symbols_read k (w % 32 ^ k) in before_symbols (w / 32 ^ k % 32) k (from_places k (w % 32 ^ k)) (omega arith) rest.0 rest.1

-- j more places behind
pub more_places : (k j m : ℕ) (l : List ℕ) → k + j ≡ m → length l ≤ k → at_places m l ≡ at_places k l * 32 ^ j
more_places k j m [] e f = at_none m ∙ sym (ap (λ n. n * 32 ^ j) (at_none k) ∙ zero-mul (32 ^ j))
more_places zero j m (s ∷ l) e f = absurd (omega (arith, f))
more_places (suc k) j zero (s ∷ l) e f = absurd (omega (arith, e))
more_places (suc k) j (suc m) (s ∷ l) e f =
    let sum : k + j ≡ m = omega (arith, e) in
    let rest : at_places m l ≡ at_places k l * 32 ^ j = more_places k j m l sum (omega (arith, f)) in
    let power : 32 ^ m ≡ 32 ^ k * 32 ^ j = ap (λ n. 32 ^ n) (sym sum) ∙ pow-add 32 k j in
    ap₂ (λ p r. s * p + r) power rest ∙ regroup s (32 ^ k) (32 ^ j) (at_places k l)
  where
    regroup : (s p q r : ℕ) → s * (p * q) + r * q ≡ (s * p + r) * q
    regroup s p q r = omega arith

-- one word behind another
pub joined_places : (k j : ℕ) (l m : List ℕ) → length l + j ≡ k → at_places k (l ++ m) ≡ at_places k l + at_places j m
joined_places k j [] m e = let same : j ≡ k = omega (arith, e) in ap (λ n. at_places n m) (sym same) ∙ sym (ap (λ n. n + at_places j m) (at_none k) ∙ zero-plus (at_places j m))
  where
    zero-plus : (n : ℕ) → 0 + n ≡ n
    zero-plus n = omega arith
joined_places zero j (s ∷ l) m e = absurd (omega (arith, e))
joined_places (suc k) j (s ∷ l) m e = ap (λ n. s * 32 ^ k + n) (joined_places k j l m (omega (arith, e))) ∙ assoc (s * 32 ^ k) (at_places k l) (at_places j m)
  where
    assoc : (a b c : ℕ) → a + (b + c) ≡ (a + b) + c
    assoc a b c = omega arith

pub five_bits : (n : ℕ) → 2 ^ (5 * n) ≡ 32 ^ n
five_bits zero = refl
five_bits (suc n) =
    let steps : 5 * suc n ≡ 5 + 5 * n = omega arith in
    ap (λ k. 2 ^ k) steps ∙ pow-add 2 5 (5 * n) ∙ ap (λ k. 32 * k) (five_bits n) ∙ sym (pow-succ' 32 n)

-- ---- words of 25 places

pub read_word : (l : List ℕ) → IsShortWord l → word_in (number_of l) ≡ l
unfolding number_of word_in
read_word l h = read_back 25 l h.symbols h.few

pub is_word : (w : ℕ) → IsShortWord (word_in w)
unfolding word_in
is_word w = let r = symbols_read 25 w in record { few = r.1; symbols = r.0 }

pub word_small : (l : List ℕ) → IsShortWord l → number_of l < 2 ^ 125
unfolding number_of
word_small l h = below_places 25 l h.symbols

pub number_joined : (l m : List ℕ) → length l + length m ≤ 25 → number_of l + number_of m / 2 ^ (5 * length l) ≡ number_of (l ++ m)
unfolding number_of
number_joined l m f =
    let j = 25 - length l in
    let n = length l in
    let whole : at_places 25 m ≡ at_places j m * 32 ^ n = more_places j n 25 m (omega arith) (omega arith) in
    let moved : at_places 25 m / 2 ^ (5 * n) ≡ at_places j m = ap₂ (λ a b. a / b) whole (five_bits n) ∙ mul-div_cancel (at_places j m) (places_pos n) in
    ap (λ x. at_places 25 l + x) moved ∙ sym (joined_places 25 j l m (omega arith))

pub number_symbol : (s : ℕ) → number_of (s ∷ []) ≡ s * 2 ^ 120
unfolding number_of
number_symbol s = add-zero (s * 2 ^ 120)

pub number_none : number_of [] ≡ 0
unfolding number_of
number_none = refl

pub first_of : (s : ℕ) (l : List ℕ) → IsShortWord (s ∷ l) → number_of (s ∷ l) / 2 ^ 120 ≡ s
unfolding number_of
first_of s l h = div-mul-add s (2 ^ 120) (at_places 24 l) (below_places 24 l h.symbols.1)

pub rest_of : (s : ℕ) (l : List ℕ) → IsShortWord (s ∷ l) → number_of (s ∷ l) % 2 ^ 120 * 32 ≡ number_of l
unfolding number_of
rest_of s l h =
    let few = h.few in
    ap (λ r. r * 32) (mod-mul-add s (2 ^ 120) (at_places 24 l) (below_places 24 l h.symbols.1)) ∙ sym (more_places 24 1 25 l refl (omega (arith, few)))

-- parts of words are words
pub rest_word : (s : ℕ) (l : List ℕ) → IsShortWord (s ∷ l) → IsShortWord l
rest_word s l h = let few = h.few in record { few = omega (arith, few); symbols = h.symbols.1 }

pub all_joined : (l m : List ℕ) → AllByRecursion IsSymbol l → AllByRecursion IsSymbol m → AllByRecursion IsSymbol (l ++ m)
all_joined [] m a b = b
all_joined (s ∷ l) m a b = (a.0, all_joined l m a.1 b)

pub length_joined : (l m : List ℕ) → length (l ++ m) ≡ length l + length m
length_joined [] m = omega arith
length_joined (s ∷ l) m = let e = length_joined l m in omega (arith, e)

pub joined_word : (l m : List ℕ) → IsShortWord l → IsShortWord m → length l + length m ≤ 25 → IsShortWord (l ++ m)
joined_word l m a b f = let e = length_joined l m in record { few = omega (arith, e, f); symbols = all_joined l m a.symbols b.symbols }
