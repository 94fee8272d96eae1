-- How many places of a number are empty: five zeros each at the number's end.
use Rattle.std.proofs.Common.{◌≡◌, ℕ, zero, suc, ◌+◌, ◌-◌, ◌*◌, ◌/◌, ◌%◌, ◌^◌, ◌<◌, ◌≤◌, List, [], ◌∷◌, length, refl, ap, ap₂, sym, ◌∙◌, subst, arith}
use Rattle.std.specs.List.{AllByRecursion}
use Rattle.std.specs.Int.Count.{count_trailing_zeros, trailing_of_zero, under}
use Rattle.std.proofs.Math.Nat.{pow-succ', pow-zero}
use Rattle.std.proofs.lemmas.Nat.{mod-pow-add}
use Rattle.normal_listing.specs.Places.{IsSymbol, at_places, IsShortWord, number_of}
use Rattle.normal_listing.proofs.Places.{at_none, more_places}

-- a zero below the others is one more
even_step : (k n : ℕ) → count_trailing_zeros (suc k) (2 * n) ≡ suc (count_trailing_zeros k n)
unfolding count_trailing_zeros
even_step k n =
    let low : 2 * n % 2 ≡ 0 = omega arith in
    let high : 2 * n / 2 ≡ n = omega arith in
    ap₂ (λ d m. under d (count_trailing_zeros k m)) low high

five_steps : (k n : ℕ) → count_trailing_zeros (suc (suc (suc (suc (suc k))))) (32 * n) ≡ 5 + count_trailing_zeros k n
five_steps k n =
    let twice : 32 * n ≡ 2 * (2 * (2 * (2 * (2 * n)))) = omega arith in
    let a = even_step k n in
    let b = even_step (suc k) (2 * n) in
    let c = even_step (suc (suc k)) (2 * (2 * n)) in
    let d = even_step (suc (suc (suc k))) (2 * (2 * (2 * n))) in
    let e = even_step (suc (suc (suc (suc k)))) (2 * (2 * (2 * (2 * n)))) in
    let f = ap (count_trailing_zeros (suc (suc (suc (suc (suc k)))))) twice in
    omega (arith, a, b, c, d, e, f)

under_low : (d t j : ℕ) → (d ≡ 0 → t < j) → under d t < suc j
under_low zero t j h = let k = h refl in omega (arith, k)
under_low (suc d) t j h = omega arith

-- where one of the j lowest digits is set, fewer than j zeros stand below
low_set : (j m n : ℕ) → j ≤ m → 0 < n % 2 ^ j → count_trailing_zeros m n < j
unfolding count_trailing_zeros
low_set zero m n f h = let e = ap (λ p. n % p) (pow-zero 2) in absurd (omega (arith, e, h))
low_set (suc j) zero n f h = absurd (omega (arith, f))
low_set (suc j) (suc m) n f h =
    let digits : n % 2 ^ (j + 1) ≡ (n / 2 ^ 1 % 2 ^ j) * 2 ^ 1 + n % 2 ^ 1 = mod-pow-add n j 1 in
    let same : j + 1 ≡ suc j = omega arith in
    let power = ap (λ i. n % 2 ^ i) same in
    under_low (n % 2) (count_trailing_zeros m (n / 2)) j (λ z. low_set j m (n / 2) (omega (arith, f)) (omega (arith, digits, power, h, z)))

-- the last symbol stands in the last place
low_digit : (s : ℕ) (l : List ℕ) → AllByRecursion IsSymbol (s ∷ l) → 0 < at_places (length (s ∷ l)) (s ∷ l) % 32
low_digit s [] h = let some = h.0.some in let small = h.0.small in let e : s * 32 ^ 0 + 0 ≡ s = ap (λ p. s * p + 0) (pow-zero 32) ∙ (omega arith) in subst (λ n. 0 < n % 32) (sym e) (omega (arith, some, small))
low_digit s (t ∷ l) h =
    let e = pow-succ' 32 (length l) in
    let rest = low_digit t l h.1 in
    let same : s * 32 ^ suc (length l) ≡ 32 * (s * 32 ^ length l) = ap (λ p. s * p) e ∙ turned s (32 ^ length l) in
    subst (λ n. 0 < (n + at_places (suc (length l)) (t ∷ l)) % 32) (sym same) (omega (arith, rest))
  where
    turned : (s p : ℕ) → s * (32 * p) ≡ 32 * (s * p)
    turned s p = omega arith

more_digits : (k : ℕ) → 3 + 5 * suc k ≡ suc (suc (suc (suc (suc (3 + 5 * k)))))
more_digits k = omega arith

-- j places are empty
empty_places : (j k : ℕ) (l : List ℕ) → length l + j ≡ k → AllByRecursion IsSymbol l → count_trailing_zeros (3 + 5 * k) (at_places k l) / 5 ≡ j
empty_places zero zero [] e h = ap (λ n. n / 5) (trailing_of_zero 3)
empty_places zero (suc k) [] e h = absurd (omega (arith, e))
empty_places zero zero (s ∷ l) e h = absurd (omega (arith, e))
empty_places zero (suc k) (s ∷ l) e h =
    let same : length (s ∷ l) ≡ suc k = omega (arith, e) in
    let low = subst (λ n. 0 < at_places n (s ∷ l) % 32) same (low_digit s l h) in
    let few = low_set 5 (3 + 5 * suc k) (at_places (suc k) (s ∷ l)) (omega arith) low in
    omega (arith, few)
empty_places (suc j) zero l e h = absurd (omega (arith, e))
empty_places (suc j) (suc k) l e h =
    let whole : at_places (suc k) l ≡ at_places k l * 32 ^ 1 = more_places k 1 (suc k) l (omega arith) (omega (arith, e)) in
    let rest = empty_places j k l (omega (arith, e)) h in
    let turned : at_places (suc k) l ≡ 32 * at_places k l = omega (arith, whole) in
    let count = ap₂ count_trailing_zeros (more_digits k) turned ∙ five_steps (3 + 5 * k) (at_places k l) in
    omega (arith, count, rest)

-- the number of symbols of a word
pub symbols_counted : (l : List ℕ) → IsShortWord l → 25 - count_trailing_zeros 128 (number_of l) / 5 ≡ length l
unfolding number_of
symbols_counted l h =
    let few = h.few in
    let sum : length l + (25 - length l) ≡ 25 = omega (arith, few) in
    let empty = empty_places (25 - length l) 25 l sum h.symbols in omega (arith, few, empty)
