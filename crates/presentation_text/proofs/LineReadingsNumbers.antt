-- Tests of numbers in lines.
use Rattle.std.proofs.Common.{◌≡◌, ◌<◌, ◌≤◌, ◌+◌, ℕ, zero, suc, true, false, ◌==◌, ◌&&◌, ◌||◌, Bool, not, nat_le, nat_lt, List, [], ◌∷◌, length, get_or, Option, Some, refl, ap, arith, set}
use Rattle.std.specs.Option.{is_some}
use Rattle.std.proofs.lemmas.Bool.Decides.{nat_tests}
use Rattle.presentation_text.specs.LineReadings.{is_arity, is_weighed, weighed}

pub at_most : (m n : ℕ) → m ≤ n → nat_le m n ≡ true
at_most m n l = grind (arith, nat_tests)

pub not_at_most : (m n : ℕ) → n < m → nat_le m n ≡ false
not_at_most m n l = grind (arith, nat_tests)

pub below : (m n : ℕ) → m < n → nat_lt m n ≡ true
below m n l = grind (arith, nat_tests)

pub not_below : (m n : ℕ) → n ≤ m → nat_lt m n ≡ false
not_below m n l = grind (arith, nat_tests)

pub not_equal : (m n : ℕ) → (m ≡ n → ⊥) → (m == n) ≡ false
not_equal m n h = grind (arith, nat_tests)

pub at_most_told : (m n : ℕ) → nat_le m n ≡ true → m ≤ n
at_most_told m n e = grind (arith, nat_tests)

pub not_at_most_told : (m n : ℕ) → nat_le m n ≡ false → n < m
not_at_most_told m n e = grind (arith, nat_tests)

pub not_below_told : (m n : ℕ) → nat_lt m n ≡ false → n ≤ m
not_below_told m n e = grind (arith, nat_tests)

pub not_equal_told : (m n : ℕ) → (m == n) ≡ false → m ≡ n → ⊥
not_equal_told m n e = grind (arith, nat_tests)

pub equal_told : (m n : ℕ) → (m == n) ≡ true → m ≡ n
equal_told m n e = grind (arith, nat_tests)

pub both_true : (a b : Bool) → (a && b) ≡ true → (a ≡ true) × (b ≡ true)
both_true true true e = (refl, refl)
both_true true false e = absurd cc
both_true false b e = absurd cc

pub both_false : (a b : Bool) → (a || b) ≡ false → (a ≡ false) × (b ≡ false)
both_false true b e = absurd cc
both_false false true e = absurd cc
both_false false false e = (refl, refl)

pub not_false_told : (b : Bool) → not b ≡ false → b ≡ true
not_false_told true e = refl
not_false_told false e = absurd cc

-- ---- arities

pub arity_told : (n : ℕ) → is_arity n ≡ true → (2 ≤ n) × (n ≤ 6)
arity_told n e = let both = both_true (nat_le 2 n) (nat_le n 6) e in (at_most_told 2 n both.0, at_most_told n 6 both.1)

pub arity_is : (n : ℕ) → 2 ≤ n → n ≤ 6 → is_arity n ≡ true
arity_is n low high = rw (at_most 2 n low, at_most n 6 high) refl

pub arity_below : (n : ℕ) → n < 2 → is_arity n ≡ false
arity_below n l = rw (not_at_most 2 n l) refl

pub arity_above : (n : ℕ) → 6 < n → is_arity n ≡ false
arity_above n l = let low : 2 ≤ n = omega arith in rw (at_most 2 n low, not_at_most n 6 l) refl

-- ---- sizes of parts

pub size_zero : (arity sum n : ℕ) → n ≡ 0 → (n == 0 || nat_lt arity (sum + n)) ≡ true
size_zero arity sum n e = rw e refl

pub size_above : (arity sum n : ℕ) → arity < sum + n → (n == 0 || nat_lt arity (sum + n)) ≡ true
size_above arity sum zero l = refl
size_above arity sum (suc n) l = let some : suc n ≡ 0 → ⊥ = omega arith in rw (not_equal (suc n) 0 some, below arity (sum + suc n) l) refl

pub size_fits : (arity sum n : ℕ) → (n ≡ 0 → ⊥) → sum + n ≤ arity → (n == 0 || nat_lt arity (sum + n)) ≡ false
size_fits arity sum n some l = rw (not_equal n 0 some, not_below arity (sum + n) l) refl

pub size_told : (arity sum n : ℕ) → (n == 0 || nat_lt arity (sum + n)) ≡ false → (0 < n) × (sum + n ≤ arity)
size_told arity sum n e =
    let both = both_false (n == 0) (nat_lt arity (sum + n)) e in
    let some : n ≡ 0 → ⊥ = not_equal_told n 0 both.0 in
    (omega arith, not_below_told arity (sum + n) both.1)

-- ---- weights

pub weighed_is : (g : ℕ) (weights : List (Option ℕ)) (d : Option ℕ) → g < length weights → is_weighed g weights ≡ is_some (get_or weights g d)
weighed_is g [] d l = absurd (omega arith)
weighed_is zero (w ∷ ws) d l = refl
weighed_is (suc g) (w ∷ ws) d l = weighed_is g ws d (omega arith)

pub weighed_set : (g weight : ℕ) (weights : List (Option ℕ)) → weighed g weight weights ≡ set weights g (Some weight)
weighed_set g weight [] = refl
weighed_set zero weight (w ∷ ws) = refl
weighed_set (suc g) weight (w ∷ ws) = ap (λ xs. w ∷ xs) (weighed_set g weight ws)
