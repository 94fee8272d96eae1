-- The primes that a field may have are prime, by trial division.
use Rattle.std.proofs.Common.{◌≡◌, ℕ, zero, suc, ◌+◌, ◌*◌, ◌/◌, ◌%◌, ◌<◌, ◌≤◌, ◌⊎◌, inl, inr, Bool, true, not, ◌&&◌, eqb, T, arith, sym, subst, ◌∙◌, refl, ap}
use Rattle.std.proofs.lemmas.Nat.Gcd.{le_of_dvd, mod-eq-zero_of_dvd}
use Rattle.std.proofs.Math.Facts.{and_yes, eqb_no}
use Rattle.std.proofs.Math.Nat.{eq-or-lt_of_le, mod-zero, mul-mod_left, mul-mod_right, mul-le-mul, mul-le-mul_right}
use Rattle.std.proofs.lemmas.Bool.{cases_lt}
use Rattle.std.proofs.lemmas.Nat.{div-add-mod'}
use Rattle.prime_field.specs.Primes.{IsPrime, IsFieldPrime}

-- whether none of the numbers from 2 to k + 1 divides p
abbrev none_divides : ℕ → ℕ → Bool
none_divides p zero = true
none_divides p (suc k) = not (eqb (p % suc (suc k)) 0) && none_divides p k

-- a number from 2 to k + 1 doesn't divide p
tested : (p k : ℕ) → T (none_divides p k) → (d : ℕ) → 1 < d → d ≤ suc k → p % d ≡ 0 → ⊥
tested p zero h d above within e = omega arith
tested p (suc k) h d above within e =
    let both = and_yes (not (eqb (p % suc (suc k)) 0)) (none_divides p k) h in
    elim (eq-or-lt_of_le within) [
      | inl last ↦ eqb_no both.0 (ap (λ n. p % n) (sym last) ∙ e)
      | inr lower ↦ tested p k both.1 d above (omega arith) e
    ]

-- If no number up to the root of p divides p, it has no two factors above 1: one of them is no greater than the root.
no_factors : (p k : ℕ) → p < (k + 2) * (k + 2) → T (none_divides p k) → (c d : ℕ) → 1 < c → 1 < d → c * d ≡ p → ⊥
no_factors p k root h c d above_c above_d product =
    let large_c : c ≤ suc k → ⊥ = λ low. tested p k h c above_c low (rw (← product) (mul-mod_right c d)) in
    let large_d : d ≤ suc k → ⊥ = λ low. tested p k h d above_d low (rw (← product) (mul-mod_left c d)) in
    let large : (k + 2) * (k + 2) ≤ c * d = mul-le-mul (omega arith) (omega arith) in
    omega arith

no_divisor : (p k : ℕ) → p < (k + 2) * (k + 2) → T (none_divides p k) → (d : ℕ) → 1 < d → d < p → p % d ≡ 0 → ⊥
no_divisor p k root h d above below e =
    let product : p / d * d ≡ p = omega (arith, div-add-mod' p d) in
    elim (cases_lt 1 (p / d)) [
      | inl more ↦ no_factors p k root h (p / d) d more above product
      | inr one ↦ omega (arith, mul-le-mul_right d one)
    ]

-- a divisor of p that is none between 1 and p
divisor : (p d : ℕ) → 1 < p → (1 < d → d < p → p % d ≡ 0 → ⊥) → p % d ≡ 0 → d ≤ p → (d ≡ 1) ⊎ (d ≡ p)
divisor p zero above none e within = absurd (omega (arith, mod-zero p))
divisor p (suc zero) above none e within = inl refl
divisor p (suc (suc d)) above none e within = elim (eq-or-lt_of_le within) [
  | inl same ↦ inr same
  | inr below ↦ absurd (none (omega arith) below e)
]

is_prime : (p k : ℕ) → 1 < p → p < (k + 2) * (k + 2) → T (none_divides p k) → IsPrime p
is_prime p k above root h = record {
  above_one = above;
  divisors = λ d divides.
      divisor p d above (no_divisor p k root h d) (mod-eq-zero_of_dvd d divides) (le_of_dvd (omega arith) divides);
}

pub field_prime : (p : ℕ) → IsFieldPrime p → IsPrime p
field_prime p (inl e) = subst IsPrime (sym e) (is_prime 3 0 (omega arith) (omega arith) tt)
field_prime p (inr (inl e)) = subst IsPrime (sym e) (is_prime 5 1 (omega arith) (omega arith) tt)
field_prime p (inr (inr (inl e))) = subst IsPrime (sym e) (is_prime 7 1 (omega arith) (omega arith) tt)
field_prime p (inr (inr (inr (inl e)))) = subst IsPrime (sym e) (is_prime 101 9 (omega arith) (omega arith) tt)
field_prime p (inr (inr (inr (inr (inl e))))) = subst IsPrime (sym e) (is_prime 32003 177 (omega arith) (omega arith) tt)
field_prime p (inr (inr (inr (inr (inr (inl e)))))) = subst IsPrime (sym e) (is_prime 65537 255 (omega arith) (omega arith) tt)
field_prime p (inr (inr (inr (inr (inr (inr none)))))) = absurd none
