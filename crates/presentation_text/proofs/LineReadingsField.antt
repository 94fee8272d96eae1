-- The primes that a field may have.
use Rattle.std.proofs.Common.{◌≡◌, ℕ, true, false, ◌==◌, sym, refl, subst, inl, inr, arith}
use Rattle.std.proofs.lemmas.Bool.Decides.{nat_tests}
use Rattle.prime_field.specs.Primes.{IsFieldPrime}
use Rattle.presentation_text.specs.LineReadings.{is_prime}

pub prime_is : (p : ℕ) → IsFieldPrime p → is_prime p ≡ true
prime_is p (inl e) = subst (λ n. is_prime n ≡ true) (sym e) refl
prime_is p (inr (inl e)) = subst (λ n. is_prime n ≡ true) (sym e) refl
prime_is p (inr (inr (inl e))) = subst (λ n. is_prime n ≡ true) (sym e) refl
prime_is p (inr (inr (inr (inl e)))) = subst (λ n. is_prime n ≡ true) (sym e) refl
prime_is p (inr (inr (inr (inr (inl e))))) = subst (λ n. is_prime n ≡ true) (sym e) refl
prime_is p (inr (inr (inr (inr (inr (inl e)))))) = subst (λ n. is_prime n ≡ true) (sym e) refl
prime_is p (inr (inr (inr (inr (inr (inr e)))))) = absurd e

apart : (p n : ℕ) → (p ≡ n → ⊥) → (p == n) ≡ false
apart p n h = grind (arith, nat_tests)

pub prime_isnt : (p : ℕ) → (IsFieldPrime p → ⊥) → is_prime p ≡ false
prime_isnt p m =
    rw (
      apart p 3 (λ e. m (inl e)),
      apart p 5 (λ e. m (inr (inl e))),
      apart p 7 (λ e. m (inr (inr (inl e)))),
      apart p 101 (λ e. m (inr (inr (inr (inl e))))),
      apart p 32003 (λ e. m (inr (inr (inr (inr (inl e)))))),
      apart p 65537 (λ e. m (inr (inr (inr (inr (inr (inl e))))))),
    )
    refl
