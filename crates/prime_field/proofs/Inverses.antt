-- Inverses modulo a prime p, found by taking p modulo a residue: what is left is a smaller residue.
use Rattle.std.proofs.Common.{◌≡◌, ℕ, zero, suc, ◌+◌, ◌-◌, ◌*◌, ◌/◌, ◌%◌, ◌<◌, ◌≤◌, inl, inr, arith, sym, ◌∙◌, refl, ap}
use Rattle.std.proofs.Math.Nat.{add-mul-mod_self_left, eq-or-lt_of_le, eq-zero-or-pos}
use Rattle.std.proofs.lemmas.Nat.{div-add-mod', mod_below}
use Rattle.std.proofs.lemmas.Nat.Gcd.{dvd_of_mod-eq-zero}
use Rattle.modular_sums.proofs.Laws.{residue_law}
use Rattle.prime_field.specs.Primes.{IsPrime}
use Rattle.prime_field.specs.Residues.{Congruent}

-- a multiple of p may be dropped
pub without_multiple : (p n k : ℕ) → 0 < p → Congruent p (n + p * k) n
without_multiple p n k positive =
    let whole : p ≡ suc (p - 1) = omega arith in
    let e : n + p * k ≡ n + suc (p - 1) * k = ap (λ m. n + m * k) whole in
    rw e (add-mul-mod_self_left n (suc (p - 1)) k)

-- Where a times v is r, and k and n are opposite, a times v times n is what k times r leaves of p.
pub step_down : (p a v r k n s w : ℕ) → 0 < p → Congruent p (a * v) r → Congruent p (k + n) 0 → k * r + s ≡ p
    → Congruent p w (v * n) → Congruent p (a * w) s
step_down p a v r k n s w positive before opposite split product =
    let law = residue_law (p - 1) in
    let e₁ : a * (v * n) ≡ a * v * n = omega arith in
    let e₂ : (k + n) * r ≡ r * n + k * r = omega arith in
    let e₃ : 0 * r ≡ 0 = omega arith in
    let e₄ : s + k * r ≡ 0 + p * 1 = omega arith in
    let moved : Congruent p (a * w) (a * (v * n)) = law.products a a w (v * n) refl product in
    let times : Congruent p (a * v * n) (r * n) = law.products (a * v) r n n before refl in
    let cleared : Congruent p ((k + n) * r) (0 * r) = law.products (k + n) 0 r r opposite refl in
    let over : Congruent p (s + k * r) 0 = rw e₄ (without_multiple p 0 1 positive) in
    (rw e₁ at moved) ∙ times ∙ law.cancelled (r * n) s (k * r) ((rw (e₂, e₃) at cleared) ∙ sym over)

-- Where a times v is r, a times v times k + 1 is what (k + 1) times r is above p.
pub step_up : (p a v r k s w : ℕ) → 0 < p → Congruent p (a * v) r → k * r + r ≡ s + p
    → Congruent p w (v * (k + 1)) → Congruent p (a * w) s
step_up p a v r k s w positive before split product =
    let law = residue_law (p - 1) in
    let e₁ : a * (v * (k + 1)) ≡ a * v * (k + 1) = omega arith in
    let e₂ : r * (k + 1) ≡ s + p * 1 = omega arith in
    let moved : Congruent p (a * w) (a * (v * (k + 1))) = law.products a a w (v * (k + 1)) refl product in
    let times : Congruent p (a * v * (k + 1)) (r * (k + 1)) = law.products (a * v) r (k + 1) (k + 1) before refl in
    (rw e₁ at moved) ∙ times ∙ (rw e₂ (without_multiple p s 1 positive))

-- a residue above 1 doesn't divide a prime
pub leaves_some : (p r : ℕ) → IsPrime p → 1 < r → r < p → 0 < p % r
leaves_some p r prime above below = elim (eq-zero-or-pos (p % r)) [
  | inl e ↦ elim (prime.divisors r (dvd_of_mod-eq-zero r e)) [
    | inl one ↦ absurd (omega arith)
    | inr same ↦ absurd (omega arith)
  ]
  | inr some ↦ some
]

-- the inverse of a, where a times v is a residue r other than 0 that is at most n
inverse_from : (p a : ℕ) → IsPrime p → (n v r : ℕ) → r ≤ n → 0 < r → r < p → Congruent p (a * v) r → (b : ℕ) × Congruent p (a * b) 1
inverse_from p a prime zero v r within positive below h = absurd (omega arith)
inverse_from p a prime (suc n) v r within positive below h = elim (eq-or-lt_of_le positive) [
  | inl one ↦ (v, rw (sym one) at h)
  | inr above ↦
      let k = p / r in
      let s = p % r in
      let split : k * r + s ≡ p = div-add-mod' p r in
      let smaller : s < r = mod_below p r positive in
      let more : 0 < s = leaves_some p r prime above below in
      let opposite : Congruent p (k + (p - 1) * k) 0 = (residue_law (p - 1)).negative k in
      let w = v * ((p - 1) * k) in
      inverse_from p a prime n w s (omega arith) more (omega arith)
      (step_down p a v r k ((p - 1) * k) s w (omega arith) h opposite split refl)
]

pub has_inverse : (p a : ℕ) → IsPrime p → 0 < a → a < p → (b : ℕ) × Congruent p (a * b) 1
has_inverse p a prime positive below =
    let e : a * 1 ≡ a = omega arith in
    inverse_from p a prime a 1 a (omega arith) positive below (ap (λ n. n % suc (p - 1)) e)
