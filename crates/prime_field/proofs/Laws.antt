-- The laws of a field of residues, proved.
use Rattle.std.proofs.Common.{◌≡◌, ℕ, suc, ◌+◌, ◌-◌, ◌*◌, ◌%◌, ◌<◌, ◌⊎◌, inl, inr, arith, sym, ◌∙◌, refl, ap}
use Rattle.std.specs.Prelude.{ℤ, pos, negsuc}
use Rattle.std.proofs.Math.Nat.{eq-zero-or-pos, mod-eq_of_lt, mod-mod}
use Rattle.std.proofs.lemmas.Nat.{mod_below}
use Rattle.modular_sums.proofs.Laws.{residue_law}
use Rattle.prime_field.specs.Laws.{FieldLaw, Fields}
use Rattle.prime_field.specs.Primes.{IsPrime}
use Rattle.prime_field.specs.Residues.{Congruent, CongruentSigned}
use Rattle.prime_field.proofs.Inverses.{has_inverse}
use Rattle.prime_field.proofs.Primes.{field_prime}

-- n modulo p is a residue that is alike n
residue_of : (p n : ℕ) → 0 < p → (n % p < p) × Congruent p (n % p) n
residue_of p n positive =
    let whole : suc (p - 1) ≡ p = omega arith in
    (mod_below n p positive, rw whole (mod-mod n p))

one_residue : (p a b : ℕ) → a < p → b < p → Congruent p a b → a ≡ b
one_residue p a b below_a below_b h =
    let whole : suc (p - 1) ≡ p = omega arith in
    sym (mod-eq_of_lt below_a) ∙ (rw whole at h) ∙ mod-eq_of_lt below_b

one_integer : (p : ℕ) (z : ℤ) (a b : ℕ) → CongruentSigned p z a → CongruentSigned p z b → Congruent p a b
one_integer p (pos n) a b h k = sym h ∙ k
one_integer p (negsuc n) a b h k = (residue_law (p - 1)).cancelled a b (suc n) (h ∙ sym k)

-- what is alike 1 is not alike 0
one_is_not_zero : (p : ℕ) → 1 < p → Congruent p 0 1 → ⊥
one_is_not_zero p above h = omega (arith, one_residue p 0 1 (omega arith) above h)

one_inverse : (p a b c : ℕ) → Congruent p (a * b) 1 → Congruent p (a * c) 1 → Congruent p b c
one_inverse p a b c h k =
    let law = residue_law (p - 1) in
    let left : Congruent p (b * (a * c)) (b * 1) = law.products b b (a * c) 1 refl k in
    let right : Congruent p (a * b * c) (1 * c) = law.products (a * b) 1 c c h refl in
    let e₁ : b * (a * c) ≡ a * b * c = omega arith in
    let e₂ : b * 1 ≡ b = omega arith in
    let e₃ : 1 * c ≡ c = omega arith in
    sym (rw (e₁, e₂) at left) ∙ (rw e₃ at right)

-- where the product of a and b is 0 and a has an inverse, b is 0
other_factor : (p a b c : ℕ) → Congruent p (a * b) 0 → Congruent p (a * c) 1 → Congruent p b 0
other_factor p a b c h k =
    let law = residue_law (p - 1) in
    let left : Congruent p (b * (a * c)) (b * 1) = law.products b b (a * c) 1 refl k in
    let right : Congruent p (a * b * c) (0 * c) = law.products (a * b) 0 c c h refl in
    let e₁ : b * (a * c) ≡ a * b * c = omega arith in
    let e₂ : b * 1 ≡ b = omega arith in
    let e₃ : 0 * c ≡ 0 = omega arith in
    sym (rw (e₁, e₂) at left) ∙ (rw e₃ at right)

zero_factor : (p a b : ℕ) → IsPrime p → Congruent p (a * b) 0 → Congruent p a 0 ⊎ Congruent p b 0
zero_factor p a b prime h =
    let law = residue_law (p - 1) in
    let residue = residue_of p a (omega (arith, prime.above_one)) in
    elim (eq-zero-or-pos (a % p)) [
      | inl none ↦ inl (sym residue.1 ∙ ap (λ n. n % suc (p - 1)) none)
      | inr some ↦
          let inverse = has_inverse p (a % p) prime some residue.0 in
          let same : Congruent p (a % p * b) (a * b) = law.products (a % p) a b b residue.1 refl in
          inr (other_factor p (a % p) b inverse.0 (same ∙ h) inverse.1)
    ]

-- the inverse as a residue
residue_inverse : (p a : ℕ) → IsPrime p → 0 < a → a < p → (b : ℕ) × (0 < b) × (b < p) × Congruent p (a * b) 1
residue_inverse p a prime positive below =
    let inverse = has_inverse p a prime positive below in
    let b = inverse.0 % p in
    let residue = residue_of p inverse.0 (omega (arith, prime.above_one)) in
    let product : Congruent p (a * b) 1 = (residue_law (p - 1)).products a a b inverse.0 refl residue.1 ∙ inverse.1 in
    let some : 0 < b = elim (eq-zero-or-pos b) [
      | inl none ↦
          let e : a * b ≡ 0 = rw none (omega arith) in
          absurd (one_is_not_zero p prime.above_one (rw e at product))
      | inr some ↦ some
    ] in
    (b, some, residue.0, product)

difference : (p a b c : ℕ) → Congruent p (c + b) a → Congruent p c (a + (p - 1) * b)
difference p a b c h =
    let law = residue_law (p - 1) in
    let n = (p - 1) * b in
    let cleared : Congruent p (c + (b + n)) (c + 0) = law.sums c c (b + n) 0 refl (law.negative b) in
    let moved : Congruent p (c + b + n) (a + n) = law.sums (c + b) a n n h refl in
    let e₁ : c + (b + n) ≡ c + b + n = omega arith in
    let e₂ : c + 0 ≡ c = omega arith in
    sym (rw (e₁, e₂) at cleared) ∙ moved

negative : (p a b : ℕ) → Congruent p (a + b) 0 → Congruent p b ((p - 1) * a)
negative p a b h =
    let e₁ : a + b ≡ b + a = omega arith in
    let e₂ : 0 + (p - 1) * a ≡ (p - 1) * a = omega arith in
    rw e₂ at (difference p 0 a b (rw e₁ at h))

field_law : (p : ℕ) → IsPrime p → FieldLaw p
field_law p prime = record {
  prime = prime;
  residues = one_residue p;
  integers = one_integer p;
  inverse = λ a. residue_inverse p a prime;
  one_inverse = one_inverse p;
  product = λ a b. zero_factor p a b prime;
  negative = negative p;
  difference = difference p;
}

pub fields : Fields
fields p listed = field_law p (field_prime p listed)
