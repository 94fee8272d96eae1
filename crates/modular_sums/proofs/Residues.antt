-- Numbers that are alike modulo suc q.
use Rattle.std.proofs.Common.{◌≡◌, ℕ, suc, ◌+◌, ◌*◌, ◌%◌, arith, refl, sym, ap, ◌∙◌}
use Rattle.std.proofs.Math.Nat.{add-mod, add-mul-mod_self_left}
use Rattle.std.proofs.lemmas.Nat.{mul-mod}
use Rattle.modular_sums.specs.Residues.{IsCongruent}

module _ (q : ℕ) where
  pub congruent_add : (a b c d : ℕ) → IsCongruent q a b → IsCongruent q c d → IsCongruent q (a + c) (b + d)
  congruent_add a b c d h k = rw (add-mod a c, h, k, ← add-mod b d)

  pub congruent_mul : (a b c d : ℕ) → IsCongruent q a b → IsCongruent q c d → IsCongruent q (a * c) (b * d)
  congruent_mul a b c d h k = rw (mul-mod a c, h, k, ← mul-mod b d)

  -- n and its negative, q times n, add up to a multiple of suc q
  pub congruent_drop : (a c : ℕ) → IsCongruent q (a + (c + q * c)) a
  congruent_drop a c = let e : a + (c + q * c) ≡ a + suc q * c = omega arith in rw (e, add-mul-mod_self_left)

  pub congruent_cancel : (a b c : ℕ) → IsCongruent q (a + c) (b + c) → IsCongruent q a b
  congruent_cancel a b c h =
      let k : IsCongruent q (a + c + q * c) (b + c + q * c) = congruent_add (a + c) (b + c) (q * c) (q * c) h refl in
      let ea : a + c + q * c ≡ a + (c + q * c) = omega arith in
      let eb : b + c + q * c ≡ b + (c + q * c) = omega arith in
      sym (congruent_drop a c) ∙ (rw (ea, eb) at k) ∙ congruent_drop b c

  -- a number less itself is 0
  pub congruent_gone : (e : ℕ) → IsCongruent q (e + q * e) 0
  congruent_gone e = let k : 0 + (e + q * e) ≡ e + q * e = omega arith in rw k at (congruent_drop 0 e)

  -- where a less b is 0, they are alike
  pub congruent_of_gone : (a b : ℕ) → IsCongruent q (a + q * b) 0 → IsCongruent q a b
  congruent_of_gone a b h =
      let k : IsCongruent q (a + q * b + b) (0 + b) = congruent_add (a + q * b) 0 b b h refl in
      let ea : a + q * b + b ≡ a + (b + q * b) = omega arith in
      let eb : 0 + b ≡ b = omega arith in
      sym (congruent_drop a b) ∙ (rw (ea, eb) at k)

  -- d less e, where f and g are alike, is d less f, less e less g
  pub less_alike : (d e f g : ℕ) → IsCongruent q f g → IsCongruent q (d + q * e) (d + q * f + q * (e + q * g))
  less_alike d e f g h =
      let a : d + q * f + q * (e + q * g) ≡ d + q * e + q * (q * g) + q * f = omega arith in
      let b : d + q * e + q * (q * g) + q * g ≡ d + q * e + (q * g + q * (q * g)) = omega arith in
      let c : IsCongruent q (d + q * e + q * (q * g) + q * f) (d + q * e + q * (q * g) + q * g) = congruent_add _ _ (q * f) (q * g) refl (congruent_mul q q f g refl h) in
      rw a (sym (c ∙ ap (λ n. n % suc q) b ∙ congruent_drop (d + q * e) (q * g)))
