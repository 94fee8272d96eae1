-- Sums of instances, and monomials that differ by one up to a factor.
use Rattle.std.proofs.Common.{◌≡◌, ℕ, ◌+◌, ◌*◌, List, [], ◌∷◌, refl, sym, subst, arith}
use mathlib.Core.List.{◌++◌}
use Rattle.modular_sums.specs.Residues.{IsCongruent}
use Rattle.modular_sums.specs.Sums.{coef, scale, Same, expand, IsLinearCombination}
use Rattle.modular_sums.proofs.Residues.{congruent_add, congruent_mul, congruent_drop}
use Rattle.modular_sums.proofs.Sums.{choose-mul, combination-append, combination-scale, combination-same}
use Rattle.modular_sums.proofs.Laws.{span_law}
use Rattle.modular_sums.specs.Lists.{choose}

pub member_zero : {M I : Type 0} (dec : Discrete M) (value : I → List (ℕ × M)) (q : ℕ) → IsLinearCombination dec value q []
member_zero {M} {I} dec value q = (span_law M I dec value q).none

pub member_one : {M I : Type 0} (dec : Discrete M) (value : I → List (ℕ × M)) (q : ℕ) (i : I) → IsLinearCombination dec value q (value i)
member_one {M} {I} dec value q = (span_law M I dec value q).instances

-- a sum of things of which each is a sum of instances
pub member_expand : {M I J : Type 0} (dec : Discrete M) (q : ℕ) (value : I → List (ℕ × M)) (other : J → List (ℕ × M)) → ((i : I) → IsLinearCombination dec other q (value i))
    → (l : List (ℕ × I)) → IsLinearCombination dec other q (expand value l)
unfolding expand
member_expand dec q value other h [] = member_zero dec other q
member_expand dec q value other h (x ∷ l) =
    combination-append dec other q {e = scale x.0 (value x.1)} {f = expand value l} (combination-scale dec other q x.0 {e = value x.1} (h x.1)) (member_expand dec q value other h l)

-- so where each instance is a sum of others, sums of the ones are sums of the others
pub member_through : {M I J : Type 0} (dec : Discrete M) (q : ℕ) (value : I → List (ℕ × M)) (other : J → List (ℕ × M)) → ((i : I) → IsLinearCombination dec other q (value i))
    → (e : List (ℕ × M)) → IsLinearCombination dec value q e → IsLinearCombination dec other q e
member_through dec q value other h e m = combination-same dec other q {e = e} {f = expand value m.uses} m.adds_up (member_expand dec q value other h m.uses)

module _ {M : Type 0} (dec : Discrete M) (q : ℕ) where
  -- two terms at one monomial that cancel
  pub two_gone : (a b : ℕ) (x y : M) → x ≡ y → IsCongruent q (a + b) 0 → Same dec q ((a, x) ∷ ((b, y) ∷ [])) []
  unfolding coef
  two_gone a b x y e h t = rw e (go (dec y t))
    where
      go : (d : Dec (y ≡ t)) → IsCongruent q (choose d a 0 + (choose d b 0 + 0)) 0
      go (yes _) = let z : a + (b + 0) ≡ a + b = omega arith in rw z h
      go (no _) = refl

  -- two terms with alike coefficients
  pub two_alike : (a b c d : ℕ) (x y : M) → IsCongruent q a c → IsCongruent q b d → Same dec q ((a, x) ∷ ((b, y) ∷ [])) ((c, x) ∷ ((d, y) ∷ []))
  unfolding coef
  two_alike a b c d x y h k t =
      congruent_add q (choose (dec x t) a 0) (choose (dec x t) c 0) (choose (dec y t) b 0 + 0) (choose (dec y t) d 0 + 0) (congruent_choose (dec x t) a c h)
      (congruent_add q (choose (dec y t) b 0) (choose (dec y t) d 0) 0 0 (congruent_choose (dec y t) b d k) refl)
    where
      congruent_choose : {C : Type 0} (z : Dec C) (u v : ℕ) → IsCongruent q u v → IsCongruent q (choose z u 0) (choose z v 0)
      congruent_choose (yes _) u v e = e
      congruent_choose (no _) u v e = refl

  module _ {I : Type 0} (value : I → List (ℕ × M)) where
    -- x minus c times y is a sum of instances
    abbrev pub Link : M → M → ℕ → Type 0
    Link x y c = IsLinearCombination dec value q ((1, x) ∷ ((q * c, y) ∷ []))

    pub link_refl : (x : M) → Link x x 1
    link_refl x = combination-same dec value q {e = (1, x) ∷ ((q * 1, x) ∷ [])} {f = []} (two_gone 1 (q * 1) x x refl (let z : 0 + (1 + q * 1) ≡ 1 + q * 1 = omega arith in rw z at (congruent_drop q 0 1))) (member_zero dec value q)

    pub link_move : (x y u v : M) (c : ℕ) → x ≡ u → y ≡ v → Link x y c → Link u v c
    link_move x y u v c e f h = subst (λ z. Link u z c) f (subst (λ z. Link z y c) e h)

    pub link_alike : (x y : M) (c d : ℕ) → IsCongruent q c d → Link x y c → Link x y d
    link_alike x y c d h k = combination-same dec value q {e = (1, x) ∷ ((q * d, y) ∷ [])} {f = (1, x) ∷ ((q * c, y) ∷ [])}
        (two_alike 1 (q * d) 1 (q * c) x y refl (congruent_mul q q q d c refl (sym h))) k

    pub link_trans : (x y z : M) (c d : ℕ) → Link x y c → Link y z d → Link x z (c * d)
    unfolding coef scale
    link_trans x y z c d h k = combination-same dec value q {e = (1, x) ∷ ((q * (c * d), z) ∷ [])} {f = ((1, x) ∷ ((q * c, y) ∷ [])) ++ scale c ((1, y) ∷ ((q * d, z) ∷ []))}
        (λ t. adds (x ≡ t) (y ≡ t) (z ≡ t) (dec x t) (dec y t) (dec z t))
        (combination-append dec value q {e = (1, x) ∷ ((q * c, y) ∷ [])} {f = scale c ((1, y) ∷ ((q * d, z) ∷ []))} h (combination-scale dec value q c {e = (1, y) ∷ ((q * d, z) ∷ [])} k))
      where
        adds : (A B C : Type 0) (u : Dec A) (v : Dec B) (w : Dec C)
            → IsCongruent q (choose {B = ℕ} u 1 0 + (choose w (q * (c * d)) 0 + 0)) (choose {B = ℕ} u 1 0 + (choose v (q * c) 0 + (choose v (c * 1) 0 + (choose w (c * (q * d)) 0 + 0))))
        adds A B C u v w =
            let one : c * 1 ≡ c = omega arith in
            let turn : c * (q * d) ≡ q * (c * d) = omega arith in
            let s : choose {B = ℕ} u 1 0 + (choose v (q * c) 0 + (choose v c 0 + (choose w (q * (c * d)) 0 + 0))) ≡ choose {B = ℕ} u 1 0 + (choose w (q * (c * d)) 0 + 0) + (choose v c 0 + q * choose v c 0) = rw (choose-mul v q c) (omega arith) in
            rw (one, turn, s) (sym (congruent_drop q (choose {B = ℕ} u 1 0 + (choose w (q * (c * d)) 0 + 0)) (choose v c 0)))
