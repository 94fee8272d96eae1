-- A rank for a strict order on the things of a list: how many of them are less.
use Rattle.std.proofs.Common.{◌≡◌, ◌<◌, ◌≤◌, List, [], ◌∷◌, Bool, true, false, refl, ap, arith, subst, inl, inr, ◌⊎◌}
use Rattle.modular_sums.specs.Lists.{Mem}
use Rattle.modular_sums.specs.Ranks.{bit, count_less}

bit_le : (b c : Bool) → (b ≡ true → c ≡ true) → bit b ≤ bit c
bit_le true true h = omega arith
bit_le true false h = absurd (cc (h refl))
bit_le false c h = omega arith

bit_true : (b : Bool) → b ≡ true → bit b ≡ 1
bit_true b e = ap bit e

bit_false : (b : Bool) → (b ≡ true → ⊥) → bit b ≡ 0
bit_false true f = absurd (f refl)
bit_false false f = refl

module _ (X : Type 0) (less : X → X → Bool) (trans : (x y z : X) → less x y ≡ true → less y z ≡ true → less x z ≡ true) (irrefl : (x : X) → less x x ≡ true → ⊥) where
  rank_le : (l : List X) (x y : X) → less x y ≡ true → count_less less l x ≤ count_less less l y
  rank_le [] x y h = omega arith
  rank_le (z ∷ l) x y h = omega (arith, bit_le (less z x) (less z y) (λ e. trans z x y e h), rank_le l x y h)

  pub rank_lt : (l : List X) (x y : X) → Mem x l → less x y ≡ true → count_less less l x < count_less less l y
  rank_lt [] x y m h = absurd m
  rank_lt (z ∷ l) x y (inl e) h =
      let a : bit (less z x) ≡ 0 = bit_false (less z x) (subst (λ w. less w x ≡ true → ⊥) e (irrefl x)) in
      let b : bit (less z y) ≡ 1 = bit_true (less z y) (subst (λ w. less w y ≡ true) e h) in
      omega (arith, a, b, rank_le l x y h)
  rank_lt (z ∷ l) x y (inr m) h = omega (arith, bit_le (less z x) (less z y) (λ e. trans z x y e h), rank_lt l x y m h)

  -- one rank, one thing, where any two things of the list compare
  pub rank_one : (l : List X) (x y : X) → Mem x l → Mem y l → (less x y ≡ true) ⊎ ((less y x ≡ true) ⊎ (x ≡ y)) → count_less less l x ≡ count_less less l y → x ≡ y
  rank_one l x y mx my (inl h) e = absurd (omega (arith, rank_lt l x y mx h, e))
  rank_one l x y mx my (inr (inl h)) e = absurd (omega (arith, rank_lt l y x my h, e))
  rank_one l x y mx my (inr (inr h)) e = h
