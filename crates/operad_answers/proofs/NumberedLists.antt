-- Numbered lists: what a function gives for each thing with its number.
use Rattle.std.proofs.Common.{◌≡◌, ℕ, zero, suc, ◌+◌, ◌≤◌, List, [], ◌∷◌, refl, arith, subst, inl, inr, ◌⊎◌}
use Rattle.std.specs.Prelude.{◌++◌}
use native.Mathlib.Decide.{ℕ_discrete}
use Rattle.modular_sums.specs.Lists.{Mem, Nth}
use Rattle.modular_sums.proofs.Lists.{mem_left, mem_right, mem_either}

-- what f gives for each thing with its number, from k on
pub over : {X Y : Type 0} → (ℕ → X → List Y) → ℕ → List X → List Y
over f k [] = []
over f k (x ∷ l) = f k x ++ over f (suc k) l

pub record Source {X Y : Type 0} (f : ℕ → X → List Y) (k : ℕ) (l : List X) (y : Y) : Type 0 where
  pub place : ℕ
  pub thing : X
  pub there : Nth (suc place) l thing
  pub member : Mem y (f (k + place) thing)

nth_later : {X : Type 0} (i : ℕ) (x : X) (l : List X) (y : X) → Nth (suc i) l y → Nth (suc (suc i)) (x ∷ l) y
nth_later i x l y h = h

pub source : {X Y : Type 0} (f : ℕ → X → List Y) (k : ℕ) (l : List X) (y : Y) → Mem y (over f k l) → Source f k l y
unfolding over
source f k [] y m = absurd m
source {X} {Y} f k (x ∷ l) y m = go (mem_either y (f k x) (over f (suc k) l) m) (source f (suc k) l y)
  where
    go : Mem y (f k x) ⊎ Mem y (over f (suc k) l) → (Mem y (over f (suc k) l) → Source f (suc k) l y) → Source f k (x ∷ l) y
    go (inl h) r = let e : k ≡ k + 0 = omega arith in record { place = 0; thing = x; there = refl; member = subst (λ j. Mem y (f j x)) e h }
    go (inr h) r =
        let s = r h in
        let e : suc k + s.place ≡ k + suc s.place = omega arith in
        record { place = suc s.place; thing = s.thing; there = nth_later s.place x l s.thing s.there; member = subst (λ j. Mem y (f j s.thing)) e s.member }

pub found : {X Y : Type 0} (f : ℕ → X → List Y) (k i : ℕ) (l : List X) (x : X) (y : Y) → Nth (suc i) l x → Mem y (f (k + i) x) → Mem y (over f k l)
unfolding over
found f k i [] x y h m = absurd h
found f k zero (z ∷ l) x y h m =
    let e : k + 0 ≡ k = omega arith in
    mem_left y (f k z) (over f (suc k) l) (subst (λ j. Mem y (f j z)) e (subst (λ w. Mem y (f (k + 0) w)) h m))
found f k (suc i) (z ∷ l) x y h m =
    let e : k + suc i ≡ suc k + i = omega arith in
    mem_right y (f k z) (over f (suc k) l) (found f (suc k) i l x y h (subst (λ j. Mem y (f j x)) e m))

pub nth_is_member : {X : Type 0} (i : ℕ) (l : List X) (x : X) → Nth i l x → Mem x l
nth_is_member i [] x h = absurd h
nth_is_member zero (y ∷ l) x h = absurd h
nth_is_member (suc zero) (y ∷ l) x h = inl h
nth_is_member (suc (suc i)) (y ∷ l) x h = inr (nth_is_member (suc i) l x h)

-- n, n - 1 and so on down to 1
pub down_from : ℕ → List ℕ
down_from zero = []
down_from (suc n) = suc n ∷ down_from n

pub in_down : (n m : ℕ) → 1 ≤ m → m ≤ n → Mem m (down_from n)
unfolding down_from
in_down zero m one le = absurd (omega (arith, one, le))
in_down (suc n) m one le = go (ℕ_discrete m (suc n)) (in_down n m one)
  where
    go : Dec (m ≡ suc n) → (m ≤ n → Mem m (down_from n)) → Mem m (suc n ∷ down_from n)
    go (yes e) r = inl e
    go (no f) r = inr (r (omega (arith, f, le)))

pub down_small : (n m : ℕ) → Mem m (down_from n) → (1 ≤ m) × (m ≤ n)
unfolding down_from
down_small zero m h = absurd h
down_small (suc n) m (inl e) = (omega (arith, e), omega (arith, e))
down_small (suc n) m (inr h) = let r = down_small n m h in (r.0, omega (arith, r.1))
