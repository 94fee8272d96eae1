-- The numbers from 1 to n.
use Rattle.std.proofs.Common.{◌≡◌, ℕ, zero, suc, ◌<◌, ◌≤◌, [], ◌∷◌, arith, inl, inr, ◌⊎◌}
use mathlib.Core.List.{◌++◌}
use native.Mathlib.Decide.{ℕ_discrete, dec_lt}
use Rattle.modular_sums.specs.Lists.{Mem, Rises}
use Rattle.shuffle_insertions.specs.Listing.{upto}
use Rattle.modular_sums.proofs.Lists.{mem_either, Rises-append, mem_right, mem_left}
use Rattle.shuffle_insertions.proofs.Splits.{count, rises_once}
use Rattle.shuffle_insertions.proofs.Counted.{times_mem, mem_times}

pub upto_mem : (n u : ℕ) → Mem u (upto n) → (0 < u) × (u ≤ n)
upto_mem zero u h = absurd h
upto_mem (suc n) u h = go (mem_either u (upto n) (suc n ∷ []) h) (λ m. upto_mem n u m)
  where
    go : Mem u (upto n) ⊎ Mem u (suc n ∷ []) → (Mem u (upto n) → (0 < u) × (u ≤ n)) → (0 < u) × (u ≤ suc n)
    go (inl m) f = let k = f m in (k.0, omega (arith, k.1))
    go (inr (inl e)) f = (omega arith, omega arith)
    go (inr (inr e)) f = absurd e

pub upto_rises : (n : ℕ) → Rises (upto n)
upto_rises zero = tt
upto_rises (suc n) = Rises-append (upto n) (suc n ∷ []) (upto_rises n) (λ u m. absurd m, tt) (λ u v m k. below u v (upto_mem n u m) k)
  where
    below : (u v : ℕ) → (0 < u) × (u ≤ n) → (v ≡ suc n) ⊎ ⊥ → u < v
    below u v k (inl e) = omega (arith, k.1, e)
    below u v k (inr e) = absurd e

pub in_upto : (n i : ℕ) → 0 < i → i ≤ n → Mem i (upto n)
in_upto zero i p le = absurd (omega arith)
in_upto (suc n) i p le = go (dec_lt n i) (λ k. in_upto n i p k)
  where
    go : Dec (n < i) → (i ≤ n → Mem i (upto n)) → Mem i (upto n ++ (suc n ∷ []))
    go (yes h) f = mem_right i (upto n) (suc n ∷ []) (inl (omega arith))
    go (no h) f = mem_left i (upto n) (suc n ∷ []) (f (omega (arith, h)))

pub upto_count : (n i : ℕ) → (0 < i → i ≤ n → count i (upto n) ≡ 1) × (0 < count i (upto n) → (0 < i) × (i ≤ n))
upto_count n i = (λ p le. one (mem_times ℕ_discrete i (upto n) (in_upto n i p le)), λ p. upto_mem n i (times_mem ℕ_discrete i (upto n) p))
  where
    one : 0 < count i (upto n) → count i (upto n) ≡ 1
    one p = let k = rises_once (upto n) (upto_rises n) i in omega (arith, k, p)
