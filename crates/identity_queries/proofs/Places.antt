-- Places of numbers in lists.
use Rattle.std.proofs.Common.{◌≡◌, ◌≢◌, ℕ, zero, suc, ◌+◌, ◌-◌, ◌<◌, ◌≤◌, ◌⊎◌, inl, inr, List, [], ◌∷◌, ◌++◌, length, get_or, map, refl, sym, subst, ap, ◌∙◌, arith}
use native.Mathlib.Decide.{ℕ_discrete}
use Rattle.modular_sums.specs.Lists.{Mem, Rises}
use Rattle.symmetric_sums.specs.Instances.{sum_at}
use Rattle.symmetric_sums.specs.Terms.{terms_of}
use Rattle.symmetric_sums.specs.declared.term.Term.{Term}
use Rattle.identity_queries.specs.Renumbering.{AreWithin, first_or, one_further, place_in}

-- what is in the list has a place
pub place-mem : (l : List ℕ) (k : ℕ) → Mem k l → (j : ℕ) × (place_in l k ≡ suc j)
place-mem [] k h = absurd h
place-mem (x ∷ l) k h = go (ℕ_discrete x k) h (place-mem l k) where
  go : (d : Dec (x ≡ k)) → Mem k (x ∷ l) → (Mem k l → (j : ℕ) × (place_in l k ≡ suc j)) → (j : ℕ) × (first_or d (place_in l k) ≡ suc j)
  go (yes e) h more = (0, refl)
  go (no n) (inl e) more = absurd (n (sym e))
  go (no n) (inr h) more = (suc (more h).0, ap one_further (more h).1)

-- with more numbers behind it
pub place-before : (l m : List ℕ) (k : ℕ) → Mem k l → place_in (l ++ m) k ≡ place_in l k
place-before [] m k h = absurd h
place-before (x ∷ l) m k h = go (ℕ_discrete x k) h (place-before l m k) where
  go : (d : Dec (x ≡ k)) → Mem k (x ∷ l) → (Mem k l → place_in (l ++ m) k ≡ place_in l k) → first_or d (place_in (l ++ m) k) ≡ first_or d (place_in l k)
  go (yes e) h more = refl
  go (no n) (inl e) more = absurd (n (sym e))
  go (no n) (inr h) more = ap one_further (more h)

pub place-other : (l : List ℕ) (n k : ℕ) → n ≢ k → place_in (l ++ n ∷ []) k ≡ place_in l k
place-other [] n k different = go (ℕ_discrete n k) where
  go : (d : Dec (n ≡ k)) → first_or d 0 ≡ 0
  go (yes e) = absurd (different e)
  go (no _) = refl
place-other (x ∷ l) n k different = go (ℕ_discrete x k) (place-other l n k different) where
  go : (d : Dec (x ≡ k)) → place_in (l ++ n ∷ []) k ≡ place_in l k → first_or d (place_in (l ++ n ∷ []) k) ≡ first_or d (place_in l k)
  go (yes e) more = refl
  go (no _) more = ap one_further more

pub place-last : (l : List ℕ) (n : ℕ) → (Mem n l → ⊥) → place_in (l ++ n ∷ []) n ≡ suc (length l)
place-last [] n new = go (ℕ_discrete n n) where
  go : (d : Dec (n ≡ n)) → first_or d 0 ≡ 1
  go (yes e) = refl
  go (no h) = absurd (h refl)
place-last (x ∷ l) n new = go (ℕ_discrete x n) (place-last l n (λ h. new (inr h))) where
  go : (d : Dec (x ≡ n)) → place_in (l ++ n ∷ []) n ≡ suc (length l) → first_or d (place_in (l ++ n ∷ []) n) ≡ suc (suc (length l))
  go (yes e) more = absurd (new (inl (sym e)))
  go (no _) more = ap one_further more

-- the sum at a number's place
pub sum-placed : (f : ℕ → List Term) (l : List ℕ) (k : ℕ) → Mem k l → sum_at (map f l) (place_in l k) ≡ terms_of (f k)
sum-placed f [] k h = absurd h
sum-placed f (x ∷ l) k h = go (ℕ_discrete x k) h (place-mem l k) (sum-placed f l k) where
  further : (n j : ℕ) → n ≡ suc j → sum_at (f x ∷ map f l) (one_further n) ≡ sum_at (map f l) n
  further zero j e = absurd cc
  further (suc n) j e = refl

  go : (d : Dec (x ≡ k)) → Mem k (x ∷ l) → (Mem k l → (j : ℕ) × (place_in l k ≡ suc j)) → (Mem k l → sum_at (map f l) (place_in l k) ≡ terms_of (f k))
      → sum_at (f x ∷ map f l) (first_or d (place_in l k)) ≡ terms_of (f k)
  go (yes e) h there more = ap (λ n. terms_of (f n)) e
  go (no n) (inl e) there more = absurd (n (sym e))
  go (no n) (inr h) there more = further (place_in l k) (there h).0 (there h).1 ∙ more h

-- rising numbers up to n are no more than n
pub rising_few : (l : List ℕ) (low n : ℕ) → low ≤ n → Rises l → ((k : ℕ) → Mem k l → (low < k) × (k ≤ n)) → length l + low ≤ n
rising_few [] low n small r h = omega (arith, small)
rising_few (x ∷ l) low n small r h =
    let here = h x (inl refl) in
    let more = rising_few l x n here.1 r.1 (λ k m. (r.0 k m, (h k (inr m)).1)) in
    omega (arith, here, more)

-- a rising list around one of its numbers
in_middle : (front : List ℕ) (k : ℕ) (back : List ℕ) → Mem k (front ++ k ∷ back)
in_middle [] k back = inl refl
in_middle (y ∷ front) k back = inr (in_middle front k back)

pub rising_before : (front : List ℕ) (k : ℕ) (back : List ℕ) → Rises (front ++ k ∷ back) → (j : ℕ) → Mem j front → j < k
rising_before [] k back r j h = absurd h
rising_before (x ∷ front) k back r j (inl e) = subst (λ n. n < k) (sym e) (r.0 k (in_middle front k back))
rising_before (x ∷ front) k back r j (inr h) = rising_before front k back r.1 j h

-- what is smaller stands before it
pub rising_front : (front : List ℕ) (k : ℕ) (back : List ℕ) → Rises (front ++ k ∷ back) → (j : ℕ) → Mem j (front ++ k ∷ back) → j < k → Mem j front
rising_front [] k back r j (inl e) l = absurd (omega (arith, e, l))
rising_front [] k back r j (inr h) l = let m = r.0 j h in absurd (omega (arith, m, l))
rising_front (x ∷ front) k back r j (inl e) l = inl e
rising_front (x ∷ front) k back r j (inr h) l = inr (rising_front front k back r.1 j h l)
