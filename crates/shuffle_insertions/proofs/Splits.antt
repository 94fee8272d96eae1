-- Ways to divide a list in two, and sums over them.
use Rattle.std.proofs.Common.{◌≡◌, ◌≢◌, ℕ, zero, suc, ◌+◌, ◌-◌, ◌<◌, ◌≤◌, List, [], ◌∷◌, length, refl, ◌∙◌, ap, arith, subst, inl, inr}
use mathlib.Core.Path.{ap₂}
use native.Mathlib.Decide.{ℕ_discrete, dec_lt}
use Rattle.labelled_trees.specs.Leaves.{times, one_if}
use Rattle.modular_sums.specs.Lists.{Mem, Rises}
use Rattle.shuffle_insertions.specs.Listing.{joined_below, joined_splits}
use Rattle.labelled_trees.proofs.Leaves.{one_if-yes}
use Rattle.labelled_trees.specs.RangeSums.{range_sum}
use Rattle.shuffle_insertions.proofs.Counted.{times_mem}
use Rattle.labelled_trees.proofs.Permutations.{times-append}

-- b and c divide l
pub data Split : List ℕ → List ℕ → List ℕ → Type 0 where
  done : Split [] [] []
  left : {x : ℕ} {l b c : List ℕ} → Split l b c → Split (x ∷ l) (x ∷ b) c
  right : {x : ℕ} {l b c : List ℕ} → Split l b c → Split (x ∷ l) b (x ∷ c)

abbrev pub count : ℕ → List ℕ → ℕ
count i l = times ℕ_discrete i l

pub split_count : {l b c : List ℕ} → Split l b c → (i : ℕ) → count i l ≡ count i b + count i c
split_count done i = refl
split_count (left s) i = omega (arith, split_count s i)
split_count (right s) i = omega (arith, split_count s i)

pub split_length : {l b c : List ℕ} → Split l b c → length l ≡ length b + length c
split_length done = refl
split_length (left s) = omega (arith, split_length s)
split_length (right s) = omega (arith, split_length s)

pub mem_left_split : {l b c : List ℕ} → Split l b c → (u : ℕ) → Mem u b → Mem u l
mem_left_split done u h = h
mem_left_split (left s) u (inl e) = inl e
mem_left_split (left s) u (inr h) = inr (mem_left_split s u h)
mem_left_split (right s) u h = inr (mem_left_split s u h)

pub mem_right_split : {l b c : List ℕ} → Split l b c → (u : ℕ) → Mem u c → Mem u l
mem_right_split done u h = h
mem_right_split (left s) u h = inr (mem_right_split s u h)
mem_right_split (right s) u (inl e) = inl e
mem_right_split (right s) u (inr h) = inr (mem_right_split s u h)

pub left_rises : {l b c : List ℕ} → Split l b c → Rises l → Rises b
left_rises done h = tt
left_rises (left s) h = (λ u m. h.0 u (mem_left_split s u m), left_rises s h.1)
left_rises (right s) h = left_rises s h.1

pub right_rises : {l b c : List ℕ} → Split l b c → Rises l → Rises c
right_rises done h = tt
right_rises (left s) h = right_rises s h.1
right_rises (right s) h = (λ u m. h.0 u (mem_right_split s u m), right_rises s h.1)

-- the first of a rising list doesn't stand in the rest
pub fresh : (x : ℕ) (l : List ℕ) → ((u : ℕ) → Mem u l → x < u) → count x l ≡ 0
fresh x l h = go (dec_lt 0 (count x l))
  where
    go : Dec (0 < count x l) → count x l ≡ 0
    go (yes k) = absurd (omega (arith, h x (times_mem ℕ_discrete x l k)))
    go (no z) = omega (arith, z)

pub count_head : (x i : ℕ) (l : List ℕ) → ((u : ℕ) → Mem u l → x < u) → count x (x ∷ l) ≡ 1
count_head x i l h = let e : one_if (ℕ_discrete x x) ≡ 1 = one_if-yes (ℕ_discrete x x) refl in omega (arith, e, fresh x l h)

pub rises_once : (l : List ℕ) → Rises l → (i : ℕ) → count i l ≤ 1
rises_once [] h i = omega arith
rises_once (x ∷ l) h i = go (ℕ_discrete x i) (rises_once l h.1 i)
  where
    go : (d : Dec (x ≡ i)) → count i l ≤ 1 → one_if d + count i l ≤ 1
    go (yes e) k = let z : count i l ≡ 0 = subst (λ m. count m l ≡ 0) e (fresh x l h.0) in omega (arith, z)
    go (no _) k = omega arith

-- sums over the ways to divide
abbrev pub sum_splits : List ℕ → (List ℕ → List ℕ → ℕ) → ℕ
sum_splits [] h = h [] []
sum_splits (x ∷ l) h = sum_splits l (λ b c. h (x ∷ b) c) + sum_splits l (λ b c. h b (x ∷ c))

pub times-splits : {X : Type 0} (dec : Discrete X) (x : X) (l : List ℕ) (f : List ℕ → List ℕ → List X) → times dec x (joined_splits l f) ≡ sum_splits l (λ b c. times dec x (f b c))
times-splits dec x [] f = refl
times-splits dec x (y ∷ l) f =
    times-append dec x (joined_splits l (λ b c. f (y ∷ b) c)) (joined_splits l (λ b c. f b (y ∷ c)))
    ∙ ap₂ (λ m n. m + n) (times-splits dec x l (λ b c. f (y ∷ b) c)) (times-splits dec x l (λ b c. f b (y ∷ c)))

pub times-below : {X : Type 0} (dec : Discrete X) (x : X) (b : ℕ) (f : ℕ → List X) → times dec x (joined_below b f) ≡ range_sum b (λ i. times dec x (f i))
times-below dec x zero f = refl
times-below dec x (suc b) f = times-append dec x (joined_below b f) (f b) ∙ ap (λ m. m + times dec x (f b)) (times-below dec x b f)

pub sum_splits-ext : (l : List ℕ) (f g : List ℕ → List ℕ → ℕ) → ((b c : List ℕ) → f b c ≡ g b c) → sum_splits l f ≡ sum_splits l g
sum_splits-ext [] f g h = h [] []
sum_splits-ext (x ∷ l) f g h = ap₂ (λ m n. m + n) (sum_splits-ext l (λ b c. f (x ∷ b) c) (λ b c. g (x ∷ b) c) (λ b c. h (x ∷ b) c)) (sum_splits-ext l (λ b c. f b (x ∷ c)) (λ b c. g b (x ∷ c)) (λ b c. h b (x ∷ c)))

pub sum_zero : (l : List ℕ) (f : List ℕ → List ℕ → ℕ) → ((b c : List ℕ) → Split l b c → f b c ≡ 0) → sum_splits l f ≡ 0
sum_zero [] f h = h [] [] done
sum_zero (x ∷ l) f h = omega (arith, sum_zero l (λ b c. f (x ∷ b) c) (λ b c s. h (x ∷ b) c (left s)), sum_zero l (λ b c. f b (x ∷ c)) (λ b c s. h b (x ∷ c) (right s)))

pub record Some (l : List ℕ) (f : List ℕ → List ℕ → ℕ) : Type 0 where
  pub first : List ℕ
  pub second : List ℕ
  pub split : Split l first second
  pub some : 0 < f first second

either_sum : (x : ℕ) (l : List ℕ) (f : List ℕ → List ℕ → ℕ) → Dec (0 < sum_splits l (λ b c. f (x ∷ b) c)) → (0 < sum_splits l (λ b c. f (x ∷ b) c) → Some l (λ b c. f (x ∷ b) c))
    → (0 < sum_splits l (λ b c. f b (x ∷ c)) → Some l (λ b c. f b (x ∷ c))) → 0 < sum_splits (x ∷ l) f → Some (x ∷ l) f
either_sum x l f (yes h) p q k = let s = p h in record { first = x ∷ s.first; second = s.second; split = left s.split; some = s.some }
either_sum x l f (no h) p q k = let s = q (omega (arith, h)) in record { first = s.first; second = x ∷ s.second; split = right s.split; some = s.some }

pub sum_some : (l : List ℕ) (f : List ℕ → List ℕ → ℕ) → 0 < sum_splits l f → Some l f
sum_some [] f h = record { first = []; second = []; split = done; some = h }
sum_some (x ∷ l) f h = either_sum x l f (dec_lt 0 (sum_splits l (λ b c. f (x ∷ b) c))) (λ k. sum_some l (λ b c. f (x ∷ b) c) k) (λ k. sum_some l (λ b c. f b (x ∷ c)) k) h

-- what is left for one part, where the other has q and x is taken out
rest_is : (x : ℕ) (l : List ℕ) (p q : ℕ → ℕ) → ((u : ℕ) → Mem u l → x < u) → ((i : ℕ) → p i + q i ≡ count i (x ∷ l)) → q x ≡ 0
    → (i : ℕ) → (one_if (ℕ_discrete x i) + (count i l - q i) ≡ p i) × (count i l - q i + q i ≡ count i l)
rest_is x l p q h e z i = go (ℕ_discrete x i) (e i)
  where
    go : (d : Dec (x ≡ i)) → p i + q i ≡ one_if d + count i l → (one_if d + (count i l - q i) ≡ p i) × (count i l - q i + q i ≡ count i l)
    go (yes k) m =
        let a : q i ≡ 0 = subst (λ j. q j ≡ 0) k z in
        let b : count i l ≡ 0 = subst (λ j. count j l ≡ 0) k (fresh x l h) in
        (omega (arith, a, b, m), omega (arith, a, b))
    go (no _) m = (omega (arith, m), omega (arith, m))

swapped : (p q : ℕ → ℕ) (f : ℕ → ℕ) → ((i : ℕ) → p i + q i ≡ f i) → (i : ℕ) → q i + p i ≡ f i
swapped p q f h i = omega (arith, h i)

sum_step : (x : ℕ) (l : List ℕ) (p q : ℕ → ℕ) (f : List ℕ → List ℕ → ℕ) → ((u : ℕ) → Mem u l → x < u) → ((i : ℕ) → p i + q i ≡ count i (x ∷ l))
    → ((b c : List ℕ) → Split (x ∷ l) b c → ((i : ℕ) → count i b ≡ p i) → ((i : ℕ) → count i c ≡ q i) → f b c ≡ 1)
    → ((b c : List ℕ) → Split (x ∷ l) b c → (i : ℕ) → count i b ≢ p i → f b c ≡ 0)
    → ((p' q' : ℕ → ℕ) (g : List ℕ → List ℕ → ℕ) → ((i : ℕ) → p' i + q' i ≡ count i l)
    → ((b c : List ℕ) → Split l b c → ((i : ℕ) → count i b ≡ p' i) → ((i : ℕ) → count i c ≡ q' i) → g b c ≡ 1)
    → ((b c : List ℕ) → Split l b c → (i : ℕ) → count i b ≢ p' i → g b c ≡ 0) → sum_splits l g ≡ 1)
    → Dec (0 < p x) → sum_splits (x ∷ l) f ≡ 1
sum_step x l p q f h e one zero' ih (yes k) =
    let t = count_head x x l h in
    let qx : q x ≡ 0 = omega (arith, e x, t) in
    let r = rest_is x l p q h e qx in
    let a : sum_splits l (λ b c. f (x ∷ b) c) ≡ 1 = ih (λ i. count i l - q i) q (λ b c. f (x ∷ b) c) (λ i. (r i).1)
    (λ b c s m n. one (x ∷ b) c (left s) (λ i. omega (arith, m i, (r i).0)) n)
    (λ b c s i ne. zero' (x ∷ b) c (left s) i (λ m. ne (omega (arith, m, (r i).0)))) in
    let z : sum_splits l (λ b c. f b (x ∷ c)) ≡ 0 = sum_zero l (λ b c. f b (x ∷ c))
    (λ b c s. zero' b (x ∷ c) (right s) x (λ m. absurd (omega (arith, m, k, split_count s x, fresh x l h)))) in
    omega (arith, a, z)
sum_step x l p q f h e one zero' ih (no k) =
    let t = count_head x x l h in
    let px : p x ≡ 0 = omega (arith, k) in
    let r = rest_is x l q p h (swapped p q (λ i. count i (x ∷ l)) e) px in
    let a : sum_splits l (λ b c. f b (x ∷ c)) ≡ 1 = ih p (λ i. count i l - p i) (λ b c. f b (x ∷ c)) (λ i. omega (arith, (r i).1))
    (λ b c s m n. one b (x ∷ c) (right s) m (λ i. omega (arith, n i, (r i).0)))
    (λ b c s i ne. zero' b (x ∷ c) (right s) i ne) in
    let z : sum_splits l (λ b c. f (x ∷ b) c) ≡ 0 = sum_zero l (λ b c. f (x ∷ b) c)
    (λ b c s. zero' (x ∷ b) c (left s) x (λ m. let o : one_if (ℕ_discrete x x) ≡ 1 = one_if-yes (ℕ_discrete x x) refl in absurd (omega (arith, m, px, o)))) in
    omega (arith, a, z)

-- the counts p and q of the two parts tell one way to divide a rising list
pub sum_one : (l : List ℕ) → Rises l → (p q : ℕ → ℕ) (f : List ℕ → List ℕ → ℕ) → ((i : ℕ) → p i + q i ≡ count i l)
    → ((b c : List ℕ) → Split l b c → ((i : ℕ) → count i b ≡ p i) → ((i : ℕ) → count i c ≡ q i) → f b c ≡ 1)
    → ((b c : List ℕ) → Split l b c → (i : ℕ) → count i b ≢ p i → f b c ≡ 0) → sum_splits l f ≡ 1
sum_one [] h p q f e one zero' = one [] [] done (λ i. omega (arith, e i)) (λ i. omega (arith, e i))
sum_one (x ∷ l) h p q f e one zero' =
    sum_step x l p q f h.0 e one zero' (λ p' q' g e' one' zero''. sum_one l h.1 p' q' g e' one' zero'') (dec_lt 0 (p x))
