-- Sums and products of numbers that are counted up to a greatest one.
use Rattle.std.proofs.Common.{◌≡◌, ◌≢◌, ℕ, zero, suc, ◌+◌, ◌-◌, ◌*◌, ◌<◌, ◌≤◌, List, [], ◌∷◌, length, get_or, set, get_or-set_other, get_or-set_same, min, refl, ap, sym, ◌∙◌, subst, arith}
use mathlib.Core.Path.{ap₂}
use native.Mathlib.Decide.{dec_lt}
use Rattle.std.specs.Prelude.{◌^◌}
use Rattle.labelled_trees.specs.RangeSums.{range_sum}
use Rattle.shuffle_insertions.specs.Counting.{binomial, row_count, trees}
use Rattle.shuffle_insertions.specs.Labels.{AreLabels}
use Rattle.shuffle_insertions.proofs.Counting.{trees_one, trees_more}
use Rattle.shuffle_trees.specs.Capped.{capped}

-- ---- sums and products

min_plus : (m a b : ℕ) → min (min a m + min b m) m ≡ min (a + b) m
min_plus m a b = omega arith

at_least : (m a b : ℕ) → m ≤ a → 0 < b → m ≤ a * b
at_least m a zero le p = absurd (omega arith)
at_least m a (suc b) le p = omega arith

-- a product with a factor that is at the greatest number, and one that isn't 0
times_great : (m a b : ℕ) → m ≤ a → 0 < b → 0 < m → min (min a m * min b m) m ≡ min (a * b) m
times_great m a b le p q =
    let x : m ≤ min a m * min b m = at_least m (min a m) (min b m) (omega arith) (omega arith) in
    let y : m ≤ a * b = at_least m a b le p in
    omega arith

times_none : (m a b : ℕ) → b ≡ 0 → min (min a m * min b m) m ≡ min (a * b) m
times_none m a b z = let y : min b m ≡ 0 = omega arith in rw (y, z) (omega arith)

swapped : (m a b : ℕ) → min (min b m * min a m) m ≡ min (b * a) m → min (min a m * min b m) m ≡ min (a * b) m
swapped m a b e = let x : min a m * min b m ≡ min b m * min a m = omega arith in let y : a * b ≡ b * a = omega arith in omega (arith, x, y, e)

times_by : (m a b : ℕ) → Dec (m < a) → Dec (m < b) → Dec (0 < a) → Dec (0 < b) → Dec (0 < m) → min (min a m * min b m) m ≡ min (a * b) m
times_by m a b d e f g (no z) = omega (arith, z)
times_by m a b d e f (no z) (yes q) = times_none m a b (omega (arith, z))
times_by m a b d e (no z) (yes p) (yes q) = swapped m a b (times_none m b a (omega (arith, z)))
times_by m a b (yes l) e (yes o) (yes p) (yes q) = times_great m a b (omega (arith, l)) p q
times_by m a b (no n) (yes l) (yes o) (yes p) (yes q) = swapped m a b (times_great m b a (omega (arith, l)) o q)
times_by m a b (no n) (no l) (yes o) (yes p) (yes q) = let x : min a m ≡ a = omega (arith, n) in let y : min b m ≡ b = omega (arith, l) in rw (x, y) refl

min_times : (m a b : ℕ) → min (min a m * min b m) m ≡ min (a * b) m
min_times m a b = times_by m a b (dec_lt m a) (dec_lt m b) (dec_lt 0 a) (dec_lt 0 b) (dec_lt 0 m)

pub capped-plus : (a b : ℕ) → capped (capped a + capped b) ≡ capped (a + b)
capped-plus a b = min_plus (2 ^ 64 - 1) a b

pub capped-times : (a b : ℕ) → capped (capped a * capped b) ≡ capped (a * b)
capped-times a b = min_times (2 ^ 64 - 1) a b

pub capped-twice : (a : ℕ) → capped (capped a) ≡ capped a
capped-twice a = omega arith

-- sums and products of numbers with one capped value
pub plus_same : (a b c d : ℕ) → capped a ≡ capped c → capped b ≡ capped d → capped (a + b) ≡ capped (c + d)
plus_same a b c d e f = sym (capped-plus a b) ∙ ap₂ (λ x y. capped (x + y)) e f ∙ capped-plus c d

pub times_same : (a b c d : ℕ) → capped a ≡ capped c → capped b ≡ capped d → capped (a * b) ≡ capped (c * d)
times_same a b c d e f = sym (capped-times a b) ∙ ap₂ (λ x y. capped (x * y)) e f ∙ capped-times c d

pub sum_same : (b : ℕ) (f h : ℕ → ℕ) → ((i : ℕ) → i < b → capped (f i) ≡ capped (h i)) → capped (range_sum b f) ≡ capped (range_sum b h)
sum_same zero f h e = refl
sum_same (suc b) f h e = plus_same (range_sum b f) (f b) (range_sum b h) (h b) (sum_same b f h (λ i lt. e i (omega arith))) (e b (omega arith))

-- ---- rows

row_same : (f h : ℕ → ℕ) (k n : ℕ) → ((m : ℕ) → m ≤ n → capped (f m) ≡ capped (h m)) → capped (row_count f k n) ≡ capped (row_count h k n)
row_same f h zero zero e = refl
row_same f h zero (suc n) e = refl
row_same f h (suc k) zero e = refl
row_same f h (suc k) (suc n) e = sum_same (suc n) (λ j. binomial n j * (f (suc j) * row_count f k (n - j))) (λ j. binomial n j * (h (suc j) * row_count h k (n - j)))
    (λ j lt. times_same (binomial n j) (f (suc j) * row_count f k (n - j)) (binomial n j) (h (suc j) * row_count h k (n - j)) refl
    (times_same (f (suc j)) (row_count f k (n - j)) (h (suc j)) (row_count h k (n - j)) (e (suc j) (omega arith)) (row_same f h k (n - j) (λ m le. e m (omega arith)))))

last_none : (f : ℕ → ℕ) (k n j : ℕ) → n ≤ j → binomial n j * (f (suc j) * row_count f (suc k) (n - j)) ≡ 0
last_none f k n j le = let e : n - j ≡ 0 = omega arith in rw e (let z : f (suc j) * 0 ≡ 0 = omega arith in rw z (omega arith))

row_step : (f h : ℕ → ℕ) (k n j : ℕ) → ((m : ℕ) → m < suc n → capped (f m) ≡ capped (h m)) → Dec (j < n)
    → capped (binomial n j * (f (suc j) * row_count f (suc k) (n - j))) ≡ capped (binomial n j * (h (suc j) * row_count h (suc k) (n - j)))
row_step f h k n j e (yes lt) =
    times_same (binomial n j) (f (suc j) * row_count f (suc k) (n - j)) (binomial n j) (h (suc j) * row_count h (suc k) (n - j)) refl
    (times_same (f (suc j)) (row_count f (suc k) (n - j)) (h (suc j)) (row_count h (suc k) (n - j)) (e (suc j) (omega arith)) (row_same f h (suc k) (n - j) (λ m le. e m (omega arith))))
row_step f h k n j e (no ge) = ap capped (last_none f k n j (omega (arith, ge)) ∙ sym (last_none h k n j (omega (arith, ge))))

-- rows of two or more inputs depend on the numbers of trees over fewer leaves alone
pub row_below_same : (f h : ℕ → ℕ) (k n : ℕ) → 2 ≤ k → ((m : ℕ) → m < n → capped (f m) ≡ capped (h m)) → capped (row_count f k n) ≡ capped (row_count h k n)
row_below_same f h zero n two e = absurd (omega arith)
row_below_same f h (suc zero) n two e = absurd (omega arith)
row_below_same f h (suc (suc k)) zero two e = refl
row_below_same f h (suc (suc k)) (suc n) two e = sum_same (suc n) (λ j. binomial n j * (f (suc j) * row_count f (suc k) (n - j))) (λ j. binomial n j * (h (suc j) * row_count h (suc k) (n - j)))
    (λ j lt. row_step f h k n j e (dec_lt j n))

-- ---- the steps of the count

pub capped_itself : (n : ℕ) → n < 2 ^ 64 → capped n ≡ n
capped_itself n lt = omega arith

pub add_next : (sum next new S N : ℕ) → sum ≡ capped S → next ≡ capped N → new ≡ capped (sum + next) → new ≡ capped (S + N)
add_next sum next new S N e f is = is ∙ ap₂ (λ x y. capped (x + y)) e f ∙ capped-plus S N

pub add_rows : (sum ways first rest inner product new S W R : ℕ) → sum ≡ capped S → ways ≡ capped W → first < 2 ^ 64 → rest ≡ capped R
    → inner ≡ capped (first * rest) → product ≡ capped (ways * inner) → new ≡ capped (sum + product) → new ≡ capped (S + W * (first * R))
add_rows sum ways first rest inner product new S W R s w f r i p n =
    let inside : inner ≡ capped (first * R) = i ∙ ap₂ (λ x y. capped (x * y)) (sym (capped_itself first f)) r ∙ capped-times first R in
    let both : product ≡ capped (W * (first * R)) = p ∙ ap₂ (λ x y. capped (x * y)) w inside ∙ capped-times W (first * R) in
    add_next sum product new S (W * (first * R)) s both n

-- a number is written behind those that are known
pub written_next : (rows : List ℕ) (i v k : ℕ) (G : ℕ → ℕ) → i < length rows → (k < i → get_or rows k 0 ≡ G k) → v ≡ G i → k < i + 1 → get_or (set rows i v) k 0 ≡ G k
written_next rows i v k G lt before here le = go (dec_lt k i)
  where
    go : Dec (k < i) → get_or (set rows i v) k 0 ≡ G k
    go (yes l) = let ne : k ≢ i = omega arith in rw get_or-set_other (before l)
    go (no n) = let e : k ≡ i = omega (arith, n, le) in subst (λ j. get_or (set rows i v) j 0 ≡ G j) (sym e) (rw get_or-set_same here)

-- ---- trees

module _ (labels : ℕ) (arity : ℕ → ℕ) (are : AreLabels labels arity) where
  pub trees_first : (m : ℕ) → m < 2 → get_or (0 ∷ (1 ∷ (0 ∷ (0 ∷ (0 ∷ (0 ∷ (0 ∷ (0 ∷ (0 ∷ (0 ∷ [])))))))))) m 0 ≡ capped (trees labels arity m)
  trees_first zero lt = refl
  trees_first (suc zero) lt = let e = trees_one labels arity are in rw e refl
  trees_first (suc (suc m)) lt = absurd (omega arith)

  pub trees_next : (table : List ℕ) (n : ℕ) → 2 ≤ n → ((m : ℕ) → m < n → get_or table m 0 ≡ capped (trees labels arity m))
      → capped (range_sum labels (λ g. row_count (λ m. get_or table m 0) (arity g) n)) ≡ capped (trees labels arity n)
  trees_next table zero two h = absurd (omega arith)
  trees_next table (suc zero) two h = absurd (omega arith)
  trees_next table (suc (suc n)) two h =
      sum_same labels (λ g. row_count (λ m. get_or table m 0) (arity g) (suc (suc n))) (λ g. row_count (trees labels arity) (arity g) (suc (suc n)))
      (λ g lt. row_below_same (λ m. get_or table m 0) (trees labels arity) (arity g) (suc (suc n)) (are.wide g lt) (λ m l. ap capped (h m l) ∙ capped-twice (trees labels arity m)))
      ∙ ap capped (sym (trees_more labels arity are n))
