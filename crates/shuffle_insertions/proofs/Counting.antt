-- The list of all trees is as long as the recursion of the numbers of trees says.
use Rattle.std.proofs.Math.ListN.{length-map}
use Rattle.std.proofs.Common.{◌≡◌, ℕ, zero, suc, ◌+◌, ◌-◌, ◌*◌, ◌<◌, ◌≤◌, List, [], ◌∷◌, length, map, refl, sym, ◌∙◌, ap, arith, length-append}
use mathlib.Core.Path.{ap₂}
use Rattle.labelled_trees.specs.Trees.{Tree, Row, node, more}
use Rattle.shuffle_insertions.specs.Listing.{joined_below, joined_splits, each_with_each, rows, lone, shuffles, upto, all_trees}
use Rattle.shuffle_insertions.specs.Labels.{AreLabels}
use Rattle.shuffle_insertions.specs.Counting.{binomial, row_count, lone_count, tree_count, trees}
use Rattle.labelled_trees.specs.RangeSums.{range_sum}
use Rattle.labelled_trees.proofs.RangeSums.{range_sum-none}

ext_below : (b : ℕ) (f g : ℕ → ℕ) → ((i : ℕ) → i < b → f i ≡ g i) → range_sum b f ≡ range_sum b g
ext_below zero f g h = refl
ext_below (suc b) f g h = ap₂ (λ m n. m + n) (ext_below b f g (λ i lt. h i (omega arith))) (h b (omega arith))

pub sum_first : (b : ℕ) (f : ℕ → ℕ) → range_sum (suc b) f ≡ f 0 + range_sum b (λ i. f (suc i))
sum_first zero f = omega arith
sum_first (suc b) f = omega (arith, sum_first b f)

sum_plus : (b : ℕ) (f g : ℕ → ℕ) → range_sum b (λ i. f i + g i) ≡ range_sum b f + range_sum b g
sum_plus zero f g = refl
sum_plus (suc b) f g = omega (arith, sum_plus b f g)

-- no choice of more than there are
pub too_many : (n k : ℕ) → n < k → binomial n k ≡ 0
too_many zero zero h = absurd (omega arith)
too_many zero (suc k) h = refl
too_many (suc n) zero h = absurd (omega arith)
too_many (suc n) (suc k) h = omega (arith, too_many n k (omega arith), too_many n (suc k) (omega arith))

pub choose_none : (n : ℕ) → binomial n 0 ≡ 1
choose_none zero = refl
choose_none (suc n) = refl

-- a sum over the ways to divide m things, by the sizes of the two parts
abbrev size_sum : ℕ → (ℕ → ℕ → ℕ) → ℕ
size_sum zero h = h 0 0
size_sum (suc m) h = size_sum m (λ i j. h (suc i) j) + size_sum m (λ i j. h i (suc j))

pascal : (m : ℕ) (h : ℕ → ℕ → ℕ) → size_sum m h ≡ range_sum (suc m) (λ j. binomial m j * h j (m - j))
pascal zero h = omega arith
pascal (suc m) h =
    ap₂ (λ a b. a + b) (pascal m (λ i j. h (suc i) j)) (pascal m (λ i j. h i (suc j)) ∙ sum_first m (λ j. binomial m j * h j (suc (m - j))))
    ∙ tail
    ∙ sym (sum_first (suc m) (λ j. binomial (suc m) j * h j (suc m - j)) ∙ ap (λ a. binomial (suc m) 0 * h 0 (suc m - 0) + a)
    (ext_below (suc m) (λ j. binomial (suc m) (suc j) * h (suc j) (suc m - suc j)) (λ j. binomial m j * h (suc j) (m - j) + binomial m (suc j) * h (suc j) (m - j)) (λ j lt. pascal_step j)
    ∙ sum_plus (suc m) (λ j. binomial m j * h (suc j) (m - j)) (λ j. binomial m (suc j) * h (suc j) (m - j))))
  where
    pascal_step : (j : ℕ) → binomial (suc m) (suc j) * h (suc j) (suc m - suc j) ≡ binomial m j * h (suc j) (m - j) + binomial m (suc j) * h (suc j) (m - j)
    pascal_step j = let e : suc m - suc j ≡ m - j = omega arith in rw e (omega arith)

    last : binomial m (suc m) * h (suc m) (m - m) ≡ 0
    last = rw (too_many m (suc m) (omega arith)) (omega arith)

    shifted : range_sum m (λ j. binomial m (suc j) * h (suc j) (suc (m - suc j))) ≡ range_sum m (λ j. binomial m (suc j) * h (suc j) (m - j))
    shifted = ext_below m (λ j. binomial m (suc j) * h (suc j) (suc (m - suc j))) (λ j. binomial m (suc j) * h (suc j) (m - j))
        (λ j lt. let e : suc (m - suc j) ≡ m - j = omega arith in ap (λ a. binomial m (suc j) * h (suc j) a) e)

    firsts : binomial m 0 * h 0 (suc (m - 0)) ≡ binomial (suc m) 0 * h 0 (suc m - 0)
    firsts = let e : suc (m - 0) ≡ suc m - 0 = omega arith in rw (choose_none m, e) refl

    tail : range_sum (suc m) (λ j. binomial m j * h (suc j) (m - j)) + (binomial m 0 * h 0 (suc (m - 0)) + range_sum m (λ j. binomial m (suc j) * h (suc j) (suc (m - suc j))))
        ≡ binomial (suc m) 0 * h 0 (suc m - 0) + (range_sum (suc m) (λ j. binomial m j * h (suc j) (m - j)) + range_sum (suc m) (λ j. binomial m (suc j) * h (suc j) (m - j)))
    tail = omega (arith, last, shifted, firsts)

length_splits : {X : Type 0} (l : List ℕ) (f : List ℕ → List ℕ → List X) (h : ℕ → ℕ → ℕ) → ((b c : List ℕ) → length (f b c) ≡ h (length b) (length c)) → length (joined_splits l f) ≡ size_sum (length l) h
length_splits [] f h e = e [] []
length_splits (x ∷ l) f h e =
    length-append (joined_splits l (λ b c. f (x ∷ b) c)) (joined_splits l (λ b c. f b (x ∷ c)))
    ∙ ap₂ (λ a b. a + b) (length_splits l (λ b c. f (x ∷ b) c) (λ i j. h (suc i) j) (λ b c. e (x ∷ b) c)) (length_splits l (λ b c. f b (x ∷ c)) (λ i j. h i (suc j)) (λ b c. e b (x ∷ c)))

length_below : {X : Type 0} (b : ℕ) (f : ℕ → List X) (h : ℕ → ℕ) → ((i : ℕ) → length (f i) ≡ h i) → length (joined_below b f) ≡ range_sum b h
length_below zero f h e = refl
length_below (suc b) f h e = length-append (joined_below b f) (f b) ∙ ap₂ (λ m n. m + n) (length_below b f h e) (e b)

length_each : (ts : List (Tree ℕ)) (rs : List (Row ℕ)) → length (each_with_each ts rs) ≡ length ts * length rs
length_each [] rs = omega arith
length_each (t ∷ ts) rs =
    length-append (map (λ r. more t r) rs) (each_with_each ts rs) ∙ ap₂ (λ m n. m + n) (length-map rs (λ r. more t r)) (length_each ts rs)
    ∙ let k : length rs + length ts * length rs ≡ suc (length ts) * length rs = omega arith in k

pub length_rows : (t : List ℕ → List (Tree ℕ)) (f : ℕ → ℕ) → ((l : List ℕ) → length (t l) ≡ f (length l)) → (k : ℕ) (l : List ℕ) → length (rows t k l) ≡ row_count f k (length l)
length_rows t f e zero [] = refl
length_rows t f e zero (a ∷ l) = refl
length_rows t f e (suc k) [] = refl
length_rows t f e (suc k) (a ∷ l) =
    length_splits l (λ b c. each_with_each (t (a ∷ b)) (rows t k c)) (λ i j. f (suc i) * row_count f k j)
    (λ b c. length_each (t (a ∷ b)) (rows t k c) ∙ ap₂ (λ m n. m * n) (e (a ∷ b)) (length_rows t f e k c))
    ∙ pascal (length l) (λ i j. f (suc i) * row_count f k j)

length_lone : (l : List ℕ) → length (lone l) ≡ lone_count (length l)
length_lone [] = refl
length_lone (a ∷ []) = refl
length_lone (a ∷ (b ∷ l)) = refl

pub length_shuffles : (labels : ℕ) (arity : ℕ → ℕ) (d : ℕ) (l : List ℕ) → length (shuffles labels arity d l) ≡ tree_count labels arity d (length l)
length_shuffles labels arity zero l = refl
length_shuffles labels arity (suc d) l =
    length-append (lone l) (joined_below labels (λ g. map (λ r. node g r) (rows (shuffles labels arity d) (arity g) l)))
    ∙ ap₂ (λ m n. m + n) (length_lone l)
    (length_below labels (λ g. map (λ r. node g r) (rows (shuffles labels arity d) (arity g) l)) (λ g. row_count (tree_count labels arity d) (arity g) (length l))
    (λ g. length-map (rows (shuffles labels arity d) (arity g) l) (λ r. node g r)
    ∙ length_rows (shuffles labels arity d) (tree_count labels arity d) (λ m. length_shuffles labels arity d m) (arity g) l))

pub length-upto : (n : ℕ) → length (upto n) ≡ n
length-upto zero = refl
length-upto (suc n) = length-append (upto n) (suc n ∷ []) ∙ let e = length-upto n in omega (arith, e)

-- the list of all trees has trees(n) items
pub length_all : (labels : ℕ) (arity : ℕ → ℕ) (n : ℕ) → length (all_trees labels arity n) ≡ trees labels arity n
length_all labels arity n = length_shuffles labels arity n (upto n) ∙ ap (tree_count labels arity n) (length-upto n)

-- the recursion of the numbers of trees, without the number of levels
row_ext : (f h : ℕ → ℕ) (k n : ℕ) → ((m : ℕ) → m ≤ n → f m ≡ h m) → row_count f k n ≡ row_count h k n
row_ext f h zero zero e = refl
row_ext f h zero (suc n) e = refl
row_ext f h (suc k) zero e = refl
row_ext f h (suc k) (suc n) e = ext_below (suc n) (λ j. binomial n j * (f (suc j) * row_count f k (n - j))) (λ j. binomial n j * (h (suc j) * row_count h k (n - j)))
    (λ j lt. ap₂ (λ a b. binomial n j * (a * b)) (e (suc j) (omega arith)) (row_ext f h k (n - j) (λ m le. e m (omega arith))))

last_none : (f : ℕ → ℕ) (k n j : ℕ) → n ≤ j → row_count f (suc k) (n - j) ≡ 0
last_none f k n j le = let e : n - j ≡ 0 = omega arith in rw e refl

row_step : (f h : ℕ → ℕ) (k n j : ℕ) → ((m : ℕ) → m < suc n → f m ≡ h m) → Dec (j < n)
    → binomial n j * (f (suc j) * row_count f (suc k) (n - j)) ≡ binomial n j * (h (suc j) * row_count h (suc k) (n - j))
row_step f h k n j e (yes lt) = ap₂ (λ a b. binomial n j * (a * b)) (e (suc j) (omega arith)) (row_ext f h (suc k) (n - j) (λ m le. e m (omega arith)))
row_step f h k n j e (no ge) =
    let a = last_none f k n j (omega (arith, ge)) in
    let b = last_none h k n j (omega (arith, ge)) in
    let c : f (suc j) * row_count f (suc k) (n - j) ≡ 0 = rw a (omega arith) in
    let d : h (suc j) * row_count h (suc k) (n - j) ≡ 0 = rw b (omega arith) in
    ap (λ z. binomial n j * z) (c ∙ sym d)

row_below : (f h : ℕ → ℕ) (k n : ℕ) → 2 ≤ k → ((m : ℕ) → m < n → f m ≡ h m) → row_count f k n ≡ row_count h k n
row_below f h zero n two e = absurd (omega arith)
row_below f h (suc zero) n two e = absurd (omega arith)
row_below f h (suc (suc k)) zero two e = refl
row_below f h (suc (suc k)) (suc n) two e = ext_below (suc n) (λ j. binomial n j * (f (suc j) * row_count f (suc k) (n - j))) (λ j. binomial n j * (h (suc j) * row_count h (suc k) (n - j)))
    (λ j lt. row_step f h k n j e (native.Mathlib.Decide.dec_lt j n))

-- fewer leaves than inputs
pub too_few : (f : ℕ → ℕ) (k n : ℕ) → n < k → row_count f k n ≡ 0
too_few f zero n lt = absurd (omega arith)
too_few f (suc k) zero lt = refl
too_few f (suc k) (suc n) lt = range_sum-none (suc n) (λ j. binomial n j * (f (suc j) * row_count f k (n - j)))
    (λ j. let z = too_few f k (n - j) (omega arith) in let c : f (suc j) * row_count f k (n - j) ≡ 0 = rw z (omega arith) in let d : binomial n j * (f (suc j) * row_count f k (n - j)) ≡ 0 = rw c (omega arith) in d)

module _ (labels : ℕ) (arity : ℕ → ℕ) (are : AreLabels labels arity) where
  no_leaves : (d : ℕ) → tree_count labels arity d 0 ≡ 0
  no_leaves zero = refl
  no_leaves (suc d) =
      let e : range_sum labels (λ g. row_count (tree_count labels arity d) (arity g) 0) ≡ range_sum labels (λ g. 0)
      = ext_below labels (λ g. row_count (tree_count labels arity d) (arity g) 0) (λ g. 0) (λ g lt. too_few (tree_count labels arity d) (arity g) 0 (omega (arith, are.wide g lt))) in
      omega (arith, e, range_sum-none labels (λ g. 0) (λ g. refl))

  -- levels enough
  pub enough_levels : (d e n : ℕ) → n ≤ d → n ≤ e → tree_count labels arity d n ≡ tree_count labels arity e n
  enough_levels zero e n a b = let z : n ≡ 0 = omega arith in rw z (sym (no_leaves e))
  enough_levels (suc d) zero n a b = let z : n ≡ 0 = omega arith in rw z (no_leaves (suc d))
  enough_levels (suc d) (suc e) n a b = ap (λ m. lone_count n + m)
      (ext_below labels (λ g. row_count (tree_count labels arity d) (arity g) n) (λ g. row_count (tree_count labels arity e) (arity g) n)
      (λ g lt. row_below (tree_count labels arity d) (tree_count labels arity e) (arity g) n (are.wide g lt) (λ m h. enough_levels d e m (omega arith) (omega arith))))

  pub trees_one : trees labels arity 1 ≡ 1
  trees_one =
      let e : range_sum labels (λ g. row_count (tree_count labels arity 0) (arity g) 1) ≡ range_sum labels (λ g. 0)
      = ext_below labels (λ g. row_count (tree_count labels arity 0) (arity g) 1) (λ g. 0) (λ g lt. too_few (tree_count labels arity 0) (arity g) 1 (omega (arith, are.wide g lt))) in
      omega (arith, e, range_sum-none labels (λ g. 0) (λ g. refl))

  -- two or more leaves: the sum over the labels
  pub trees_more : (n : ℕ) → trees labels arity (suc (suc n)) ≡ range_sum labels (λ g. row_count (trees labels arity) (arity g) (suc (suc n)))
  trees_more n =
      let e : range_sum labels (λ g. row_count (tree_count labels arity (suc n)) (arity g) (suc (suc n))) ≡ range_sum labels (λ g. row_count (trees labels arity) (arity g) (suc (suc n)))
      = ext_below labels (λ g. row_count (tree_count labels arity (suc n)) (arity g) (suc (suc n))) (λ g. row_count (trees labels arity) (arity g) (suc (suc n)))
      (λ g lt. row_below (tree_count labels arity (suc n)) (trees labels arity) (arity g) (suc (suc n)) (are.wide g lt) (λ m h. enough_levels (suc n) m m (omega arith) (omega arith))) in
      omega (arith, e)
