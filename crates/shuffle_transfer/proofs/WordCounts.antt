-- How many words a generator has.
use Rattle.std.proofs.Common.{◌≡◌, ℕ, zero, suc, ◌+◌, ◌*◌, ◌<◌, ◌≤◌, inl, inr, Bool, true, false, cond, List, [], ◌∷◌, ◌++◌, map, length, take, drop, refl, sym, ◌∙◌, ap, ap₂, arith, lt-ltb, le-ltb}
use Rattle.std.proofs.lemmas.Bool.{ltb-true}
use Rattle.std.specs.Prelude.{flat_map, nat_lt}
use Rattle.modular_sums.specs.Lists.{Mem, Rises}
use Rattle.operad_ideals.specs.Parts.{Kind, symmetric, skew, free, Part, total}
use Rattle.shuffle_insertions.specs.Counting.{binomial, factorial}
use Rattle.shuffle_insertions.proofs.Counting.{too_many, choose_none}
use Rattle.shuffle_transfer.specs.Orderings.{Pick, behind, picks, permutations}
use Rattle.shuffle_transfer.specs.Labels.{rises, part_rises, parts_rise, rising_words}
use Rattle.shuffle_transfer.specs.LabelCounts.{kind_orders, part_orders}
use Rattle.shuffle_transfer.proofs.Permutes.{picked, pick_mem, rest_rises, length_rest, length_picks}

-- ---- binomial coefficients and factorials

-- of k things z are chosen in k! divided by z! and by the factorial of the number of the others
pub chosen_orders : (z t k : ℕ) → k ≡ z + t → binomial k z * (factorial z * factorial t) ≡ factorial k
chosen_orders zero t k e =
    let s : t ≡ k = omega (arith, e) in
    rw (choose_none k, s) (omega arith)
chosen_orders (suc z) t zero e = absurd (omega (arith, e))
chosen_orders (suc z) zero (suc k) e =
    let same : z ≡ k = omega (arith, e) in
    let many : binomial k (suc z) ≡ 0 = too_many k (suc z) (omega (arith, same)) in
    let ih : binomial k z * (factorial z * factorial 0) ≡ factorial k = chosen_orders z 0 k (omega (arith, same)) in
    let wide : suc z * (binomial k z * (factorial z * factorial 0)) ≡ suc z * factorial k = ap (λ n. suc z * n) ih in
    let none : binomial k (suc z) * (factorial (suc z) * factorial 0) ≡ 0 = rw many (omega arith) in
    let last : suc k * factorial k ≡ suc z * factorial k = ap (λ n. suc n * factorial k) (sym same) in
    omega (arith, wide, none, last)
chosen_orders (suc z) (suc t) (suc k) e =
    let first : binomial k z * (factorial z * factorial (suc t)) ≡ factorial k = chosen_orders z (suc t) k (omega (arith, e)) in
    let second : binomial k (suc z) * (factorial (suc z) * factorial t) ≡ factorial k = chosen_orders (suc z) t k (omega (arith, e)) in
    let one : suc z * (binomial k z * (factorial z * factorial (suc t))) ≡ suc z * factorial k = ap (λ n. suc z * n) first in
    let two : suc t * (binomial k (suc z) * (factorial (suc z) * factorial t)) ≡ suc t * factorial k = ap (λ n. suc t * n) second in
    let sum : suc k * factorial k ≡ suc z * factorial k + suc t * factorial k = rw e (omega arith) in
    omega (arith, one, two, sum)

-- ---- sums over a list

-- the sum of f over the list
abbrev summed : {X : Type 0} → List X → (X → ℕ) → ℕ
summed [] f = 0
summed (x ∷ l) f = f x + summed l f

summed_ext : {X : Type 0} (l : List X) (f g : X → ℕ) → ((x : X) → Mem x l → f x ≡ g x) → summed l f ≡ summed l g
summed_ext [] f g h = refl
summed_ext (x ∷ l) f g h = ap₂ (λ a b. a + b) (h x (inl refl)) (summed_ext l f g (λ y m. h y (inr m)))

summed_times : {X : Type 0} (l : List X) (f : X → ℕ) (c : ℕ) → summed l (λ x. f x * c) ≡ summed l f * c
summed_times [] f c = omega arith
summed_times (x ∷ l) f c = omega (arith, summed_times l f c)

times_summed : {X : Type 0} (l : List X) (f : X → ℕ) (c : ℕ) → c * summed l f ≡ summed l (λ x. c * f x)
times_summed [] f c = omega arith
times_summed (x ∷ l) f c = omega (arith, times_summed l f c)

summed_same : {X : Type 0} (l : List X) (c : ℕ) → summed l (λ x. c) ≡ length l * c
summed_same [] c = omega arith
summed_same (x ∷ l) c = omega (arith, summed_same l c)

summed_behind : (x : ℕ) (l : List Pick) (f : Pick → ℕ) → summed (behind x l) f ≡ summed l (λ p. f (record { first = p.first; others = x ∷ p.others }))
summed_behind x [] f = refl
summed_behind x (p ∷ l) f = ap (λ n. f (record { first = p.first; others = x ∷ p.others }) + n) (summed_behind x l f)

-- ---- the words of a list that pass a test

-- how many words of the list pass the test
abbrev pub counted : (List ℕ → Bool) → List (List ℕ) → ℕ
counted b [] = 0
counted b (w ∷ ws) = cond (b w) (suc (counted b ws)) (counted b ws)

counted_append : (b : List ℕ → Bool) (u v : List (List ℕ)) → counted b (u ++ v) ≡ counted b u + counted b v
counted_append b [] v = omega arith
counted_append b (w ∷ u) v = go (b w) (counted_append b u v)
  where
    go : (d : Bool) → counted b (u ++ v) ≡ counted b u + counted b v → cond d (suc (counted b (u ++ v))) (counted b (u ++ v)) ≡ cond d (suc (counted b u)) (counted b u) + counted b v
    go true ih = omega (arith, ih)
    go false ih = ih

counted_behind : (b : List ℕ → Bool) (x : ℕ) (ws : List (List ℕ)) → counted b (map (λ w. x ∷ w) ws) ≡ counted (λ w. b (x ∷ w)) ws
counted_behind b x [] = refl
counted_behind b x (w ∷ ws) = ap (λ n. cond (b (x ∷ w)) (suc n) n) (counted_behind b x ws)

counted_none : (ws : List (List ℕ)) → counted (λ w. false) ws ≡ 0
counted_none [] = refl
counted_none (w ∷ ws) = counted_none ws

counted_ext : (b c : List ℕ → Bool) (ws : List (List ℕ)) → ((w : List ℕ) → b w ≡ c w) → counted b ws ≡ counted c ws
counted_ext b c [] h = refl
counted_ext b c (w ∷ ws) h = ap₂ (λ d n. cond d (suc n) n) (h w) (counted_ext b c ws h)

-- by the first number
counted_firsts : (b : List ℕ → Bool) (k : ℕ) (l : List Pick) → counted b (flat_map (λ p. map (λ w. p.first ∷ w) (permutations k p.others)) l) ≡ summed l (λ p. counted (λ w. b (p.first ∷ w)) (permutations k p.others))
counted_firsts b k [] = refl
counted_firsts b k (p ∷ l) =
    counted_append b (map (λ w. p.first ∷ w) (permutations k p.others)) (flat_map (λ q. map (λ w. q.first ∷ w) (permutations k q.others)) l)
    ∙ ap₂ (λ m n. m + n) (counted_behind b p.first (permutations k p.others)) (counted_firsts b k l)

pub length_rising : (ps : List Part) (ws : List (List ℕ)) → length (rising_words ps ws) ≡ counted (parts_rise ps) ws
length_rising ps [] = refl
length_rising ps (w ∷ ws) = go (parts_rise ps w) (length_rising ps ws)
  where
    go : (d : Bool) → length (rising_words ps ws) ≡ counted (parts_rise ps) ws → length (cond d (w ∷ rising_words ps ws) (rising_words ps ws)) ≡ cond d (suc (counted (parts_rise ps) ws)) (counted (parts_rise ps) ws)
    go true ih = ap suc ih
    go false ih = ih

-- ---- the numbers of a list above another

-- how many numbers of the list are above b
abbrev above : ℕ → List ℕ → ℕ
above b [] = 0
above b (x ∷ l) = cond (nat_lt b x) (suc (above b l)) (above b l)

all_above : (b : ℕ) (l : List ℕ) → ((u : ℕ) → Mem u l → b < u) → above b l ≡ length l
all_above b [] h = refl
all_above b (x ∷ l) h = ap (λ d. cond d (suc (above b l)) (above b l)) (lt-ltb b x (h x (inl refl))) ∙ ap suc (all_above b l (λ u m. h u (inr m)))

above_later : (b x : ℕ) (l : List ℕ) → x ≤ b → above b (x ∷ l) ≡ above b l
above_later b x l h = ap (λ d. cond d (suc (above b l)) (above b l)) (le-ltb b x h)

above_first : (b x : ℕ) (l : List ℕ) → b < x → ((u : ℕ) → Mem u l → x < u) → above b (x ∷ l) ≡ suc (length l)
above_first b x l h r = ap (λ d. cond d (suc (above b l)) (above b l)) (lt-ltb b x h) ∙ ap suc (all_above b l (λ u m. let k = r u m in omega (arith, h, k)))

-- each number in turn, with z of those behind it: z + 1 of the numbers
sum_all : (z : ℕ) (l : List ℕ) → Rises l → summed (picks l) (λ p. binomial (above p.first p.others) z) ≡ binomial (length l) (suc z)
sum_all z [] r = refl
sum_all z (x ∷ l) r = ap₂ (λ m n. binomial m z + n) (all_above x l r.0) (summed_behind x (picks l) (λ p. binomial (above p.first p.others) z) ∙ rest (sum_all z l r.1))
  where
    same : (p : Pick) → Mem p (picks l) → binomial (above p.first (x ∷ p.others)) z ≡ binomial (above p.first p.others) z
    same p m = let lt = r.0 p.first (pick_mem p.first l p.others (picked p l m)) in ap (λ n. binomial n z) (above_later p.first x p.others (omega (arith, lt)))

    rest : summed (picks l) (λ p. binomial (above p.first p.others) z) ≡ binomial (length l) (suc z) → summed (picks l) (λ p. binomial (above p.first (x ∷ p.others)) z) ≡ binomial (length l) (suc z)
    rest ih = summed_ext (picks l) (λ p. binomial (above p.first (x ∷ p.others)) z) (λ p. binomial (above p.first p.others) z) same ∙ ih

-- c where the second number is greater, else 0
abbrev where_above : ℕ → ℕ → ℕ → ℕ
where_above b x c = cond (nat_lt b x) c 0

-- the same with the numbers above b
sum_above : (b z : ℕ) (l : List ℕ) → Rises l → summed (picks l) (λ p. where_above b p.first (binomial (above p.first p.others) z)) ≡ binomial (above b l) (suc z)
sum_above b z [] r = refl
sum_above b z (x ∷ l) r = ap (λ n. where_above b x (binomial (above x l) z) + n) (summed_behind x (picks l) (λ p. where_above b p.first (binomial (above p.first p.others) z)) ∙ rest (sum_above b z l r.1)) ∙ whole (nat_lt b x) refl
  where
    same : (p : Pick) → Mem p (picks l) → where_above b p.first (binomial (above p.first (x ∷ p.others)) z) ≡ where_above b p.first (binomial (above p.first p.others) z)
    same p m = let lt = r.0 p.first (pick_mem p.first l p.others (picked p l m)) in ap (λ n. where_above b p.first (binomial n z)) (above_later p.first x p.others (omega (arith, lt)))

    rest : summed (picks l) (λ p. where_above b p.first (binomial (above p.first p.others) z)) ≡ binomial (above b l) (suc z)
        → summed (picks l) (λ p. where_above b p.first (binomial (above p.first (x ∷ p.others)) z)) ≡ binomial (above b l) (suc z)
    rest ih = summed_ext (picks l) (λ p. where_above b p.first (binomial (above p.first (x ∷ p.others)) z)) (λ p. where_above b p.first (binomial (above p.first p.others) z)) same ∙ ih

    whole : (d : Bool) → nat_lt b x ≡ d → cond d (binomial (above x l) z) 0 + binomial (above b l) (suc z) ≡ binomial (cond d (suc (above b l)) (above b l)) (suc z)
    whole true e = ap (λ n. binomial n z + binomial (above b l) (suc z)) (all_above x l r.0 ∙ sym (all_above b l (λ u m. let k = r.0 u m in let h : b < x = ltb-true b x e in omega (arith, h, k))))
    whole false e = omega arith

-- ---- words part by part

-- the first z numbers rise above b, and the others as the parts say
abbrev rise_above : ℕ → ℕ → List Part → List ℕ → Bool
rise_above z b ps w = cond (rises (b ∷ take z w)) (parts_rise ps (drop z w)) false

-- the first z numbers stand as a part of this kind lets them, and the others as the parts say
abbrev rise_first : Kind → ℕ → List Part → List ℕ → Bool
rise_first kind z ps w = cond (part_rises kind (take z w)) (parts_rise ps (drop z w)) false

-- the words over so many rising numbers are counted
abbrev pub AreCounted : List Part → Type 0
AreCounted ps = (l : List ℕ) → Rises l → length l ≡ total ps → part_orders ps * counted (parts_rise ps) (permutations (total ps) l) ≡ factorial (total ps)

picked_rises : (l : List ℕ) → Rises l → (p : Pick) → Mem p (picks l) → Rises p.others
picked_rises l r p m = rest_rises p.first l p.others (picked p l m) r

picked_length : (l : List ℕ) (k : ℕ) → length l ≡ suc k → (p : Pick) → Mem p (picks l) → length p.others ≡ k
picked_length l k e p m = let n : length l ≡ suc (length p.others) = length_rest p.first l p.others (picked p l m) in omega (arith, n, e)

module _ (ps : List Part) (ih : AreCounted ps) where
  abbrev orders : ℕ
  orders = part_orders ps

  abbrev rest_orders : ℕ
  rest_orders = factorial (total ps)

  none_first : (b : List ℕ → Bool) → ((w : List ℕ) → b w ≡ parts_rise ps w) → (k : ℕ) → k ≡ total ps → (l : List ℕ) → Rises l → length l ≡ k → orders * counted b (permutations k l) ≡ rest_orders
  none_first b h k e l r len =
      ap (λ n. orders * n) (counted_ext b (parts_rise ps) (permutations k l) h ∙ ap (λ n. counted (parts_rise ps) (permutations n l)) e) ∙ ih l r (len ∙ e)

  by_first : (b : List ℕ → Bool) (k : ℕ) (l : List ℕ) (f : Pick → ℕ) → ((p : Pick) → Mem p (picks l) → orders * counted (λ w. b (p.first ∷ w)) (permutations k p.others) ≡ f p)
      → orders * counted b (permutations (suc k) l) ≡ summed (picks l) f
  by_first b k l f h =
      ap (λ n. orders * n) (counted_firsts b k (picks l)) ∙ times_summed (picks l) (λ p. counted (λ w. b (p.first ∷ w)) (permutations k p.others)) orders
      ∙ summed_ext (picks l) (λ p. orders * counted (λ w. b (p.first ∷ w)) (permutations k p.others)) f h

  none_chosen : (n : ℕ) → rest_orders ≡ binomial n 0 * rest_orders
  none_chosen n = rw (choose_none n) (omega arith)

  -- the first z numbers rise above b
  above_counted : (z b k : ℕ) → k ≡ z + total ps → (l : List ℕ) → Rises l → length l ≡ k → orders * counted (rise_above z b ps) (permutations k l) ≡ binomial (above b l) z * rest_orders
  above_counted zero b k e l r len = none_first (rise_above zero b ps) (λ w. refl) k (omega (arith, e)) l r len ∙ none_chosen (above b l)
  above_counted (suc z) b zero e l r len = absurd (omega (arith, e))
  above_counted (suc z) b (suc k) e l r len =
      by_first (rise_above (suc z) b ps) k l (λ p. where_above b p.first (binomial (above p.first p.others) z) * rest_orders)
      (λ p m. go p (nat_lt b p.first) refl (above_counted z p.first k (omega (arith, e)) p.others (picked_rises l r p m) (picked_length l k len p m)))
      ∙ summed_times (picks l) (λ p. where_above b p.first (binomial (above p.first p.others) z)) rest_orders
      ∙ ap (λ n. n * rest_orders) (sum_above b z l r)
    where
      go : (p : Pick) (d : Bool) → nat_lt b p.first ≡ d → orders * counted (rise_above z p.first ps) (permutations k p.others) ≡ binomial (above p.first p.others) z * rest_orders
          → orders * counted (λ w. cond (cond d (rises (p.first ∷ take z w)) false) (parts_rise ps (drop z w)) false) (permutations k p.others)
          ≡ cond d (binomial (above p.first p.others) z) 0 * rest_orders
      go p true f h = h
      go p false f h = ap (λ n. orders * n) (counted_none (permutations k p.others)) ∙ omega arith

  -- the first z numbers rise
  rising_counted : (z k : ℕ) → k ≡ z + total ps → (l : List ℕ) → Rises l → length l ≡ k → orders * counted (rise_first symmetric z ps) (permutations k l) ≡ binomial k z * rest_orders
  rising_counted zero k e l r len = none_first (rise_first symmetric zero ps) (λ w. refl) k (omega (arith, e)) l r len ∙ none_chosen k
  rising_counted (suc z) zero e l r len = absurd (omega (arith, e))
  rising_counted (suc z) (suc k) e l r len =
      by_first (rise_first symmetric (suc z) ps) k l (λ p. binomial (above p.first p.others) z * rest_orders)
      (λ p m. above_counted z p.first k (omega (arith, e)) p.others (picked_rises l r p m) (picked_length l k len p m))
      ∙ summed_times (picks l) (λ p. binomial (above p.first p.others) z) rest_orders
      ∙ ap (λ n. n * rest_orders) (sum_all z l r ∙ ap (λ n. binomial n (suc z)) len)

  -- the first z numbers stand in any order
  free_counted : (z k : ℕ) → k ≡ z + total ps → (l : List ℕ) → Rises l → length l ≡ k → orders * counted (rise_first free z ps) (permutations k l) ≡ factorial k
  free_counted zero k e l r len = none_first (rise_first free zero ps) (λ w. refl) k (omega (arith, e)) l r len ∙ let s : total ps ≡ k = omega (arith, e) in ap factorial s
  free_counted (suc z) zero e l r len = absurd (omega (arith, e))
  free_counted (suc z) (suc k) e l r len =
      by_first (rise_first free (suc z) ps) k l (λ p. factorial k)
      (λ p m. free_counted z k (omega (arith, e)) p.others (picked_rises l r p m) (picked_length l k len p m))
      ∙ summed_same (picks l) (factorial k)
      ∙ ap (λ n. n * factorial k) (length_picks l ∙ len)

  chosen_counted : (z k n : ℕ) → k ≡ z + total ps → orders * n ≡ binomial k z * rest_orders → factorial z * orders * n ≡ factorial k
  chosen_counted z k n e h =
      let wide : factorial z * (orders * n) ≡ factorial z * (binomial k z * rest_orders) = ap (λ m. factorial z * m) h in
      let whole : binomial k z * (factorial z * rest_orders) ≡ factorial k = chosen_orders z (total ps) k e in
      omega (arith, wide, whole)

  part_counted : (kind : Kind) (z k : ℕ) → k ≡ z + total ps → (l : List ℕ) → Rises l → length l ≡ k → kind_orders kind z * orders * counted (rise_first kind z ps) (permutations k l) ≡ factorial k
  part_counted symmetric z k e l r len = chosen_counted z k (counted (rise_first symmetric z ps) (permutations k l)) e (rising_counted z k e l r len)
  part_counted skew z k e l r len = chosen_counted z k (counted (rise_first skew z ps) (permutations k l)) e (rising_counted z k e l r len)
  part_counted free z k e l r len = let h = free_counted z k e l r len in omega (arith, h)

pub words_counted : (ps : List Part) → AreCounted ps
words_counted [] [] r e = refl
words_counted [] (x ∷ l) r e = absurd (omega (arith, e))
words_counted (p ∷ ps) l r e = part_counted ps (words_counted ps) p.kind p.size (total (p ∷ ps)) refl l r e
