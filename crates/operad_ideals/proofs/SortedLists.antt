-- Insertion sort by keys, and the sign of the permutation that sorts.
use Rattle.std.proofs.Common.{◌≡◌, ◌≢◌, ◌⊎◌, inl, inr, ⊎_elim, ℕ, zero, suc, ◌+◌, ◌<◌, ◌≤◌, cond, nat_lt, ◌==◌, List, [], ◌∷◌, length, map, take, drop, get_or, refl, sym, ap, ap₂, ◌∙◌, subst, arith, sum_by, count_by, IsPermutation, IsSortedByKey, nat_cmp, lt-ltb, le-ltb}
use Rattle.std.specs.List.{AllByRecursion}
use Rattle.std.proofs.lemmas.Bool.Decides.{nat_tests}
use Rattle.std.proofs.lemmas.List.Sums.{sum_by-cons}
use Rattle.std.proofs.lemmas.List.Elements.{recursion_from_All, All-from_recursion}
use Rattle.std.proofs.lemmas.List.Sorted.{All-permutation, IsPermutation-sym, sum_by-IsPermutation, IsNonDecreasingBy-from_sort}
use Rattle.modular_sums.specs.Lists.{Mem}
use Rattle.operad_ideals.specs.Parts.{Sign, plus, minus, times, sign_of}
use Rattle.operad_ideals.specs.Sorting.{put_by, sort_by, order_sign}
use Rattle.operad_ideals.proofs.Signs.{times_assoc, times_left_comm, times-inverse}

-- ---- lists of which each element has a property

pub every_weaker : {X : Type 0} (P Q : X → Type 0) (xs : List X) → ((x : X) → P x → Q x) → AllByRecursion P xs → AllByRecursion Q xs
every_weaker P Q [] f h = tt
every_weaker P Q (x ∷ xs) f h = (f x h.0, every_weaker P Q xs f h.1)

pub every_map : {X Y : Type 0} (f : X → Y) (P : Y → Type 0) (xs : List X) → AllByRecursion (λ x. P (f x)) xs → AllByRecursion P (map f xs)
every_map f P [] h = tt
every_map f P (x ∷ xs) h = (h.0, every_map f P xs h.1)

pub every_unmap : {X Y : Type 0} (f : X → Y) (P : Y → Type 0) (xs : List X) → AllByRecursion P (map f xs) → AllByRecursion (λ x. P (f x)) xs
every_unmap f P [] h = tt
every_unmap f P (x ∷ xs) h = (h.0, every_unmap f P xs h.1)

pub every_take : {X : Type 0} (P : X → Type 0) (n : ℕ) (xs : List X) → AllByRecursion P xs → AllByRecursion P (take n xs)
every_take P zero xs h = tt
every_take P (suc n) [] h = tt
every_take P (suc n) (x ∷ xs) h = (h.0, every_take P n xs h.1)

pub every_drop : {X : Type 0} (P : X → Type 0) (n : ℕ) (xs : List X) → AllByRecursion P xs → AllByRecursion P (drop n xs)
every_drop P zero xs h = h
every_drop P (suc n) [] h = tt
every_drop P (suc n) (x ∷ xs) h = every_drop P n xs h.1

-- ---- keys that are pairwise different, and keys that ascend

-- the keys are pairwise different
abbrev pub Apart : {X : Type 0} → (X → ℕ) → List X → Type 0
Apart key [] = Unit {0}
Apart key (x ∷ xs) = AllByRecursion (λ y. key x ≢ key y) xs × Apart key xs

-- each key is smaller than all keys behind it
abbrev pub Ascends : {X : Type 0} → (X → ℕ) → List X → Type 0
Ascends key [] = Unit {0}
Ascends key (x ∷ xs) = AllByRecursion (λ y. key x < key y) xs × Ascends key xs

pub apart-take : {X : Type 0} (key : X → ℕ) (n : ℕ) (xs : List X) → Apart key xs → Apart key (take n xs)
apart-take key zero xs h = tt
apart-take key (suc n) [] h = tt
apart-take key (suc n) (x ∷ xs) h = (every_take (λ y. key x ≢ key y) n xs h.0, apart-take key n xs h.1)

pub apart-drop : {X : Type 0} (key : X → ℕ) (n : ℕ) (xs : List X) → Apart key xs → Apart key (drop n xs)
apart-drop key zero xs h = h
apart-drop key (suc n) [] h = tt
apart-drop key (suc n) (x ∷ xs) h = apart-drop key n xs h.1

-- the keys themselves are pairwise different
pub apart-map : {X : Type 0} (key : X → ℕ) (xs : List X) → Apart key xs → Apart (λ n. n) (map key xs)
apart-map key [] h = tt
apart-map key (x ∷ xs) h = (every_map key (λ n. key x ≢ n) xs h.0, apart-map key xs h.1)

pub apart-unmap : {X : Type 0} (key : X → ℕ) (xs : List X) → Apart (λ n. n) (map key xs) → Apart key xs
apart-unmap key [] h = tt
apart-unmap key (x ∷ xs) h = (every_unmap key (λ n. key x ≢ n) xs h.0, apart-unmap key xs h.1)

-- from the keys that another function passes on
pub apart-from_map : {X Y : Type 0} (f : X → Y) (key : X → ℕ) (other : Y → ℕ) → ((x : X) → key x ≡ other (f x)) → (xs : List X) → Apart other (map f xs) → Apart key xs
apart-from_map f key other e [] h = tt
apart-from_map f key other e (x ∷ xs) h = (
  every_weaker (λ y. other (f x) ≢ other (f y)) (λ y. key x ≢ key y) xs (λ y d k. d (sym (e x) ∙ k ∙ e y)) (every_unmap f (λ z. other (f x) ≢ other z) xs h.0),
  apart-from_map f key other e xs h.1,
)

pub ascends-map : {X : Type 0} (key : X → ℕ) (xs : List X) → Ascends key xs → Ascends (λ n. n) (map key xs)
ascends-map key [] h = tt
ascends-map key (x ∷ xs) h = (every_map key (λ n. key x < n) xs h.0, ascends-map key xs h.1)

-- between `Apart` and the same fact of two places
pub apart-at : {X : Type 0} (key : X → ℕ) (xs : List X) → Apart key xs → (i j : ℕ) (d : X) → i < j → j < length xs → key (get_or xs i d) ≡ key (get_or xs j d) → ⊥
apart-at key [] h i j d l m e = absurd (omega (arith, m))
apart-at key (x ∷ xs) h i zero d l m e = absurd (omega (arith, l))
apart-at key (x ∷ xs) h zero (suc j) d l m e = All-from_recursion (λ y. key x ≢ key y) xs h.0 j d (omega (arith, m)) e
apart-at key (x ∷ xs) h (suc i) (suc j) d l m e = apart-at key xs h.1 i j d (omega (arith, l)) (omega (arith, m)) e

pub apart-from_at : {X : Type 0} (key : X → ℕ) (xs : List X) → ((i j : ℕ) (d : X) → i < j → j < length xs → key (get_or xs i d) ≡ key (get_or xs j d) → ⊥) → Apart key xs
apart-from_at key [] h = tt
apart-from_at key (x ∷ xs) h = (
  recursion_from_All (λ y. key x ≢ key y) xs (λ k d l. h 0 (suc k) d (omega arith) (omega (arith, l))),
  apart-from_at key xs (λ i j d l m. h (suc i) (suc j) d (omega (arith, l)) (omega (arith, m))),
)

-- between `Ascends` and the same fact of neighbours
pub ascends-from_neighbours : {X : Type 0} (key : X → ℕ) (xs : List X) → ((i : ℕ) → suc i < length xs → get_or (map key xs) i 0 < get_or (map key xs) (suc i) 0) → Ascends key xs
ascends-from_neighbours key [] h = tt
ascends-from_neighbours key (x ∷ []) h = (tt, tt)
ascends-from_neighbours key (x ∷ (y ∷ ys)) h =
    let first : key x < key y = h 0 (omega arith) in
    let others : Ascends key (y ∷ ys) = ascends-from_neighbours key (y ∷ ys) (λ i l. h (suc i) (omega (arith, l))) in
    ((first, every_weaker (λ z. key y < key z) (λ z. key x < key z) ys (λ z l. omega (arith, first, l)) others.0), others)

pub ascends-neighbours : {X : Type 0} (key : X → ℕ) (xs : List X) → Ascends key xs → (i : ℕ) → suc i < length xs → get_or (map key xs) i 0 < get_or (map key xs) (suc i) 0
ascends-neighbours key [] h i l = absurd (omega (arith, l))
ascends-neighbours key (x ∷ []) h i l = absurd (omega (arith, l))
ascends-neighbours key (x ∷ (y ∷ ys)) h zero l = h.0.0
ascends-neighbours key (x ∷ (y ∷ ys)) h (suc i) l = ascends-neighbours key (y ∷ ys) h.1 i (omega (arith, l))

-- ---- insertion

-- the two cases of an insertion
pub tested : (a b : ℕ) → (a < b) ⊎ (b ≤ a)
tested a b = grind arith

module _ {X : Type 0} (key : X → ℕ) where
  pub put_past : (x y : X) (ys : List X) → key y < key x → put_by key x (y ∷ ys) ≡ y ∷ put_by key x ys
  put_past x y ys h = ap (λ t. cond t (y ∷ put_by key x ys) (x ∷ (y ∷ ys))) (lt-ltb (key y) (key x) h)

  pub put_before : (x y : X) (ys : List X) → key x ≤ key y → put_by key x (y ∷ ys) ≡ x ∷ (y ∷ ys)
  put_before x y ys h = ap (λ t. cond t (y ∷ put_by key x ys) (x ∷ (y ∷ ys))) (le-ltb (key y) (key x) h)

  -- insertion keeps the other elements
  every_put : (P : X → Type 0) (x : X) (ys : List X) → P x → AllByRecursion P ys → AllByRecursion P (put_by key x ys)
  every_put P x [] p h = (p, tt)
  every_put P x (y ∷ ys) p h = ⊎_elim
      (λ l. subst (AllByRecursion P) (sym (put_past x y ys l)) (h.0, every_put P x ys p h.1))
      (λ l. subst (AllByRecursion P) (sym (put_before x y ys l)) (p, h))
      (tested (key y) (key x))

  every_unput : (P : X → Type 0) (x : X) (ys : List X) → AllByRecursion P (put_by key x ys) → P x × AllByRecursion P ys
  every_unput P x [] h = h
  every_unput P x (y ∷ ys) h = ⊎_elim
      (λ l.
      let k : P y × AllByRecursion P (put_by key x ys) = subst (AllByRecursion P) (put_past x y ys l) h in
      let r : P x × AllByRecursion P ys = every_unput P x ys k.1 in (r.0, (k.0, r.1)))
      (λ l. subst (AllByRecursion P) (put_before x y ys l) h)
      (tested (key y) (key x))

  -- what holds of each element holds of each element of the sorted list
  pub every_sort_by : (P : X → Type 0) (xs : List X) → AllByRecursion P xs → AllByRecursion P (sort_by key xs)
  every_sort_by P [] h = tt
  every_sort_by P (x ∷ xs) h = every_put P x (sort_by key xs) h.0 (every_sort_by P xs h.1)

  -- and back
  pub every_unsort : (P : X → Type 0) (xs : List X) → AllByRecursion P (sort_by key xs) → AllByRecursion P xs
  every_unsort P [] h = tt
  every_unsort P (x ∷ xs) h = let k : P x × AllByRecursion P (sort_by key xs) = every_unput P x (sort_by key xs) h in (k.0, every_unsort P xs k.1)

  length-put_by : (x : X) (ys : List X) → length (put_by key x ys) ≡ suc (length ys)
  length-put_by x [] = refl
  length-put_by x (y ∷ ys) = ⊎_elim
      (λ l. ap length (put_past x y ys l) ∙ ap suc (length-put_by x ys))
      (λ l. ap length (put_before x y ys l))
      (tested (key y) (key x))

  pub length-sort_by : (xs : List X) → length (sort_by key xs) ≡ length xs
  length-sort_by [] = refl
  length-sort_by (x ∷ xs) = length-put_by x (sort_by key xs) ∙ ap suc (length-sort_by xs)

  -- ---- the sorted list ascends, and an ascending list is sorted

  put_ascends : (x : X) (ys : List X) → AllByRecursion (λ y. key x ≢ key y) ys → Ascends key ys → Ascends key (put_by key x ys)
  put_ascends x [] d h = (tt, tt)
  put_ascends x (y ∷ ys) d h = ⊎_elim
      (λ l. subst (Ascends key) (sym (put_past x y ys l)) (every_put (λ z. key y < key z) x ys l h.0, put_ascends x ys d.1 h.1))
      (λ l.
      let less : key x < key y = omega (arith, l, d.0) in
      subst (Ascends key) (sym (put_before x y ys l)) ((less, every_weaker (λ z. key y < key z) (λ z. key x < key z) ys (λ z m. omega (arith, m, less)) h.0), h))
      (tested (key y) (key x))

  -- the sorted list ascends where the keys are pairwise different
  pub sort_by-ascends : (xs : List X) → Apart key xs → Ascends key (sort_by key xs)
  sort_by-ascends [] h = tt
  sort_by-ascends (x ∷ xs) h = put_ascends x (sort_by key xs) (every_sort_by (λ y. key x ≢ key y) xs h.0) (sort_by-ascends xs h.1)

  put_least : (x : X) (ys : List X) → AllByRecursion (λ y. key x < key y) ys → put_by key x ys ≡ x ∷ ys
  put_least x [] h = refl
  put_least x (y ∷ ys) h = put_before x y ys (omega (arith, h.0))

  -- an ascending list stays
  pub sort_by-same : (xs : List X) → Ascends key xs → sort_by key xs ≡ xs
  sort_by-same [] h = refl
  sort_by-same (x ∷ xs) h = ap (put_by key x) (sort_by-same xs h.1) ∙ put_least x xs h.0

  -- ---- an exchange of two neighbours doesn't change the sorted list

  -- two insertions in a row: their order is of no account where the keys differ
  put_two_at : (x y z : X) (zs : List X) → key x < key y → (key z < key x) ⊎ (key x ≤ key z) → (key z < key y) ⊎ (key y ≤ key z)
      → put_by key x (put_by key y zs) ≡ put_by key y (put_by key x zs) → put_by key x (put_by key y (z ∷ zs)) ≡ put_by key y (put_by key x (z ∷ zs))
  put_two_at x y z zs l (inl a) (inl b) e =
      ap (put_by key x) (put_past y z zs b) ∙ put_past x z (put_by key y zs) a ∙ ap (λ r. z ∷ r) e ∙ sym (put_past y z (put_by key x zs) b) ∙ ap (put_by key y) (sym (put_past x z zs a))
  put_two_at x y z zs l (inl a) (inr b) e = absurd (omega (arith, a, b, l))
  put_two_at x y z zs l (inr a) (inl b) e =
      ap (put_by key x) (put_past y z zs b) ∙ put_before x z (put_by key y zs) a ∙ ap (λ r. x ∷ r) (sym (put_past y z zs b)) ∙ sym (put_past y x (z ∷ zs) l) ∙ ap (put_by key y) (sym (put_before x z zs a))
  put_two_at x y z zs l (inr a) (inr b) e =
      let le : key x ≤ key y = omega (arith, l) in
      ap (put_by key x) (put_before y z zs b) ∙ put_before x y (z ∷ zs) le ∙ ap (λ r. x ∷ r) (sym (put_before y z zs b)) ∙ sym (put_past y x (z ∷ zs) l) ∙ ap (put_by key y) (sym (put_before x z zs a))

  put_two : (x y : X) (zs : List X) → key x < key y → put_by key x (put_by key y zs) ≡ put_by key y (put_by key x zs)
  put_two x y [] l = put_before x y [] (omega (arith, l)) ∙ sym (put_past y x [] l)
  put_two x y (z ∷ zs) l = put_two_at x y z zs l (tested (key z) (key x)) (tested (key z) (key y)) (put_two x y zs l)

  put_either : (x y : X) (zs : List X) → key x ≢ key y → put_by key x (put_by key y zs) ≡ put_by key y (put_by key x zs)
  put_either x y zs d = ⊎_elim (λ l. put_two x y zs l) (λ l. sym (put_two y x zs (omega (arith, l, d)))) (tested (key x) (key y))

-- the list with the elements at i and i + 1 exchanged
abbrev pub exchange : {X : Type 0} → ℕ → List X → List X
exchange zero [] = []
exchange zero (x ∷ []) = x ∷ []
exchange zero (x ∷ (y ∷ ys)) = y ∷ (x ∷ ys)
exchange (suc i) [] = []
exchange (suc i) (x ∷ xs) = x ∷ exchange i xs

pub exchange-map : {X Y : Type 0} (f : X → Y) (i : ℕ) (xs : List X) → map f (exchange i xs) ≡ exchange i (map f xs)
exchange-map f zero [] = refl
exchange-map f zero (x ∷ []) = refl
exchange-map f zero (x ∷ (y ∷ ys)) = refl
exchange-map f (suc i) [] = refl
exchange-map f (suc i) (x ∷ xs) = ap (λ ys. f x ∷ ys) (exchange-map f i xs)

pub length-exchange : {X : Type 0} (i : ℕ) (xs : List X) → length (exchange i xs) ≡ length xs
length-exchange zero [] = refl
length-exchange zero (x ∷ []) = refl
length-exchange zero (x ∷ (y ∷ ys)) = refl
length-exchange (suc i) [] = refl
length-exchange (suc i) (x ∷ xs) = ap suc (length-exchange i xs)

-- the sorted list is the same where two neighbours are exchanged
pub sort_by-exchange : {X : Type 0} (key : X → ℕ) (i : ℕ) (xs : List X) → Apart key xs → sort_by key (exchange i xs) ≡ sort_by key xs
sort_by-exchange key zero [] h = refl
sort_by-exchange key zero (x ∷ []) h = refl
sort_by-exchange key zero (x ∷ (y ∷ ys)) h = sym (put_either key x y (sort_by key ys) h.0.0)
sort_by-exchange key (suc i) [] h = refl
sort_by-exchange key (suc i) (x ∷ xs) h = ap (put_by key x) (sort_by-exchange key i xs h.1)

-- ---- the sign of the permutation that sorts

sum_by-exchange : {X : Type 0} (f : X → ℕ) (i : ℕ) (xs : List X) → sum_by f (exchange i xs) ≡ sum_by f xs
sum_by-exchange f zero [] = refl
sum_by-exchange f zero (x ∷ []) = refl
sum_by-exchange f zero (x ∷ (y ∷ ys)) = simp sum_by-cons (omega arith)
sum_by-exchange f (suc i) [] = refl
sum_by-exchange f (suc i) (x ∷ xs) = simp (sum_by-cons, sum_by-exchange f i xs)

-- how many of these numbers are below k
abbrev pub below : ℕ → List ℕ → ℕ
below k ks = count_by (λ m. nat_lt m k) ks

pub below_less : (k m : ℕ) (ks : List ℕ) → m < k → below k (m ∷ ks) ≡ suc (below k ks)
below_less k m ks l = sum_by-cons (λ n. cond (nat_lt n k) 1 0) m ks ∙ ap (λ t. cond t 1 0 + below k ks) (lt-ltb m k l) ∙ omega arith

pub below_more : (k m : ℕ) (ks : List ℕ) → k ≤ m → below k (m ∷ ks) ≡ below k ks
below_more k m ks l = sum_by-cons (λ n. cond (nat_lt n k) 1 0) m ks ∙ ap (λ t. cond t 1 0 + below k ks) (le-ltb m k l) ∙ omega arith

-- the factors of the first two numbers, a < b, in both orders
first_two : (a b : ℕ) (ks : List ℕ) (s : Sign) → a < b
    → times (sign_of (below a (b ∷ ks))) (times (sign_of (below b ks)) s) ≡ times minus (times (sign_of (below b (a ∷ ks))) (times (sign_of (below a ks)) s))
first_two a b ks s l =
    ap (λ n. times (sign_of n) (times (sign_of (below b ks)) s)) (below_more a b ks (omega (arith, l)))
    ∙ times_left_comm (sign_of (below a ks)) (sign_of (below b ks)) s
    ∙ sym (times-inverse minus (times (sign_of (below b ks)) (times (sign_of (below a ks)) s)))
    ∙ ap (times minus) (sym (times_assoc minus (sign_of (below b ks)) (times (sign_of (below a ks)) s)))
    ∙ ap (λ n. times minus (times (sign_of n) (times (sign_of (below a ks)) s))) (sym (below_less b a ks l))

-- an exchange of two neighbours turns the sign
pub order_sign-exchange : (i : ℕ) (ks : List ℕ) → Apart (λ n. n) ks → suc i < length ks → order_sign ks ≡ times minus (order_sign (exchange i ks))
order_sign-exchange zero [] h l = absurd (omega (arith, l))
order_sign-exchange zero (a ∷ []) h l = absurd (omega (arith, l))
order_sign-exchange zero (a ∷ (b ∷ ks)) h l = ⊎_elim
    (λ m. first_two a b ks (order_sign ks) m)
    (λ m. sym (ap (times minus) (first_two b a ks (order_sign ks) (omega (arith, m, h.0.0))) ∙ times-inverse minus (order_sign (a ∷ (b ∷ ks)))))
    (tested a b)
order_sign-exchange (suc i) [] h l = absurd (omega (arith, l))
order_sign-exchange (suc i) (k ∷ ks) h l =
    ap (times (sign_of (below k ks))) (order_sign-exchange i ks h.1 (omega (arith, l)))
    ∙ times_left_comm (sign_of (below k ks)) minus (order_sign (exchange i ks))
    ∙ ap (λ n. times minus (times (sign_of n) (order_sign (exchange i ks)))) (sym (sum_by-exchange (λ m. cond (nat_lt m k) 1 0) i ks))

pub below_none : (k : ℕ) (ks : List ℕ) → AllByRecursion (λ m. k < m) ks → below k ks ≡ 0
below_none k [] h = refl
below_none k (m ∷ ks) h = below_more k m ks (omega (arith, h.0)) ∙ below_none k ks h.1

-- the sign of an ascending list is plus
pub order_sign-ascending : (ks : List ℕ) → Ascends (λ n. n) ks → order_sign ks ≡ plus
order_sign-ascending [] h = refl
order_sign-ascending (k ∷ ks) h = ap (λ n. times (sign_of n) (order_sign ks)) (below_none k ks h.0) ∙ order_sign-ascending ks h.1

-- ---- sorting by keys that another function passes on

map-put_by : {X Y : Type 0} (f : X → Y) (key : X → ℕ) (other : Y → ℕ) → ((x : X) → key x ≡ other (f x)) → (x : X) (ys : List X) → map f (put_by key x ys) ≡ put_by other (f x) (map f ys)
map-put_by f key other e x [] = refl
map-put_by f key other e x (y ∷ ys) = ⊎_elim
    (λ l. ap (map f) (put_past key x y ys l) ∙ ap (λ zs. f y ∷ zs) (map-put_by f key other e x ys) ∙ sym (put_past other (f x) (f y) (map f ys) (omega (arith, e x, e y, l))))
    (λ l. ap (map f) (put_before key x y ys l) ∙ sym (put_before other (f x) (f y) (map f ys) (omega (arith, e x, e y, l))))
    (tested (key y) (key x))

pub map-sort_by : {X Y : Type 0} (f : X → Y) (key : X → ℕ) (other : Y → ℕ) → ((x : X) → key x ≡ other (f x)) → (xs : List X) → map f (sort_by key xs) ≡ sort_by other (map f xs)
map-sort_by f key other e [] = refl
map-sort_by f key other e (x ∷ xs) = map-put_by f key other e x (sort_by key xs) ∙ ap (put_by other (f x)) (map-sort_by f key other e xs)

-- ---- a sorted permutation is the sorted list

pub in_itself : {X : Type 0} (xs : List X) → AllByRecursion (λ z. Mem z xs) xs
in_itself [] = tt
in_itself (x ∷ xs) = (inl refl, every_weaker (λ z. Mem z xs) (λ z. Mem z (x ∷ xs)) xs (λ z h. inr h) (in_itself xs))

pub every_in : {X : Type 0} (P : X → Type 0) (xs : List X) (z : X) → AllByRecursion P xs → Mem z xs → P z
every_in P [] z h k = absurd k
every_in P (x ∷ xs) z h (inl e) = subst P (sym e) h.0
every_in P (x ∷ xs) z h (inr k) = every_in P xs z h.1 k

-- what is above x and stands in x ∷ xs stands in xs
in_rest : {X : Type 0} (key : X → ℕ) (x : X) (xs zs : List X) → AllByRecursion (λ z. key x < key z) zs → AllByRecursion (λ z. Mem z (x ∷ xs)) zs → AllByRecursion (λ z. Mem z xs) zs
in_rest key x xs [] l h = tt
in_rest key x xs (z ∷ zs) l h = (⊎_elim (λ e. let same : key z ≡ key x = ap key e in absurd (omega (arith, same, l.0))) (λ k. k) h.0, in_rest key x xs zs l.1 h.1)

-- two ascending lists with the same elements are equal
ascending_same : {X : Type 0} (key : X → ℕ) (xs ys : List X) → Ascends key xs → Ascends key ys → AllByRecursion (λ z. Mem z ys) xs → AllByRecursion (λ z. Mem z xs) ys → xs ≡ ys
ascending_same key [] [] a b h k = refl
ascending_same key [] (y ∷ ys) a b h k = absurd k.0
ascending_same key (x ∷ xs) [] a b h k = absurd h.0
ascending_same key (x ∷ xs) (y ∷ ys) a b h k =
    let first : x ≡ y = ⊎_elim (λ e. e)
    (λ m. ⊎_elim (λ e. sym e) (λ n. absurd (omega (arith, every_in (λ z. key y < key z) ys x b.0 m, every_in (λ z. key x < key z) xs y a.0 n))) k.0) h.0 in
    let above : AllByRecursion (λ z. key y < key z) xs = subst (λ w. AllByRecursion (λ z. key w < key z) xs) first a.0 in
    let above_too : AllByRecursion (λ z. key x < key z) ys = subst (λ w. AllByRecursion (λ z. key w < key z) ys) (sym first) b.0 in
    ap₂ (λ w ws. w ∷ ws) first (ascending_same key xs ys a.1 b.1 (in_rest key y ys xs above h.1) (in_rest key x xs ys above_too k.1))

-- 1 where the numbers are equal
abbrev one_if_equal : ℕ → ℕ → ℕ
one_if_equal a n = cond (a == n) 1 0

-- 1 where the key of x is n
abbrev one_at : {X : Type 0} → (X → ℕ) → ℕ → X → ℕ
one_at key n x = one_if_equal (key x) n

equal_or_not : (a n : ℕ) → ((a ≡ n) × (one_if_equal a n ≡ 1)) ⊎ ((a ≢ n) × (one_if_equal a n ≡ 0))
equal_or_not a n = grind (arith, nat_tests)

none_at : {X : Type 0} (key : X → ℕ) (n : ℕ) (xs : List X) → AllByRecursion (λ y. n ≢ key y) xs → sum_by (one_at key n) xs ≡ 0
none_at key n [] h = refl
none_at key n (x ∷ xs) h = sum_by-cons (one_at key n) x xs ∙ ⊎_elim
    (λ e. absurd (h.0 (sym e.0)))
    (λ e. omega (arith, e.1, none_at key n xs h.1)) (equal_or_not (key x) n)

-- keys that are pairwise different: each number is the key of one element at most
once_at : {X : Type 0} (key : X → ℕ) (xs : List X) → Apart key xs → (n : ℕ) → sum_by (one_at key n) xs ≤ 1
once_at key [] h n = omega arith
once_at key (x ∷ xs) h n = rw (sum_by-cons (one_at key n) x xs) (⊎_elim
    (λ e.
    let none : sum_by (one_at key n) xs ≡ 0 = none_at key n xs (subst (λ m. AllByRecursion (λ y. m ≢ key y) xs) e.0 h.0) in
    omega (arith, e.1, none))
    (λ e. omega (arith, e.1, once_at key xs h.1 n)) (equal_or_not (key x) n))

apart_none : {X : Type 0} (key : X → ℕ) (n : ℕ) (xs : List X) → sum_by (one_at key n) xs ≡ 0 → AllByRecursion (λ y. n ≢ key y) xs
apart_none key n [] h = tt
apart_none key n (x ∷ xs) h =
    let both : one_at key n x + sum_by (one_at key n) xs ≡ 0 = sym (sum_by-cons (one_at key n) x xs) ∙ h in
    ((λ e. absurd (grind (arith, nat_tests))), apart_none key n xs (omega (arith, both)))

apart_once : {X : Type 0} (key : X → ℕ) (xs : List X) → ((n : ℕ) → sum_by (one_at key n) xs ≤ 1) → Apart key xs
apart_once key [] h = tt
apart_once key (x ∷ xs) h =
    let both : (n : ℕ) → one_at key n x + sum_by (one_at key n) xs ≤ 1 = λ n. subst (λ m. m ≤ 1) (sum_by-cons (one_at key n) x xs) (h n) in
    let here : one_at key (key x) x ≡ 1 = ⊎_elim (λ e. e.1) (λ e. absurd (e.0 refl)) (equal_or_not (key x) (key x)) in
    (apart_none key (key x) xs (omega (arith, both (key x), here)), apart_once key xs (λ n. omega (arith, both n)))

-- a permutation of pairwise different keys
pub apart-permutation : {X : Type 0} (key : X → ℕ) (xs ys : List X) → IsPermutation xs ys → Apart key xs → Apart key ys
apart-permutation key xs ys p h = apart_once key ys (λ n. rw (sum_by-IsPermutation (one_at key n) xs ys p) (once_at key xs h n))

ascends_from_at : {X : Type 0} (key : X → ℕ) (xs : List X) → ((i j : ℕ) (d : X) → i < j → j < length xs → key (get_or xs i d) < key (get_or xs j d)) → Ascends key xs
ascends_from_at key [] h = tt
ascends_from_at key (x ∷ xs) h = (
  recursion_from_All (λ y. key x < key y) xs (λ k d l. h 0 (suc k) d (omega arith) (omega (arith, l))),
  ascends_from_at key xs (λ i j d l m. h (suc i) (suc j) d (omega (arith, l)) (omega (arith, m))),
)

-- what a sort ensures, where the keys are pairwise different
pub sorted-permutation_apart : {X : Type 0} (key : X → ℕ) (xs ys : List X) → IsPermutation xs ys → IsSortedByKey key nat_cmp ys → Apart key xs → ys ≡ sort_by key xs
sorted-permutation_apart key xs ys p s h =
    let apart : Apart key ys = apart-permutation key xs ys p h in
    let up : Ascends key ys = ascends_from_at key ys (λ i j d l m. omega (arith, IsNonDecreasingBy-from_sort key ys s i j d (omega (arith, l)) m, apart-at key ys apart i j d l m)) in
    let there : AllByRecursion (λ z. Mem z (sort_by key xs)) ys = recursion_from_All (λ z. Mem z (sort_by key xs)) ys
    (All-permutation (λ z. Mem z (sort_by key xs)) xs ys p (All-from_recursion (λ z. Mem z (sort_by key xs)) xs (every_unsort key (λ z. Mem z (sort_by key xs)) xs (in_itself (sort_by key xs))))) in
    let back : AllByRecursion (λ z. Mem z ys) (sort_by key xs) = every_sort_by key (λ z. Mem z ys) xs (recursion_from_All (λ z. Mem z ys) xs
    (All-permutation (λ z. Mem z ys) ys xs (IsPermutation-sym xs ys p) (All-from_recursion (λ z. Mem z ys) ys (in_itself ys)))) in
    ascending_same key ys (sort_by key xs) up (sort_by-ascends key xs h) there back

pub sorted-permutation : {X : Type 0} (key : X → ℕ) (xs ys : List X) → IsPermutation xs ys → IsSortedByKey key nat_cmp ys
    → ((i j : ℕ) (d : X) → i < j → j < length xs → key (get_or xs i d) ≡ key (get_or xs j d) → ⊥) → ys ≡ sort_by key xs
sorted-permutation key xs ys p s h = sorted-permutation_apart key xs ys p s (apart-from_at key xs h)
