-- A list is its sorted list, arranged by the ranks of its keys.
use Rattle.std.proofs.Common.{◌≡◌, ◌≢◌, inl, inr, ⊎_elim, ℕ, zero, suc, ◌+◌, ◌<◌, ◌≤◌, List, [], ◌∷◌, map, length, refl, sym, ap, ap₂, ◌∙◌, subst, arith}
use mathlib.Core.List.{◌++◌}
use Rattle.std.specs.List.{AllByRecursion}
use Rattle.std.proofs.Math.ListN.{length-map}
use Rattle.std.proofs.lemmas.List.{map-append, map-id}
use Rattle.std.proofs.lemmas.Simd.{map-map}
use Rattle.modular_sums.specs.Lists.{Mem, Distinct, Rises}
use Rattle.modular_sums.proofs.Lists.{mem_of_map, same_rising}
use Rattle.labelled_trees.specs.Trees.{Tree}
use Rattle.labelled_trees.specs.Insertions.{item}
use Rattle.shuffle_insertions.specs.Listing.{upto}
use Rattle.shuffle_insertions.proofs.Upto.{upto_mem, upto_rises, in_upto}
use Rattle.operad_ideals.specs.Sorting.{put_by, sort_by}
use Rattle.operad_ideals.proofs.SortedLists.{Apart, Ascends, every_weaker, tested, put_past, put_before, every_in, in_itself, every_unsort, every_sort_by, sort_by-ascends, map-sort_by, below, below_less, below_more, below_none}
use Rattle.operad_ideals.proofs.SameOrder.{sort_by-order, below-order}
use Rattle.shuffle_transfer.specs.Orderings.{IsOrdering}
use Rattle.shuffle_transfer.specs.ShuffleForms.{ranks}
use Rattle.shuffle_transfer.proofs.Permutes.{permutes_each}
use Rattle.shuffle_transfer.proofs.Orderings.{ordering_permutes}

-- ---- members

pub every_mem : {X : Type 0} (P : X → Type 0) (xs : List X) → ((x : X) → Mem x xs → P x) → AllByRecursion P xs
every_mem P [] h = tt
every_mem P (x ∷ xs) h = (h x (inl refl), every_mem P xs (λ y m. h y (inr m)))

pub mem_sort : {X : Type 0} (key : X → ℕ) (xs : List X) (x : X) → Mem x xs → Mem x (sort_by key xs)
mem_sort key xs x m = every_in (λ z. Mem z (sort_by key xs)) xs x (every_unsort key (λ z. Mem z (sort_by key xs)) xs (in_itself (sort_by key xs))) m

pub sort_mem : {X : Type 0} (key : X → ℕ) (xs : List X) (x : X) → Mem x (sort_by key xs) → Mem x xs
sort_mem key xs x m = every_in (λ z. Mem z xs) (sort_by key xs) x (every_sort_by key (λ z. Mem z xs) xs (in_itself xs)) m

pub map_same : {X Y : Type 0} (f g : X → Y) (xs : List X) → ((x : X) → Mem x xs → f x ≡ g x) → map f xs ≡ map g xs
map_same f g [] h = refl
map_same f g (x ∷ xs) h = ap₂ (λ y ys. y ∷ ys) (h x (inl refl)) (map_same f g xs (λ y m. h y (inr m)))

-- ---- how many keys are smaller

below_put : {X : Type 0} (key : X → ℕ) (k : ℕ) (x : X) (ys : List X) → below k (map key (put_by key x ys)) ≡ below k (key x ∷ map key ys)
below_put key k x [] = refl
below_put key k x (y ∷ ys) = ⊎_elim
    (λ l. ap (λ zs. below k (map key zs)) (put_past key x y ys l) ∙ both (below_put key k x ys))
    (λ l. ap (λ zs. below k (map key zs)) (put_before key x y ys l))
    (tested (key y) (key x))
  where
    both : below k (map key (put_by key x ys)) ≡ below k (key x ∷ map key ys) → below k (key y ∷ map key (put_by key x ys)) ≡ below k (key x ∷ (key y ∷ map key ys))
    both e = ⊎_elim
        (λ a. below_less k (key y) (map key (put_by key x ys)) a ∙ ap suc e ∙ ⊎_elim
        (λ b. ap suc (below_less k (key x) (map key ys) b) ∙ sym (below_less k (key x) (key y ∷ map key ys) b ∙ ap suc (below_less k (key y) (map key ys) a)))
        (λ b. ap suc (below_more k (key x) (map key ys) b) ∙ sym (below_more k (key x) (key y ∷ map key ys) b ∙ below_less k (key y) (map key ys) a)) (tested (key x) k))
        (λ a. below_more k (key y) (map key (put_by key x ys)) a ∙ e ∙ ⊎_elim
        (λ b. below_less k (key x) (map key ys) b ∙ sym (below_less k (key x) (key y ∷ map key ys) b ∙ ap suc (below_more k (key y) (map key ys) a)))
        (λ b. below_more k (key x) (map key ys) b ∙ sym (below_more k (key x) (key y ∷ map key ys) b ∙ below_more k (key y) (map key ys) a)) (tested (key x) k))
        (tested (key y) k)

pub below_cons : (k x : ℕ) (ks ls : List ℕ) → below k ks ≡ below k ls → below k (x ∷ ks) ≡ below k (x ∷ ls)
below_cons k x ks ls e = ⊎_elim
    (λ l. below_less k x ks l ∙ ap suc e ∙ sym (below_less k x ls l))
    (λ l. below_more k x ks l ∙ e ∙ sym (below_more k x ls l)) (tested x k)

pub below_sort : {X : Type 0} (key : X → ℕ) (k : ℕ) (xs : List X) → below k (map key (sort_by key xs)) ≡ below k (map key xs)
below_sort key k [] = refl
below_sort key k (x ∷ xs) = below_put key k x (sort_by key xs) ∙ below_cons k (key x) (map key (sort_by key xs)) (map key xs) (below_sort key k xs)

below_le : (k : ℕ) (ks : List ℕ) → below k ks ≤ length ks
below_le k [] = omega arith
below_le k (m ∷ ks) = ⊎_elim (λ l. omega (arith, below_less k m ks l, below_le k ks)) (λ l. omega (arith, below_more k m ks l, below_le k ks)) (tested m k)

-- one that stands in the list isn't below itself
pub below_lt : (k : ℕ) (ks : List ℕ) → Mem k ks → below k ks < length ks
below_lt k [] m = absurd m
below_lt k (x ∷ ks) (inl e) = omega (arith, below_more k x ks (omega (arith, e)), below_le k ks)
below_lt k (x ∷ ks) (inr m) = ⊎_elim (λ l. omega (arith, below_less k x ks l, below_lt k ks m)) (λ l. omega (arith, below_more k x ks l, below_lt k ks m)) (tested x k)

pub below_mono : (k l : ℕ) (ks : List ℕ) → k ≤ l → below k ks ≤ below l ks
below_mono k l [] h = omega arith
below_mono k l (m ∷ ks) h = ⊎_elim
    (λ a. omega (arith, below_less k m ks a, below_less l m ks (omega (arith, a, h)), below_mono k l ks h))
    (λ a. ⊎_elim (λ b. omega (arith, below_more k m ks a, below_less l m ks b, below_mono k l ks h)) (λ b. omega (arith, below_more k m ks a, below_more l m ks b, below_mono k l ks h)) (tested m l)) (tested m k)

-- a number of the list is counted below a greater one
pub below_less_mem : (k l : ℕ) (ks : List ℕ) → k < l → Mem k ks → below k ks < below l ks
below_less_mem k l [] h m = absurd m
below_less_mem k l (x ∷ ks) h (inl e) = omega (arith, below_more k x ks (omega (arith, e)), below_less l x ks (omega (arith, e, h)), below_mono k l ks (omega (arith, h)))
below_less_mem k l (x ∷ ks) h (inr m) = ⊎_elim
    (λ a. omega (arith, below_less k x ks a, below_less l x ks (omega (arith, a, h)), below_less_mem k l ks h m))
    (λ a. ⊎_elim (λ b. omega (arith, below_more k x ks a, below_less l x ks b, below_less_mem k l ks h m)) (λ b. omega (arith, below_more k x ks a, below_more l x ks b, below_less_mem k l ks h m)) (tested x l)) (tested x k)

-- ---- the item with the rank of a key

item_rank : (key : Tree ℕ → ℕ) (ts : List (Tree ℕ)) (x : Tree ℕ) → Ascends key ts → Mem x ts → item ts (suc (below (key x) (map key ts))) ≡ x
item_rank key [] x h m = absurd m
item_rank key (t ∷ ts) x h (inl e) =
    let k : key x ≡ key t = ap key e in
    let none : below (key x) (map key ts) ≡ 0 = below_none (key x) (map key ts) (above key (key x) ts (every_weaker (λ y. key t < key y) (λ y. key x < key y) ts (λ y l. omega (arith, k, l)) h.0)) in
    let z : below (key x) (key t ∷ map key ts) ≡ 0 = below_more (key x) (key t) (map key ts) (omega (arith, k)) ∙ none in
    ap (λ n. item (t ∷ ts) (suc n)) z ∙ sym e
  where
    above : (key : Tree ℕ → ℕ) (k : ℕ) (ts : List (Tree ℕ)) → AllByRecursion (λ y. k < key y) ts → AllByRecursion (λ m. k < m) (map key ts)
    above key k [] h = tt
    above key k (t ∷ ts) h = (h.0, above key k ts h.1)
item_rank key (t ∷ ts) x h (inr m) =
    let l : key t < key x = every_in (λ y. key t < key y) ts x h.0 m in
    ap (λ n. item (t ∷ ts) (suc n)) (below_less (key x) (key t) (map key ts) l) ∙ item_rank key ts x h.1 m

-- a list is its sorted list, arranged by the ranks of its keys
pub arranged_back : (key : Tree ℕ → ℕ) (ts : List (Tree ℕ)) → Apart key ts → map (item (sort_by key ts)) (ranks (map key ts)) ≡ ts
arranged_back key ts h =
    map-map (item (sort_by key ts)) (λ k. suc (below k (map key ts))) (map key ts)
    ∙ map-map (λ k. item (sort_by key ts) (suc (below k (map key ts)))) key ts
    ∙ map_same (λ t. item (sort_by key ts) (suc (below (key t) (map key ts)))) (λ t. t) ts
    (λ t m. ap (λ n. item (sort_by key ts) (suc n)) (sym (below_sort key (key t) ts)) ∙ item_rank key (sort_by key ts) t (sort_by-ascends key ts h) (mem_sort key ts t m))
    ∙ map-id ts

-- ---- the ranks are a permutation

distinct_map : {X : Type 0} (f : X → ℕ) (xs : List X) → ((x y : X) → Mem x xs → Mem y xs → f x ≡ f y → x ≡ y) → Distinct xs → Distinct (map f xs)
distinct_map f [] h d = tt
distinct_map f (x ∷ xs) h d = (
  λ m. let k = mem_of_map f (f x) xs m in d.0 (subst (λ z. Mem z xs) (sym (h x k.0 (inl refl) (inr k.1) k.2)) k.1),
  distinct_map f xs (λ y z a b. h y z (inr a) (inr b)) d.1,
)

apart_distinct : {X : Type 0} (key : X → ℕ) (xs : List X) → Apart key xs → Distinct (map key xs)
apart_distinct key [] h = tt
apart_distinct key (x ∷ xs) h = (λ m. let k = mem_of_map key (key x) xs m in every_in (λ y. key x ≢ key y) xs k.0 h.0 k.1 k.2, apart_distinct key xs h.1)

pub ranks_ordering : {X : Type 0} (key : X → ℕ) (xs : List X) → Apart key xs → IsOrdering (length xs) (ranks (map key xs))
ranks_ordering key xs h = record {
  length_is = length-map (map key xs) (λ k. suc (below k (map key xs))) ∙ length-map xs key;
  within = λ u m.
      let k = mem_of_map (λ k. suc (below k (map key xs))) u (map key xs) m in
      let l : below k.0 (map key xs) < length (map key xs) = below_lt k.0 (map key xs) k.1 in
      let e : u ≡ suc (below k.0 (map key xs)) = k.2 in
      (omega (arith, e), omega (arith, e, l, length-map xs key));
  distinct = distinct_map (λ k. suc (below k (map key xs))) (map key xs) (λ k l a b e. one k l a b e) (apart_distinct key xs h);
}
  where
    one : (k l : ℕ) → Mem k (map key xs) → Mem l (map key xs) → suc (below k (map key xs)) ≡ suc (below l (map key xs)) → k ≡ l
    one k l a b e = ⊎_elim
        (λ lt. absurd (omega (arith, e, below_less_mem k l (map key xs) lt a)))
        (λ le. ⊎_elim (λ lt. absurd (omega (arith, e, below_less_mem l k (map key xs) lt b))) (λ ge. omega (arith, le, ge)) (tested l k)) (tested k l)

-- keys that stand in one order have one list of ranks
pub ranks-order : {X : Type 0} (P : X → Type 0) (key other : X → ℕ) → ((x y : X) → P x → P y → key x < key y → other x < other y) → ((x y : X) → P x → P y → other x < other y → key x < key y)
    → (xs : List X) → AllByRecursion P xs → ranks (map key xs) ≡ ranks (map other xs)
ranks-order P key other up down xs h =
    map-map (λ k. suc (below k (map key xs))) key xs
    ∙ map_same (λ x. suc (below (key x) (map key xs))) (λ x. suc (below (other x) (map other xs))) xs (λ x m. ap suc (below-order P key other up down x xs (every_in P xs x h m) h))
    ∙ sym (map-map (λ k. suc (below k (map other xs))) other xs)

-- ---- permutations of 1 to m

upto_first : (n : ℕ) → upto (suc n) ≡ 1 ∷ map suc (upto n)
upto_first zero = refl
upto_first (suc n) = ap (λ l. l ++ (suc (suc n) ∷ [])) (upto_first n) ∙ ap (λ l. 1 ∷ l) (sym (map-append suc (upto n) (suc n ∷ [])))

-- the i-th items, for i from 1 to as many as there are
pub items_all : (ts : List (Tree ℕ)) → map (item ts) (upto (length ts)) ≡ ts
items_all [] = refl
items_all (t ∷ ts) =
    ap (map (item (t ∷ ts))) (upto_first (length ts))
    ∙ ap (λ us. t ∷ us) (map-map (item (t ∷ ts)) suc (upto (length ts)) ∙ map_same (λ i. item (t ∷ ts) (suc i)) (item ts) (upto (length ts)) (λ i m. at i (upto_mem (length ts) i m).0) ∙ items_all ts)
  where
    at : (i : ℕ) → 0 < i → item (t ∷ ts) (suc i) ≡ item ts i
    at zero l = absurd (omega arith)
    at (suc i) l = refl

ascends_rises : (ks : List ℕ) → Ascends (λ n. n) ks → Rises ks
ascends_rises [] h = tt
ascends_rises (k ∷ ks) h = (λ u m. every_in (λ n. k < n) ks u h.0 m, ascends_rises ks h.1)

pub ordering_apart : (v : List ℕ) → Distinct v → Apart (λ n. n) v
ordering_apart [] h = tt
ordering_apart (x ∷ v) h = (every_mem (λ y. x ≢ y) v (λ y m e. h.0 (subst (λ z. Mem z v) (sym e) m)), ordering_apart v h.1)

pub sort-ordering : (m : ℕ) (v : List ℕ) → IsOrdering m v → sort_by (λ n. n) v ≡ upto m
sort-ordering m v h = same_rising (sort_by (λ n. n) v) (upto m) (ascends_rises (sort_by (λ n. n) v) (sort_by-ascends (λ n. n) v (ordering_apart v h.distinct))) (upto_rises m)
    (λ u i. let w = h.within u (sort_mem (λ n. n) v u i) in in_upto m u w.0 w.1)
    (λ u i. mem_sort (λ n. n) v u (permutes_each (upto m) v (ordering_permutes m v h) u i))

below_append : (k : ℕ) (ks ls : List ℕ) → below k (ks ++ ls) ≡ below k ks + below k ls
below_append k [] ls = omega arith
below_append k (m ∷ ks) ls = ⊎_elim
    (λ l. below_less k m (ks ++ ls) l ∙ omega (arith, below_append k ks ls, below_less k m ks l))
    (λ l. below_more k m (ks ++ ls) l ∙ omega (arith, below_append k ks ls, below_more k m ks l)) (tested m k)

below_upto : (n k : ℕ) → k ≤ n → below (suc k) (upto n) ≡ k
below_upto zero k le = omega (arith, le)
below_upto (suc n) k le =
    below_append (suc k) (upto n) (suc n ∷ []) ∙ ⊎_elim
    (λ l. let a : below (suc k) (upto n) ≡ k = below_upto n k (omega (arith, l)) in let b : below (suc k) (suc n ∷ []) ≡ 0 = below_more (suc k) (suc n) [] (omega (arith, l)) in omega (arith, a, b))
    (λ l.
    let e : k ≡ suc n = omega (arith, l, le) in
    let a : below (suc k) (upto n) ≡ n = all n (suc k) (omega (arith, e)) in let b : below (suc k) (suc n ∷ []) ≡ 1 = below_less (suc k) (suc n) [] (omega (arith, e)) in omega (arith, a, b, e))
    (tested k (suc n))
  where
    all : (n k : ℕ) → n < k → below k (upto n) ≡ n
    all zero k l = refl
    all (suc n) k l = below_append k (upto n) (suc n ∷ []) ∙ (let a : below k (upto n) ≡ n = all n k (omega (arith, l)) in let b : below k (suc n ∷ []) ≡ 1 = below_less k (suc n) [] l in omega (arith, a, b))

-- the ranks of a permutation are the permutation
pub ranks-ordering : (m : ℕ) (v : List ℕ) → IsOrdering m v → ranks v ≡ v
ranks-ordering m v h = map_same (λ k. suc (below k v)) (λ k. k) v (λ k i. let w = h.within k i in at k w.0 w.1) ∙ map-id v
  where
    at : (k : ℕ) → 0 < k → k ≤ m → suc (below k v) ≡ k
    at zero l le = absurd (omega (arith, l))
    at (suc k) l le =
        let a : below (suc k) (map (λ n. n) (sort_by (λ n. n) v)) ≡ below (suc k) (map (λ n. n) v) = below_sort (λ n. n) (suc k) v in
        ap suc (ap (below (suc k)) (sym (map-id v)) ∙ sym a ∙ ap (below (suc k)) (map-id (sort_by (λ n. n) v) ∙ sort-ordering m v h) ∙ below_upto m k (omega (arith, le)))

-- ---- ascending trees, arranged by a permutation

pub mem_item : (ts : List (Tree ℕ)) (i : ℕ) → 0 < i → i ≤ length ts → Mem (item ts i) ts
mem_item [] i p le = absurd (omega (arith, p, le))
mem_item (t ∷ ts) zero p le = absurd (omega (arith, p))
mem_item (t ∷ ts) (suc zero) p le = inl refl
mem_item (t ∷ ts) (suc (suc i)) p le = inr (mem_item ts (suc i) (omega arith) (omega (arith, le)))

item_order : (key : Tree ℕ → ℕ) (ts : List (Tree ℕ)) → Ascends key ts → (i j : ℕ) → 0 < i → i < j → j ≤ length ts → key (item ts i) < key (item ts j)
item_order key [] h i j p l le = absurd (omega (arith, l, le))
item_order key (t ∷ ts) h zero j p l le = absurd (omega (arith, p))
item_order key (t ∷ ts) h (suc i) zero p l le = absurd (omega (arith, l))
item_order key (t ∷ ts) h (suc i) (suc zero) p l le = absurd (omega (arith, l))
item_order key (t ∷ ts) h (suc zero) (suc (suc j)) p l le = every_in (λ y. key t < key y) ts (item ts (suc j)) h.0 (mem_item ts (suc j) (omega arith) (omega (arith, le)))
item_order key (t ∷ ts) h (suc (suc i)) (suc (suc j)) p l le = item_order key ts h.1 (suc i) (suc j) (omega arith) (omega (arith, l)) (omega (arith, le))

pub record InRange (m i : ℕ) : Type 0 where
  pub low : 0 < i
  pub high : i ≤ m

module _ (key : Tree ℕ → ℕ) (ts : List (Tree ℕ)) (h : Ascends key ts) where
  pub items_up : (i j : ℕ) → InRange (length ts) i → InRange (length ts) j → i < j → key (item ts i) < key (item ts j)
  items_up i j a b l = item_order key ts h i j a.low l b.high

  pub items_down : (i j : ℕ) → InRange (length ts) i → InRange (length ts) j → key (item ts i) < key (item ts j) → i < j
  items_down i j a b l = ⊎_elim (λ m. m) (λ le. ⊎_elim
      (λ m. absurd (omega (arith, l, items_up j i b a m)))
      (λ ge. let e : i ≡ j = omega (arith, le, ge) in let k : key (item ts i) ≡ key (item ts j) = ap (λ n. key (item ts n)) e in absurd (omega (arith, l, k))) (tested j i)) (tested i j)

  module _ (w : List ℕ) (o : IsOrdering (length ts) w) where
    pub in_range : AllByRecursion (InRange (length ts)) w
    in_range = every_mem (InRange (length ts)) w (λ u m. let k = o.within u m in record { low = k.0; high = k.1 })

    -- its ranks are the permutation
    pub ranks-arranged : ranks (map key (map (item ts) w)) ≡ w
    ranks-arranged =
        ap ranks (map-map key (item ts) w)
        ∙ sym (ranks-order (InRange (length ts)) (λ n. n) (λ n. key (item ts n)) items_up items_down w in_range)
        ∙ ap ranks (map-id w) ∙ ranks-ordering (length ts) w o

    -- and sorted it is the ascending list
    pub sort-arranged : sort_by key (map (item ts) w) ≡ ts
    sort-arranged =
        sym (map-sort_by (item ts) (λ i. key (item ts i)) key (λ i. refl) w)
        ∙ ap (map (item ts)) (sym (sort_by-order (InRange (length ts)) (λ n. n) (λ n. key (item ts n)) items_up items_down w in_range) ∙ sort-ordering (length ts) w o)
        ∙ items_all ts
