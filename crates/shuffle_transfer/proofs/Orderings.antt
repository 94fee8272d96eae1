-- The list of all permutations, in lexicographic order.
use Rattle.std.proofs.Common.{◌≡◌, ℕ, zero, suc, ◌+◌, ◌<◌, ◌≤◌, List, [], ◌∷◌, map, length, refl, sym, ◌∙◌, ap, arith, subst, inl, inr}
use Rattle.std.specs.Prelude.{flat_map}
use Rattle.std.specs.declared.cmp.Ordering.TheVariants.{Less}
use Rattle.std.specs.Ordering.{nat_cmp}
use Rattle.std.specs.Cmp.Lexicographic.{slice_cmp}
use Rattle.modular_sums.specs.Lists.{Mem, Distinct, Rises}
use Rattle.modular_sums.proofs.Lists.{mem_of_map, mem_of_flat}
use Rattle.shuffle_insertions.specs.Listing.{upto}
use Rattle.labelled_trees.specs.Insertions.{listed}
use Rattle.labelled_trees.proofs.Insertions.{length-listed}
use Rattle.shuffle_insertions.proofs.Counting.{length-upto}
use Rattle.shuffle_insertions.proofs.Upto.{upto_mem, upto_rises, in_upto}
use Rattle.shuffle_insertions.proofs.Comparing.{less_nat, same_nat, then_first, then_second}
use Rattle.shuffle_places.specs.PlaceOrder.{IsInOrder, Precedes, AreRising}
use Rattle.shuffle_places.proofs.PlaceOrder.{in_order-append, in_order_distinct, not_before_itself}
use Rattle.shuffle_transfer.specs.Orderings.{IsOrdering, entry, Pick, behind, picks, permutations, orderings}
use Rattle.shuffle_transfer.specs.Laws.{AllOrderings}
use Rattle.shuffle_transfer.proofs.Permutes.{mem_of_behind, picked, Permutes, pick_mem, rest_rises, permutes_within, permutes_distinct, permutes_length, permutes_of, mem_permutations, permutations_mem}

pub ordering_permutes : (m : ℕ) (v : List ℕ) → IsOrdering m v → Permutes (upto m) v
ordering_permutes m v h = permutes_of v (upto m) (h.length_is ∙ sym (length-upto m)) h.distinct (λ u k. let w = h.within u k in in_upto m u w.0 w.1)

is_ordering : (m : ℕ) (v : List ℕ) → Mem v (orderings m) → IsOrdering m v
is_ordering m v h =
    let k = permutations_mem m (upto m) v (length-upto m) h in
    record {
      length_is = permutes_length (upto m) v k ∙ length-upto m;
      within = λ u i. upto_mem m u (permutes_within (upto m) v k u i);
      distinct = permutes_distinct (upto m) v (upto_rises m) k;
    }

-- ---- lexicographic order

ascending_map : (x : ℕ) (l : List (List ℕ)) → AreRising l → AreRising (map (λ w. x ∷ w) l)
ascending_map x [] h = tt
ascending_map x (v ∷ l) h = (
  λ w m. let k = mem_of_map (λ u. x ∷ u) w l m in
      subst (λ z. slice_cmp nat_cmp (x ∷ v) z ≡ Less) (sym k.2) (then_second (nat_cmp x x) (slice_cmp nat_cmp v k.0) Less (same_nat x x refl) (h.0 k.0 k.1)),
  ascending_map x l h.1,
)

abbrev FirstsRise : List Pick → Type 0
FirstsRise = IsInOrder (λ p q. p.first < q.first)

behind_rises : (x : ℕ) (l : List Pick) → FirstsRise l → FirstsRise (behind x l)
behind_rises x [] h = tt
behind_rises x (p ∷ l) h = (λ q m. let k = mem_of_behind x q l m in let e : q.first ≡ k.0.first = ap (λ z. z.first) k.1 in let lt = h.0 k.0 k.2 in omega (arith, e, lt), behind_rises x l h.1)

picks_rise : (l : List ℕ) → Rises l → FirstsRise (picks l)
picks_rise [] h = tt
picks_rise (x ∷ l) h = (
  λ q m. let k = mem_of_behind x q (picks l) m in let e : q.first ≡ k.0.first = ap (λ z. z.first) k.1 in
      let lt = h.0 k.0.first (pick_mem k.0.first l k.0.others (picked k.0 l k.2)) in omega (arith, e, lt),
  behind_rises x (picks l) (picks_rise l h.1),
)

ascending_flat : (f : Pick → List (List ℕ)) (l : List Pick) → FirstsRise l → ((p : Pick) → Mem p l → AreRising (f p)) → AreRising (flat_map (λ p. map (λ w. p.first ∷ w) (f p)) l)
ascending_flat f [] h g = tt
ascending_flat f (p ∷ l) h g = in_order-append Precedes (map (λ w. p.first ∷ w) (f p)) (flat_map (λ p. map (λ w. p.first ∷ w) (f p)) l)
    (ascending_map p.first (f p) (g p (inl refl))) (ascending_flat f l h.1 (λ q m. g q (inr m)))
    (λ v w m n.
    let a = mem_of_map (λ u. p.first ∷ u) v (f p) m in
    let b = mem_of_flat (λ q. map (λ u. q.first ∷ u) (f q)) w l n in
    let c = mem_of_map (λ u. b.0.first ∷ u) w (f b.0) b.2 in
    subst (λ z. slice_cmp nat_cmp z w ≡ Less) (sym a.2) (subst (λ z. slice_cmp nat_cmp (p.first ∷ a.0) z ≡ Less) (sym c.2)
    (then_first (nat_cmp p.first b.0.first) (slice_cmp nat_cmp a.0 c.0) (less_nat p.first b.0.first (h.0 b.0 b.1)))))

ascending_permutations : (k : ℕ) (l : List ℕ) → Rises l → AreRising (permutations k l)
ascending_permutations zero l h = (λ w m. absurd m, tt)
ascending_permutations (suc k) l h = ascending_flat (λ p. permutations k p.others) (picks l) (picks_rise l h) (λ p m. ascending_permutations k p.others (rest_rises p.first l p.others (picked p l m) h))

pub ascending_distinct : (l : List (List ℕ)) → AreRising l → Distinct l
ascending_distinct l h = in_order_distinct Precedes not_before_itself l h

pub all_orderings : AllOrderings
all_orderings m =
    let a = ascending_permutations m (upto m) (upto_rises m) in
    (a, ascending_distinct (orderings m) a, λ v. (is_ordering m v, λ h. mem_permutations m (upto m) v (ordering_permutes m v h) h.length_is))

-- ---- entries

pub entry_mem : (v : List ℕ) (i : ℕ) → 0 < i → i ≤ length v → Mem (entry v i) v
entry_mem [] i p le = absurd (omega arith)
entry_mem (x ∷ v) zero p le = absurd (omega arith)
entry_mem (x ∷ v) (suc zero) p le = inl refl
entry_mem (x ∷ v) (suc (suc i)) p le = inr (entry_mem v (suc i) (omega arith) (omega (arith, le)))

pub mem_entry : (v : List ℕ) (x : ℕ) → Mem x v → (i : ℕ) × (x ≡ entry v (suc i)) × (i < length v)
mem_entry [] x m = absurd m
mem_entry (y ∷ v) x (inl e) = (0, e, omega arith)
mem_entry (y ∷ v) x (inr m) = let k = mem_entry v x m in (suc k.0, k.1, let lt = k.2 in omega (arith, lt))

pub one_distinct : (v : List ℕ) → ((i j : ℕ) → i < length v → j < length v → entry v (suc i) ≡ entry v (suc j) → i ≡ j) → Distinct v
one_distinct [] h = tt
one_distinct (x ∷ v) h = (
  λ m. let k = mem_entry v x m in let lt = k.2 in let e : 0 ≡ suc k.0 = h 0 (suc k.0) (omega arith) (omega (arith, lt)) k.1 in absurd (omega (arith, e)),
  one_distinct v (λ i j a b e. let f : suc i ≡ suc j = h (suc i) (suc j) (omega (arith, a)) (omega (arith, b)) e in omega (arith, f)),
)

-- the entries of the list of f (a + 1) to f (a + k)
pub entry-listed : (f : ℕ → ℕ) (a k i : ℕ) → i < k → entry (listed f a k) (suc i) ≡ f (suc (a + i))
entry-listed f a zero i lt = absurd (omega arith)
entry-listed f a (suc k) zero lt = let e : suc a ≡ suc (a + 0) = omega arith in ap f e
entry-listed f a (suc k) (suc i) lt = let e : suc (suc a + i) ≡ suc (a + suc i) = omega arith in entry-listed f (suc a) k i (omega (arith, lt)) ∙ ap f e

-- a one-to-one function of 1 to m into 1 to m, as a list
pub as_list : (m : ℕ) (f : ℕ → ℕ) → ((i : ℕ) → 0 < i → i ≤ m → (0 < f i) × (f i ≤ m)) → ((i j : ℕ) → 0 < i → i ≤ m → 0 < j → j ≤ m → f i ≡ f j → i ≡ j)
    → (v : List ℕ) × IsOrdering m v × ((i : ℕ) → 0 < i → i ≤ m → entry v i ≡ f i)
as_list m f within one = (
  listed f 0 m,
  record {
    length_is = length-listed f 0 m;
    within = λ u k.
        let r = mem_entry (listed f 0 m) u k in
        let lt : r.0 < length (listed f 0 m) = r.2 in
        let le : suc r.0 ≤ m = omega (arith, lt, length-listed f 0 m) in
        subst (λ z. (0 < z) × (z ≤ m)) (sym (r.1 ∙ same (suc r.0) (omega arith) le)) (within (suc r.0) (omega arith) le);
    distinct = one_distinct (listed f 0 m) (λ i j a b e.
        let x : suc i ≤ m = omega (arith, a, length-listed f 0 m) in
        let y : suc j ≤ m = omega (arith, b, length-listed f 0 m) in
        let k : suc i ≡ suc j = one (suc i) (suc j) (omega arith) x (omega arith) y (sym (same (suc i) (omega arith) x) ∙ e ∙ same (suc j) (omega arith) y) in omega (arith, k));
  },
  same,
)
  where
    same : (i : ℕ) → 0 < i → i ≤ m → entry (listed f 0 m) i ≡ f i
    same zero p le = absurd (omega arith)
    same (suc i) p le = let e : suc (0 + i) ≡ suc i = omega arith in entry-listed f 0 m i (omega (arith, le)) ∙ ap f e

-- the entries of a permutation of 1 to m
pub entry_within : (m : ℕ) (v : List ℕ) → IsOrdering m v → (i : ℕ) → 0 < i → i ≤ m → (0 < entry v i) × (entry v i ≤ m)
entry_within m v h i p le = let n : length v ≡ m = h.length_is in h.within (entry v i) (entry_mem v i p (omega (arith, n, le)))
