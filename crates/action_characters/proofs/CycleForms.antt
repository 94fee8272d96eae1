-- Each permutation is conjugate to that of a cycle type: its cycles, the longest first.
use Rattle.std.proofs.Common.{◌≡◌, ℕ, zero, suc, ◌+◌, ◌-◌, ◌<◌, ◌≤◌, List, [], ◌∷◌, length, refl, sym, ◌∙◌, ap, arith, subst, inl, inr, ◌⊎◌, length-append, append_assoc}
use mathlib.Core.List.{◌++◌}
use native.Mathlib.Decide.{ℕ_discrete, dec_lt}
use Rattle.std.specs.List.{sum}
use Rattle.modular_sums.specs.Lists.{Mem, Distinct, Rises}
use Rattle.modular_sums.proofs.Lists.{mem_left, mem_right, mem_either, Distinct-append}
use Rattle.action_characters.proofs.Choices.{mem_discrete}
use Rattle.labelled_trees.specs.Insertions.{listed}
use Rattle.labelled_trees.proofs.Insertions.{length-listed}
use Rattle.shuffle_insertions.specs.Listing.{upto}
use Rattle.shuffle_insertions.proofs.Counting.{length-upto}
use Rattle.shuffle_insertions.proofs.Upto.{in_upto, upto_mem, upto_rises}
use Rattle.shuffle_transfer.specs.Orderings.{IsOrdering, entry}
use Rattle.shuffle_transfer.proofs.Permutes.{mem_rest, pick_out, length_rest}
use Rattle.shuffle_transfer.proofs.Orderings.{entry_mem, mem_entry, entry-listed, entry_within, one_distinct}
use Rattle.action_characters.specs.CycleTypes.{IsWeaklyDecreasing, cycle, cycles, EachHasType}
use Rattle.action_characters.proofs.Entries.{entry_one, entry-append_left, entry-append_right, entry-append_behind}
use Rattle.action_characters.proofs.CycleTypes.{sum-cons}
use Rattle.action_characters.proofs.TypePermutations.{length-cycle, cycle_next, cycle_last}

-- different members of a list are no more than it has
shorter : (l m : List ℕ) → Distinct l → ((u : ℕ) → Mem u l → Mem u m) → length l ≤ length m
shorter [] m d h = omega arith
shorter (x ∷ l) m d h =
    let k = pick_out x m (h x (inl refl)) in
    let n : length m ≡ suc (length k.0) = length_rest x m k.0 k.1 in
    let r : length l ≤ length k.0 = shorter l k.0 d.1 (λ u i. other k.0 u i (mem_rest x m k.0 k.1 u (h u (inr i)))) in
    omega (arith, n, r)
  where
    other : (r : List ℕ) (u : ℕ) → Mem u l → (u ≡ x) ⊎ Mem u r → Mem u r
    other r u i (inl e) = absurd (d.0 (subst (λ y. Mem y l) e i))
    other r u i (inr j) = j

rising_distinct : (l : List ℕ) → Rises l → Distinct l
rising_distinct [] h = tt
rising_distinct (x ∷ l) h = (λ m. let k = h.0 x m in absurd (omega (arith, k)), rising_distinct l h.1)

distinct_behind : (k l : List ℕ) → Distinct (k ++ l) → Distinct l
distinct_behind [] l d = d
distinct_behind (x ∷ k) l d = distinct_behind k l d.1

distinct_front : (k l : List ℕ) → Distinct (k ++ l) → Distinct k
distinct_front [] l d = tt
distinct_front (x ∷ k) l d = (λ m. d.0 (mem_left x k l m), distinct_front k l d.1)

distinct_apart : (k l : List ℕ) → Distinct (k ++ l) → (u : ℕ) → Mem u k → Mem u l → ⊥
distinct_apart [] l d u m i = m
distinct_apart (x ∷ k) l d u (inl e) i = d.0 (mem_right x k l (subst (λ y. Mem y l) e i))
distinct_apart (x ∷ k) l d u (inr m) i = distinct_apart k l d.1 u m i

-- ---- cycles of a function, and lists of them

record IsCycleOf (f : ℕ → ℕ) (z : List ℕ) : Type 0 where
  some : 0 < length z
  next : (i : ℕ) → 0 < i → i < length z → f (entry z i) ≡ entry z (suc i)
  last : f (entry z (length z)) ≡ entry z 1

abbrev joined : List (List ℕ) → List ℕ
joined [] = []
joined (z ∷ zs) = z ++ joined zs

lengths : List (List ℕ) → List ℕ
lengths [] = []
lengths (z ∷ zs) = length z ∷ lengths zs

abbrev ordered : {A : Type 0} → Dec A → List ℕ → List ℕ → List (List ℕ) → List (List ℕ) → List (List ℕ)
ordered (yes _) z y zs below = y ∷ below
ordered (no _) z y zs below = z ∷ (y ∷ zs)

-- with a further list, the longest first
insert : List ℕ → List (List ℕ) → List (List ℕ)
insert z [] = z ∷ []
insert z (y ∷ zs) = ordered (dec_lt (length z) (length y)) z y zs (insert z zs)

insert_mem : (z : List ℕ) (zs : List (List ℕ)) (y : List ℕ) → Mem y (insert z zs) → (y ≡ z) ⊎ Mem y zs
unfolding insert
insert_mem z [] y m = m
insert_mem z (x ∷ zs) y m = go (dec_lt (length z) (length x)) m (λ i. insert_mem z zs y i)
  where
    go : {A : Type 0} (d : Dec A) → Mem y (ordered d z x zs (insert z zs)) → (Mem y (insert z zs) → (y ≡ z) ⊎ Mem y zs) → (y ≡ z) ⊎ Mem y (x ∷ zs)
    go (yes _) (inl e) ih = inr (inl e)
    go (yes _) (inr i) ih = past (ih i)
      where
        past : (y ≡ z) ⊎ Mem y zs → (y ≡ z) ⊎ Mem y (x ∷ zs)
        past (inl e) = inl e
        past (inr j) = inr (inr j)
    go (no _) i ih = i

mem_joined : (u : ℕ) (zs : List (List ℕ)) → Mem u (joined zs) → (z : List ℕ) × Mem z zs × Mem u z
mem_joined u [] m = absurd m
mem_joined u (z ∷ zs) m = go (mem_either u z (joined zs) m) (λ i. mem_joined u zs i)
  where
    go : Mem u z ⊎ Mem u (joined zs) → (Mem u (joined zs) → (y : List ℕ) × Mem y zs × Mem u y) → (y : List ℕ) × Mem y (z ∷ zs) × Mem u y
    go (inl i) ih = (z, inl refl, i)
    go (inr i) ih = let k = ih i in (k.0, inr k.1, k.2)

joined_mem : (u : ℕ) (z : List ℕ) (zs : List (List ℕ)) → Mem z zs → Mem u z → Mem u (joined zs)
joined_mem u z [] m i = absurd m
joined_mem u z (y ∷ zs) (inl e) i = mem_left u y (joined zs) (subst (Mem u) e i)
joined_mem u z (y ∷ zs) (inr m) i = mem_right u y (joined zs) (joined_mem u z zs m i)

inserted_mem : (z : List ℕ) (zs : List (List ℕ)) (u : ℕ) → Mem u (joined (insert z zs)) → Mem u z ⊎ Mem u (joined zs)
inserted_mem z zs u m = let k = mem_joined u (insert z zs) m in go k.0 k.2 (insert_mem z zs k.0 k.1)
  where
    go : (y : List ℕ) → Mem u y → (y ≡ z) ⊎ Mem y zs → Mem u z ⊎ Mem u (joined zs)
    go y i (inl e) = inl (subst (Mem u) e i)
    go y i (inr j) = inr (joined_mem u y zs j i)

inserted_length : (z : List ℕ) (zs : List (List ℕ)) → length (joined (insert z zs)) ≡ length z + length (joined zs)
unfolding insert
inserted_length z [] = length-append z []
inserted_length z (y ∷ zs) = go (dec_lt (length z) (length y)) (inserted_length z zs)
  where
    go : {A : Type 0} (d : Dec A) → length (joined (insert z zs)) ≡ length z + length (joined zs) → length (joined (ordered d z y zs (insert z zs))) ≡ length z + length (joined (y ∷ zs))
    go (yes _) ih = length-append y (joined (insert z zs)) ∙ omega (arith, ih, length-append y (joined zs))
    go (no _) ih = length-append z (joined (y ∷ zs))

inserted_distinct : (z : List ℕ) (zs : List (List ℕ)) → Distinct z → Distinct (joined zs) → ((u : ℕ) → Mem u z → Mem u (joined zs) → ⊥) → Distinct (joined (insert z zs))
unfolding insert
inserted_distinct z [] d e apart = Distinct-append z [] d tt (λ u m i. absurd i)
inserted_distinct z (y ∷ zs) d e apart = go (dec_lt (length z) (length y)) (inserted_distinct z zs d (distinct_behind y (joined zs) e) (λ u m i. apart u m (mem_right u y (joined zs) i)))
  where
    go : {A : Type 0} (c : Dec A) → Distinct (joined (insert z zs)) → Distinct (joined (ordered c z y zs (insert z zs)))
    go (yes _) ih = Distinct-append y (joined (insert z zs)) (distinct_front y (joined zs) e) ih
        (λ u m i. other u m (inserted_mem z zs u i))
      where
        other : (u : ℕ) → Mem u y → Mem u z ⊎ Mem u (joined zs) → ⊥
        other u m (inl i) = apart u i (mem_left u y (joined zs) m)
        other u m (inr i) = distinct_apart y (joined zs) e u m i
    go (no _) ih = Distinct-append z (joined (y ∷ zs)) d e apart

mem_lengths : (zs : List (List ℕ)) (k : ℕ) → Mem k (lengths zs) → (z : List ℕ) × Mem z zs × (k ≡ length z)
unfolding lengths
mem_lengths [] k m = absurd m
mem_lengths (z ∷ zs) k (inl e) = (z, inl refl, e)
mem_lengths (z ∷ zs) k (inr m) = let r = mem_lengths zs k m in (r.0, inr r.1, r.2)

length_mem : (m : ℕ) (x : List ℕ) (zs : List (List ℕ)) → m ≡ length x → Mem x zs → Mem m (lengths zs)
unfolding lengths
length_mem m x [] e i = absurd i
length_mem m x (z ∷ zs) e (inl f) = inl (e ∙ ap length f)
length_mem m x (z ∷ zs) e (inr i) = inr (length_mem m x zs e i)

inserted_falls : (z : List ℕ) (zs : List (List ℕ)) → IsWeaklyDecreasing (lengths zs) → IsWeaklyDecreasing (lengths (insert z zs))
unfolding insert lengths
inserted_falls z [] h = (λ m i. absurd i, tt)
inserted_falls z (y ∷ zs) h = go (dec_lt (length z) (length y)) (inserted_falls z zs h.1)
  where
    go : (d : Dec (length z < length y)) → IsWeaklyDecreasing (lengths (insert z zs)) → IsWeaklyDecreasing (lengths (ordered d z y zs (insert z zs)))
    go (yes lt) ih = (λ m i. let k = mem_lengths (insert z zs) m i in low m k.0 k.2 (insert_mem z zs k.0 k.1), ih)
      where
        low : (m : ℕ) (x : List ℕ) → m ≡ length x → (x ≡ z) ⊎ Mem x zs → m ≤ length y
        low m x e (inl f) = let g : length x ≡ length z = ap length f in omega (arith, e, g, lt)
        low m x e (inr j) = h.0 m (length_mem m x zs e j)
    go (no ge) ih = (low, h)
      where
        low : (m : ℕ) → (m ≡ length y) ⊎ Mem m (lengths zs) → m ≤ length z
        low m (inl e) = omega (arith, e, ge)
        low m (inr i) = let k = h.0 m i in omega (arith, k, ge)

module _ (n : ℕ) (w : List ℕ) (o : IsOrdering n w) where
  -- different cycles of w with numbers from 1 to n, the longest first
  record Cycles (zs : List (List ℕ)) : Type 0 where
    each : (z : List ℕ) → Mem z zs → IsCycleOf (entry w) z
    distinct : Distinct (joined zs)
    within : (u : ℕ) → Mem u (joined zs) → (0 < u) × (u ≤ n)
    falls : IsWeaklyDecreasing (lengths zs)

  -- ---- what goes to a number of a cycle is one

  behind_one : (z : List ℕ) → IsCycleOf (entry w) z → ((u : ℕ) → Mem u z → (0 < u) × (u ≤ n)) → (v : ℕ) → 0 < v → v ≤ n → Mem (entry w v) z → Mem v z
  behind_one z c h v low high m = let k = mem_entry z (entry w v) m in go k.0 k.1 k.2
    where
      back : (i : ℕ) → 0 < i → i ≤ length z → entry w (entry z i) ≡ entry w v → Mem v z
      back i p le e =
          let j = entry_mem z i p le in
          let r = h (entry z i) j in
          subst (λ y. Mem y z) (entry_one n w o (entry z i) v r.0 r.1 low high e) j

      go : (i : ℕ) → entry w v ≡ entry z (suc i) → i < length z → Mem v z
      go zero e lt = back (length z) c.some (omega arith) (c.last ∙ sym e)
      go (suc i) e lt = back (suc i) (omega arith) (omega (arith, lt)) (c.next (suc i) (omega arith) lt ∙ sym e)

  behind : (zs : List (List ℕ)) → Cycles zs → (v : ℕ) → 0 < v → v ≤ n → Mem (entry w v) (joined zs) → Mem v (joined zs)
  behind zs c v low high m =
      let k = mem_joined (entry w v) zs m in
      joined_mem v k.0 zs k.1 (behind_one k.0 (c.each k.0 k.1) (λ u i. c.within u (joined_mem u k.0 zs k.1 i)) v low high k.2)

  -- ---- the cycle of a number

  iter : ℕ → ℕ → ℕ
  iter zero x = x
  iter (suc k) x = entry w (iter k x)

  iter_within : (k x : ℕ) → 0 < x → x ≤ n → (0 < iter k x) × (iter k x ≤ n)
  unfolding iter
  iter_within zero x low high = (low, high)
  iter_within (suc k) x low high = let r = iter_within k x low high in entry_within n w o (iter k x) r.0 r.1

  turn : ℕ → ℕ → ℕ
  turn x zero = x
  turn x (suc i) = iter i x

  -- x, its image, the image of that, and so on, k numbers
  orbit : ℕ → ℕ → List ℕ
  orbit k x = listed (turn x) 0 k

  orbit_length : (k x : ℕ) → length (orbit k x) ≡ k
  unfolding orbit
  orbit_length k x = length-listed (turn x) 0 k

  orbit_entry : (k x i : ℕ) → i < k → entry (orbit k x) (suc i) ≡ iter i x
  unfolding orbit turn
  orbit_entry k x i lt = let e : suc (0 + i) ≡ suc i = omega arith in entry-listed (turn x) 0 k i lt ∙ ap (turn x) e

  orbit_mem : (k x u : ℕ) → Mem u (orbit k x) → (i : ℕ) × (u ≡ iter i x) × (i < k)
  orbit_mem k x u m =
      let r = mem_entry (orbit k x) u m in
      let lt : r.0 < k = let s = orbit_length k x in let g : r.0 < length (orbit k x) = r.2 in omega (arith, s, g) in
      (r.0, r.1 ∙ orbit_entry k x r.0 lt, lt)

  Apart : ℕ → ℕ → Type 0
  Apart k x = (i j : ℕ) → i < k → j < k → iter i x ≡ iter j x → i ≡ j

  orbit_distinct : (k x : ℕ) → Apart k x → Distinct (orbit k x)
  unfolding Apart
  orbit_distinct k x a = one_distinct (orbit k x) (λ i j p q e.
      let s = orbit_length k x in
      let p' : i < k = omega (arith, p, s) in
      let q' : j < k = omega (arith, q, s) in
      a i j p' q' (sym (orbit_entry k x i p') ∙ e ∙ orbit_entry k x j q'))

  orbit_short : (k x : ℕ) → 0 < x → x ≤ n → Apart k x → k ≤ n
  orbit_short k x low high a =
      let s : length (orbit k x) ≤ length (upto n) = shorter (orbit k x) (upto n) (orbit_distinct k x a)
      (λ u m. let r = orbit_mem k x u m in let h = iter_within r.0 x low high in subst (λ y. Mem y (upto n)) (sym r.1) (in_upto n (iter r.0 x) h.0 h.1)) in
      omega (arith, s, orbit_length k x, length-upto n)

  apart_more : (k x : ℕ) → 0 < x → x ≤ n → Apart (suc k) x → (entry w (iter k x) ≡ x → ⊥) → Apart (suc (suc k)) x
  unfolding Apart iter
  apart_more k x low high a ne i j p q e = go (dec_lt i (suc k)) (dec_lt j (suc k))
    where
      -- the next number is none of these
      fresh : (m : ℕ) → m < suc k → entry w (iter k x) ≡ iter m x → ⊥
      fresh zero lt f = ne f
      fresh (suc m) lt f =
          let r = iter_within k x low high in
          let s = iter_within m x low high in
          let g : k ≡ m = a k m (omega arith) (omega (arith, lt)) (entry_one n w o (iter k x) (iter m x) r.0 r.1 s.0 s.1 f) in
          absurd (omega (arith, g, lt))

      go : Dec (i < suc k) → Dec (j < suc k) → i ≡ j
      go (yes b) (yes c) = a i j b c e
      go (yes b) (no c) = let s : j ≡ suc k = omega (arith, q, c) in absurd (fresh i b (sym (e ∙ ap (λ t. iter t x) s)))
      go (no b) (yes c) = let s : i ≡ suc k = omega (arith, p, b) in absurd (fresh j c (sym (ap (λ t. iter t x) s) ∙ e))
      go (no b) (no c) = omega (arith, p, q, b, c)

  record Closed (x m : ℕ) : Type 0 where
    apart : Apart (suc m) x
    closes : entry w (iter m x) ≡ x

  search_end : (fuel k x : ℕ) → 0 < x → x ≤ n → Apart (suc k) x → n ≤ fuel + k → (m : ℕ) × Closed x m
  search_end zero k x low high a le = let s = orbit_short (suc k) x low high a in absurd (omega (arith, s, le))
  search_end (suc fuel) k x low high a le = go (ℕ_discrete (entry w (iter k x)) x) (λ b. search_end fuel (suc k) x low high b (omega (arith, le)))
    where
      go : Dec (entry w (iter k x) ≡ x) → (Apart (suc (suc k)) x → (m : ℕ) × Closed x m) → (m : ℕ) × Closed x m
      go (yes e) ih = (k, record { apart = a; closes = e })
      go (no f) ih = ih (apart_more k x low high a f)

  closed : (x : ℕ) → 0 < x → x ≤ n → (m : ℕ) × Closed x m
  unfolding Apart
  closed x low high = search_end n 0 x low high (λ i j p q e. omega (arith, p, q)) (omega arith)

  is_cycle : (x m : ℕ) → Closed x m → IsCycleOf (entry w) (orbit (suc m) x)
  unfolding iter
  is_cycle x m c = record {
    some = let s = orbit_length (suc m) x in omega (arith, s);
    next = λ i p lt. step i p (let s = orbit_length (suc m) x in omega (arith, lt, s));
    last = ap (λ k. entry w (entry (orbit (suc m) x) k)) (orbit_length (suc m) x) ∙ ap (entry w) (orbit_entry (suc m) x m (omega arith)) ∙ c.closes ∙ sym (orbit_entry (suc m) x 0 (omega arith));
  }
    where
      step : (i : ℕ) → 0 < i → i < suc m → entry w (entry (orbit (suc m) x) i) ≡ entry (orbit (suc m) x) (suc i)
      step zero p lt = absurd (omega (arith, p))
      step (suc i) p lt = ap (entry w) (orbit_entry (suc m) x i (omega (arith, lt))) ∙ sym (orbit_entry (suc m) x (suc i) lt)

  -- ---- all cycles

  iter_behind : (zs : List (List ℕ)) → Cycles zs → (x : ℕ) → 0 < x → x ≤ n → (k : ℕ) → Mem (iter k x) (joined zs) → Mem x (joined zs)
  unfolding iter
  iter_behind zs c x low high zero m = m
  iter_behind zs c x low high (suc k) m = let r = iter_within k x low high in iter_behind zs c x low high k (behind zs c (iter k x) r.0 r.1 m)

  further : (zs : List (List ℕ)) → Cycles zs → (x m : ℕ) → 0 < x → x ≤ n → (Mem x (joined zs) → ⊥) → Closed x m → Cycles (insert (orbit (suc m) x) zs)
  further zs c x m low high out k = record {
    each = λ z i. each z (insert_mem (orbit (suc m) x) zs z i);
    distinct = inserted_distinct (orbit (suc m) x) zs (orbit_distinct (suc m) x k.apart) c.distinct
        (λ u i j. let r = orbit_mem (suc m) x u i in out (iter_behind zs c x low high r.0 (subst (λ y. Mem y (joined zs)) r.1 j)));
    within = λ u i. among u (inserted_mem (orbit (suc m) x) zs u i);
    falls = inserted_falls (orbit (suc m) x) zs c.falls;
  }
    where
      each : (z : List ℕ) → (z ≡ orbit (suc m) x) ⊎ Mem z zs → IsCycleOf (entry w) z
      each z (inl e) = subst (IsCycleOf (entry w)) (sym e) (is_cycle x m k)
      each z (inr i) = c.each z i

      among : (u : ℕ) → Mem u (orbit (suc m) x) ⊎ Mem u (joined zs) → (0 < u) × (u ≤ n)
      among u (inl i) = let r = orbit_mem (suc m) x u i in let h = iter_within r.0 x low high in subst (λ y. (0 < y) × (y ≤ n)) (sym r.1) h
      among u (inr i) = c.within u i

  cycles_short : (zs : List (List ℕ)) → Cycles zs → length (joined zs) ≤ n
  cycles_short zs c =
      let s : length (joined zs) ≤ length (upto n) = shorter (joined zs) (upto n) c.distinct (λ u m. let r = c.within u m in in_upto n u r.0 r.1) in
      omega (arith, s, length-upto n)

  -- a number from 1 to m that doesn't stand in the list, or all do
  missing : (l : List ℕ) (m : ℕ) → ((i : ℕ) → 0 < i → i ≤ m → Mem i l) ⊎ ((i : ℕ) × (0 < i) × (i ≤ m) × (Mem i l → ⊥))
  missing l zero = inl (λ i p le. absurd (omega (arith, p, le)))
  missing l (suc m) = go (mem_discrete ℕ_discrete (suc m) l) (missing l m)
    where
      go : Dec (Mem (suc m) l) → ((i : ℕ) → 0 < i → i ≤ m → Mem i l) ⊎ ((i : ℕ) × (0 < i) × (i ≤ m) × (Mem i l → ⊥))
          → ((i : ℕ) → 0 < i → i ≤ suc m → Mem i l) ⊎ ((i : ℕ) × (0 < i) × (i ≤ suc m) × (Mem i l → ⊥))
      go (no f) r = inr (suc m, omega arith, omega arith, f)
      go (yes h) (inl r) = inl (λ i p le. at i p le (ℕ_discrete i (suc m)))
        where
          at : (i : ℕ) → 0 < i → i ≤ suc m → Dec (i ≡ suc m) → Mem i l
          at i p le (yes e) = subst (λ y. Mem y l) (sym e) h
          at i p le (no f) = r i p (omega (arith, le, f))
      go (yes h) (inr r) = inr (r.0, r.1, let k = r.2 in omega (arith, k), r.3)

  all_cycles : (fuel : ℕ) (zs : List (List ℕ)) → Cycles zs → n ≤ fuel + length (joined zs) → (ys : List (List ℕ)) × Cycles ys × (length (joined ys) ≡ n)
  all_cycles zero zs c le = (zs, c, let s = cycles_short zs c in omega (arith, s, le))
  all_cycles (suc fuel) zs c le = go (missing (joined zs) n) (λ ys d more. all_cycles fuel ys d more)
    where
      go : ((i : ℕ) → 0 < i → i ≤ n → Mem i (joined zs)) ⊎ ((i : ℕ) × (0 < i) × (i ≤ n) × (Mem i (joined zs) → ⊥))
          → ((ys : List (List ℕ)) → Cycles ys → n ≤ fuel + length (joined ys) → (ys : List (List ℕ)) × Cycles ys × (length (joined ys) ≡ n))
          → (ys : List (List ℕ)) × Cycles ys × (length (joined ys) ≡ n)
      go (inl h) ih = (zs, c, let s = cycles_short zs c in let t = full in omega (arith, s, t))
        where
          full : n ≤ length (joined zs)
          full =
              let s : length (upto n) ≤ length (joined zs) = shorter (upto n) (joined zs) (rising_distinct (upto n) (upto_rises n)) (λ u m. let r = upto_mem n u m in h u r.0 r.1) in
              omega (arith, s, length-upto n)
      go (inr r) ih =
          let k = closed r.0 r.1 r.2 in
          ih (insert (orbit (suc k.0) r.0) zs) (further zs c r.0 k.0 r.1 r.2 r.3 k.1)
          (let s = inserted_length (orbit (suc k.0) r.0) zs in let t = orbit_length (suc k.0) r.0 in omega (arith, s, t, le))

  -- ---- the permutation that lists the cycles

  module _ (pre z : List ℕ) (zs : List (List ℕ)) (c : IsCycleOf (entry w) z) where
    abbrev all : List ℕ
    all = pre ++ (z ++ joined zs)

    abbrev moves : List ℕ
    moves = cycle (length pre) (length z) ++ cycles (length pre + length z) (lengths zs)

    -- where the images stand in the list
    there : (i : ℕ) → suc i ≤ length z → entry all (suc (length pre + i)) ≡ entry z (suc i)
    there i k = entry-append_right pre (z ++ joined zs) i ∙ entry-append_left z (joined zs) (suc i) k

    first : (i : ℕ) → i ≤ length z → entry moves i ≡ entry (cycle (length pre) (length z)) i
    first i k = entry-append_left (cycle (length pre) (length z)) (cycles (length pre + length z) (lengths zs)) i (omega (arith, k, length-cycle (length pre) (length z)))

    near_step : (i : ℕ) → 0 < i → i ≤ length z → entry w (entry (z ++ joined zs) i) ≡ entry all (entry moves i)
    near_step i low high = go (dec_lt i (length z))
      where
        go : Dec (i < length z) → entry w (entry (z ++ joined zs) i) ≡ entry all (entry moves i)
        go (yes lt) =
            ap (entry w) (entry-append_left z (joined zs) i high) ∙ c.next i low lt ∙ sym (there i lt)
            ∙ ap (entry all) (sym (first i high ∙ cycle_next (length pre) (length z) i low lt))
        go (no ge) =
            let e : i ≡ length z = omega (arith, high, ge) in
            let z0 : suc (length pre) ≡ suc (length pre + 0) = omega arith in
            ap (entry w) (entry-append_left z (joined zs) i high ∙ ap (entry z) e) ∙ c.last ∙ sym (there 0 c.some)
            ∙ ap (entry all) (sym (first i high ∙ ap (entry (cycle (length pre) (length z))) e ∙ cycle_last (length pre) (length z) c.some ∙ z0))

    far_step : (i : ℕ) → 0 < i → entry w (entry (joined zs) i) ≡ entry ((pre ++ z) ++ joined zs) (entry (cycles (length (pre ++ z)) (lengths zs)) i)
        → entry w (entry (z ++ joined zs) (length z + i)) ≡ entry all (entry moves (length z + i))
    far_step i low h =
        let e : entry moves (length z + i) ≡ entry (cycles (length (pre ++ z)) (lengths zs)) i
        = ap (λ k. entry moves (k + i)) (sym (length-cycle (length pre) (length z)))
        ∙ entry-append_behind (cycle (length pre) (length z)) (cycles (length pre + length z) (lengths zs)) i low
        ∙ ap (λ k. entry (cycles k (lengths zs)) i) (sym (length-append pre z)) in
        ap (entry w) (entry-append_behind z (joined zs) i low) ∙ h
        ∙ ap (λ l. entry l (entry (cycles (length (pre ++ z)) (lengths zs)) i)) (append_assoc pre z (joined zs)) ∙ ap (entry all) (sym e)

  -- the cycles of a permutation, one behind the other, take the permutation of their lengths to it
  listed_step : (pre : List ℕ) (zs : List (List ℕ)) → ((z : List ℕ) → Mem z zs → IsCycleOf (entry w) z) → (i : ℕ) → 0 < i → i ≤ length (joined zs)
      → entry w (entry (joined zs) i) ≡ entry (pre ++ joined zs) (entry (cycles (length pre) (lengths zs)) i)
  unfolding lengths
  listed_step pre [] h i p le = absurd (omega (arith, p, le))
  listed_step pre (z ∷ zs) h i p le = go (dec_lt (length z) i) (λ j low high. listed_step (pre ++ z) zs (λ y m. h y (inr m)) j low high)
    where
      go : Dec (length z < i) → ((j : ℕ) → 0 < j → j ≤ length (joined zs) → entry w (entry (joined zs) j) ≡ entry ((pre ++ z) ++ joined zs) (entry (cycles (length (pre ++ z)) (lengths zs)) j))
          → entry w (entry (z ++ joined zs) i) ≡ entry (pre ++ (z ++ joined zs)) (entry (cycle (length pre) (length z) ++ cycles (length pre + length z) (lengths zs)) i)
      go (no near) ih = near_step pre z zs (h z (inl refl)) i p (omega (arith, near))
      go (yes far) ih =
          let e : length z + (i - length z) ≡ i = omega (arith, far) in
          let low : 0 < i - length z = omega (arith, far) in
          subst (λ k. entry w (entry (z ++ joined zs) k) ≡ entry (pre ++ (z ++ joined zs)) (entry (cycle (length pre) (length z) ++ cycles (length pre + length z) (lengths zs)) k)) e
          (far_step pre z zs (h z (inl refl)) (i - length z) low (ih (i - length z) low (let s : length (z ++ joined zs) ≡ length z + length (joined zs) = length-append z (joined zs) in omega (arith, le, s))))

sum-lengths : (zs : List (List ℕ)) → sum (lengths zs) ≡ length (joined zs)
unfolding lengths
sum-lengths [] = refl
sum-lengths (z ∷ zs) = sum-cons (length z) (lengths zs) ∙ ap (λ k. length z + k) (sum-lengths zs) ∙ sym (length-append z (joined zs))

pub each_has_type : EachHasType
unfolding lengths
each_has_type n w o =
    let r = all_cycles n w o n [] (record { each = λ z m. absurd m; distinct = tt; within = λ u m. absurd m; falls = tt }) (omega arith) in
    let zs : List (List ℕ) = r.0 in
    let c : Cycles n w o zs = r.1 in
    let size : length (joined zs) ≡ n = r.2 in (
      lengths zs,
      record {
        positive = λ k m. let a = mem_lengths zs k m in let b = (c.each a.0 a.1).some in let e = a.2 in omega (arith, b, e);
        falls = c.falls;
        adds_up = sum-lengths zs ∙ size;
      },
      (
        joined zs,
        record { length_is = size; within = c.within; distinct = c.distinct },
        λ i low high. listed_step n w o [] zs c.each i low (omega (arith, size, high)),
      ),
    )
