-- The merges of two chains are the numberings that rise along both, each once.
use Rattle.std.proofs.Common.{◌≡◌, ℕ, zero, suc, ◌+◌, ◌<◌, ◌≤◌, List, [], ◌∷◌, length, map, refl, sym, ◌∙◌, ap, arith, subst, inl, inr, ◌⊎◌}
use Rattle.std.specs.Prelude.{slice_index, slice_set}
use native.Mathlib.Decide.{ℕ_discrete, dec_le, dec_lt}
use Rattle.modular_sums.specs.Lists.{Mem, Distinct, choose}
use Rattle.modular_sums.proofs.Lists.{tail_same, Distinct-append}
use Rattle.common_multiples.specs.Merging.{Chains, by_first, by_second, merges, assigned, AreChains, IsMerged}
use Rattle.common_multiples.proofs.Assigned.{IsLeafList, still_room, head_number, rest_leaves, number_between, number_taken, numbers_apart, read_back, all_leaves}
use Rattle.common_multiples.proofs.Steps.{distinct_choice, distinct_before, Goes, goes_up, Merge, none, more, first_begins, second_begins, is_merge, merge_listed}

-- ---- one chain

-- the leaves of a chain are in order in the sequence, from the i-th on
data InOrder (on : ℕ → ℕ) : ℕ → List ℕ → Type 0 where
  empty : {i : ℕ} → InOrder on i []
  next : {i next_i x : ℕ} {s : List ℕ} → Goes (on x) i next_i → InOrder on next_i s → InOrder on i (x ∷ s)

first_order : {c : Chains} {n left i j : ℕ} {s : List ℕ} → Merge c n left i j s → InOrder c.on_first i s
first_order none = empty
first_order (more k w) = next k.along_first (first_order w)

second_order : {c : Chains} {n left i j : ℕ} {s : List ℕ} → Merge c n left i j s → InOrder c.on_second j s
second_order none = empty
second_order (more k w) = next k.along_second (second_order w)

-- no leaf of the sequence is before the i-th
not_before : (on : ℕ → ℕ) {i : ℕ} {s : List ℕ} → InOrder on i s → (z : ℕ) → Mem z s → 0 < on z → i ≤ on z
not_before on empty z m p = absurd m
not_before on (next {x = x} (inl g) r) z (inl e) p = let q = ap on e in absurd (omega (arith, q, g.0))
not_before on (next {x = x} (inr g) r) z (inl e) p = let q = ap on e in omega (arith, q, g.0)
not_before on (next {i = i} {next_i = next_i} {x = x} g r) z (inr m) p = let k = not_before on r z m p in let u = goes_up (on x) i next_i g in omega (arith, k, u)

-- the numbers rise along the chain
rises_along : (on : ℕ → ℕ) {i : ℕ} {s : List ℕ} → InOrder on i s → (n a : ℕ) (t : List ℕ) → n < length t → IsLeafList n s → (y z : ℕ) → Mem y s → Mem z s → 0 < on y → on y < on z
    → slice_index (assigned s a t) y < slice_index (assigned s a t) z
rises_along on empty n a t lt h y z p q pos less = absurd p
rises_along on (next g r) n a t lt h y z (inl e) (inl f) pos less = absurd (let u = ap on (e ∙ sym f) in omega (arith, u))
rises_along on (next {x = x} {s = s} g r) n a t lt h y z (inl e) (inr q) pos less =
    let own = head_number n x s a t y lt h e in
    let b = number_between n s (suc a) (slice_set t x a) (still_room n x a t lt) (rest_leaves n x s h) z q in
    omega (arith, own, b.0)
rises_along on (next {x = x} {s = s} (inl g) r) n a t lt h y z (inr p) (inl f) pos less = absurd (let u = ap on f in omega (arith, u, g.0))
rises_along on (next {x = x} {s = s} (inr g) r) n a t lt h y z (inr p) (inl f) pos less = absurd (let u = ap on f in let k = not_before on r y p pos in omega (arith, u, g.0, g.1, k))
rises_along on (next {x = x} {s = s} g r) n a t lt h y z (inr p) (inr q) pos less = rises_along on r n (suc a) (slice_set t x a) (still_room n x a t lt) (rest_leaves n x s h) y z p q pos less

-- ---- the leaves of a merge

pub merge_length : {c : Chains} {n left i j : ℕ} {s : List ℕ} → Merge c n left i j s → length s ≡ left
merge_length none = refl
merge_length (more k w) = ap suc (merge_length w)

pub merge_inside : {c : Chains} {n left i j : ℕ} {s : List ℕ} → Merge c n left i j s → (z : ℕ) → Mem z s → (0 < z) × (z ≤ n)
merge_inside none z m = absurd m
merge_inside {n = n} (more k w) z (inl e) = subst (λ v. (0 < v) × (v ≤ n)) (sym e) k.inside
merge_inside (more k w) z (inr m) = merge_inside w z m

-- a leaf that came isn't to come
gone : (on : ℕ → ℕ) (i next_i x : ℕ) (s : List ℕ) → Goes (on x) i next_i → InOrder on next_i s → Mem x s → 0 < on x → ⊥
gone on i next_i x s (inl e) r m p = omega (arith, e.0)
gone on i next_i x s (inr e) r m p = let k = not_before on r x m p in omega (arith, k, e.0, e.1)

pub merge_leaves : {c : Chains} {n left i j : ℕ} {s : List ℕ} → AreChains c n → Merge c n left i j s → IsLeafList n s
merge_leaves h none = record { once = tt; inside = λ z m. absurd m }
merge_leaves {c = c} h (more {i = i} {j = j} {x = x} {next_i = next_i} {next_j = next_j} {s = s} k w) = record {
  once = (λ m. again m (h.each x k.inside.0 k.inside.1), (merge_leaves h w).once);
  inside = merge_inside (more k w);
}
  where
    again : Mem x s → (0 < c.on_first x) ⊎ (0 < c.on_second x) → ⊥
    again m (inl p) = gone c.on_first i next_i x s k.along_first (first_order w) m p
    again m (inr p) = gone c.on_second j next_j x s k.along_second (second_order w) m p

-- each listed sequence numbers the leaves so that the numbers rise along both chains
pub merged_number : (c : Chains) (n : ℕ) (s t : List ℕ) → AreChains c n → n < length t → Mem s (merges c n 1 1) → IsMerged c n (slice_index (assigned s 1 t))
merged_number c n s t h lt m =
    let w : Merge c n n 1 1 s = is_merge c n h n 1 1 s (omega arith) (omega arith) m in
    let l : IsLeafList n s = merge_leaves h w in
    let size : length s ≡ n = merge_length w in
    let all : (z : ℕ) → 0 < z → z ≤ n → Mem z s = all_leaves n s l size in
    record {
      first_rise = λ i j p less le.
          let y = h.first_in i p (omega arith) in
          let z = h.first_in j (omega arith) le in
          rises_along c.on_first (first_order w) n 1 t lt l (c.first i) (c.first j) (all (c.first i) y.0 y.1) (all (c.first j) z.0 z.1)
          (let b = h.first_back i p (omega arith) in omega (arith, b))
          (let b = h.first_back i p (omega arith) in let d = h.first_back j (omega arith) le in omega (arith, b, d));
      second_rise = λ i j p less le.
          let y = h.second_in i p (omega arith) in
          let z = h.second_in j (omega arith) le in
          rises_along c.on_second (second_order w) n 1 t lt l (c.second i) (c.second j) (all (c.second i) y.0 y.1) (all (c.second j) z.0 z.1)
          (let b = h.second_back i p (omega arith) in omega (arith, b))
          (let b = h.second_back i p (omega arith) in let d = h.second_back j (omega arith) le in omega (arith, b, d));
      into = λ z p le. let b = number_between n s 1 t lt l z (all z p le) in (omega (arith, b.0), omega (arith, b.1, size));
      onto = λ u p le. let r = number_taken n s 1 t lt l u (omega arith) (omega (arith, size)) in let b = l.inside r.0 r.1 in (r.0, b.0, b.1, r.2);
      apart = λ y z py ly pz lz e. numbers_apart n s 1 t lt l y z (all y py ly) (all z pz lz) e;
    }

-- two listed sequences that number the leaves alike are one
pub merged_apart : (c : Chains) (n : ℕ) (s r t : List ℕ) → AreChains c n → n < length t → Mem s (merges c n 1 1) → Mem r (merges c n 1 1)
    → ((z : ℕ) → 0 < z → z ≤ n → slice_index (assigned s 1 t) z ≡ slice_index (assigned r 1 t) z) → s ≡ r
merged_apart c n s r t h lt p q same =
    let v : Merge c n n 1 1 s = is_merge c n h n 1 1 s (omega arith) (omega arith) p in
    let w : Merge c n n 1 1 r = is_merge c n h n 1 1 r (omega arith) (omega arith) q in
    let k : IsLeafList n s = merge_leaves h v in
    let l : IsLeafList n r = merge_leaves h w in
    read_back n s r 1 t lt k l
    (λ z m. let b = k.inside z m in all_leaves n r l (merge_length w) z b.0 b.1)
    (λ z m. let b = l.inside z m in all_leaves n s k (merge_length v) z b.0 b.1)
    (λ z m. let b = k.inside z m in same z b.0 b.1)

-- ---- each sequence is listed once

merges_distinct : (c : Chains) (n : ℕ) → AreChains c n → (left i j : ℕ) → 0 < i → 0 < j → Distinct (merges c left i j)
merges_distinct c n h zero i j pi pj = (λ m. m, tt)
merges_distinct c n h (suc left) i j pi pj =
    Distinct-append (by_first c i j (merges c left)) (by_second c i j (merges c left))
    (from_first (merges_distinct c n h left (suc i) j (omega arith) pj) (merges_distinct c n h left (suc i) (suc j) (omega arith) (omega arith)))
    (from_second (merges_distinct c n h left i (suc j) pi (omega arith))) apart
  where
    from_first : Distinct (merges c left (suc i) j) → Distinct (merges c left (suc i) (suc j)) → Distinct (by_first c i j (merges c left))
    from_first alone both =
        let one = map (λ s. c.first i ∷ s) (merges c left (suc i) j) in
        let two = map (λ s. c.first i ∷ s) (merges c left (suc i) (suc j)) in
        let next = choose (ℕ_discrete (c.on_second (c.first i)) j) two [] in
        distinct_choice (dec_le i c.m) (choose (ℕ_discrete (c.on_second (c.first i)) 0) one next) []
        (distinct_choice (ℕ_discrete (c.on_second (c.first i)) 0) one next (distinct_before (c.first i) (merges c left (suc i) j) alone)
        (distinct_choice (ℕ_discrete (c.on_second (c.first i)) j) two [] (distinct_before (c.first i) (merges c left (suc i) (suc j)) both) tt)) tt

    from_second : Distinct (merges c left i (suc j)) → Distinct (by_second c i j (merges c left))
    from_second alone =
        let one = map (λ s. c.second j ∷ s) (merges c left i (suc j)) in
        distinct_choice (dec_le j c.k) (choose (ℕ_discrete (c.on_first (c.second j)) 0) one []) []
        (distinct_choice (ℕ_discrete (c.on_first (c.second j)) 0) one [] (distinct_before (c.second j) (merges c left i (suc j)) alone) tt) tt

    apart : (s : List ℕ) → Mem s (by_first c i j (merges c left)) → Mem s (by_second c i j (merges c left)) → ⊥
    apart s p q =
        let a = first_begins c n h left i j s pi p in
        let b = second_begins c n h left i j s pj q in
        let one : a.0.head ≡ b.0.head = (tail_same a.0.head b.0.head a.0.rest b.0.rest (sym a.0.is ∙ b.0.is)).0 in
        let on = ap c.on_first one in
        omega (arith, on, a.1, b.1)

-- each sequence is listed once
pub merges_once : (c : Chains) (n : ℕ) → AreChains c n → Distinct (merges c n 1 1)
merges_once c n h = merges_distinct c n h n 1 1 (omega arith) (omega arith)

-- ---- each numbering is listed

-- The same of one chain: its leaves, their places.
record IsChain (n : ℕ) (at on : ℕ → ℕ) (length_of : ℕ) : Type 0 where
  at_in : (i : ℕ) → 0 < i → i ≤ length_of → (0 < at i) × (at i ≤ n)
  back : (i : ℕ) → 0 < i → i ≤ length_of → on (at i) ≡ i
  there : (z : ℕ) → 0 < z → z ≤ n → 0 < on z → (on z ≤ length_of) × (at (on z) ≡ z)

first_chain : (c : Chains) (n : ℕ) → AreChains c n → IsChain n c.first c.on_first c.m
first_chain c n h = record { at_in = h.first_in; back = h.first_back; there = h.first_there }

second_chain : (c : Chains) (n : ℕ) → AreChains c n → IsChain n c.second c.on_second c.k
second_chain c n h = record { at_in = h.second_in; back = h.second_back; there = h.second_there }

-- The leaves of a chain with numbers below a are those before the i-th.
record IsReached (n : ℕ) (on number : ℕ → ℕ) (i a : ℕ) : Type 0 where
  below : (z : ℕ) → 0 < z → z ≤ n → 0 < on z → on z < i → number z < a
  before : (z : ℕ) → 0 < z → z ≤ n → 0 < on z → number z < a → on z < i

-- The leaf with number a is the next of the chain, or isn't on it.
record IsNext (n : ℕ) (on number : ℕ → ℕ) (i a x : ℕ) : Type 0 where
  next_i : ℕ
  goes : Goes (on x) i next_i
  reached : IsReached n on number next_i (suc a)

module _ (n length_of : ℕ) (at on number : ℕ → ℕ) (h : IsChain n at on length_of) (rise : (i j : ℕ) → 0 < i → i < j → j ≤ length_of → number (at i) < number (at j))
    (apart : (y z : ℕ) → 0 < y → y ≤ n → 0 < z → z ≤ n → number y ≡ number z → y ≡ z) where
  -- where it is on the chain, it is the next
  next_place : (i a x : ℕ) → 0 < i → 0 < x → x ≤ n → number x ≡ a → IsReached n on number i a → 0 < on x → on x ≡ i
  next_place i a x pi px lx e r p = go (dec_lt (on x) i) (dec_lt i (on x))
    where
      go : Dec (on x < i) → Dec (i < on x) → on x ≡ i
      go (yes q) d = absurd (let k = r.below x px lx p q in omega (arith, k, e))
      go (no q) (no u) = omega (arith, q, u)
      go (no q) (yes u) =
          let t = h.there x px lx p in
          let w = rise i (on x) pi u t.0 in
          let s = ap number t.1 in
          let y = h.at_in i pi (omega (arith, t.0)) in
          let b = h.back i pi (omega (arith, t.0)) in
          absurd (let k : on (at i) < i = r.before (at i) y.0 y.1 (omega (arith, b)) (omega (arith, w, s, e)) in omega (arith, k, b))

  next_leaf : (i a x : ℕ) → 0 < i → 0 < x → x ≤ n → number x ≡ a → IsReached n on number i a → IsNext n on number i a x
  next_leaf i a x pi px lx e r = go (dec_lt 0 (on x))
    where
      go : Dec (0 < on x) → IsNext n on number i a x
      go (no q) = record {
        next_i = i;
        goes = inl (omega (arith, q), refl);
        reached = record {
          below = λ z pz lz p le. let k = r.below z pz lz p le in omega (arith, k);
          before = λ z pz lz p le. before_old z pz lz p le (ℕ_discrete (number z) a);
        };
      }
        where
          before_old : (z : ℕ) → 0 < z → z ≤ n → 0 < on z → number z < suc a → Dec (number z ≡ a) → on z < i
          before_old z pz lz p le (yes f) = absurd (let o = ap on (apart z x pz lz px lx (f ∙ sym e)) in omega (arith, o, p, q))
          before_old z pz lz p le (no f) = r.before z pz lz p (omega (arith, le, f))
      go (yes q) = record {
        next_i = suc i;
        goes = inr (here, refl);
        reached = record {
          below = λ z pz lz p le. below_new z pz lz p le (ℕ_discrete (on z) i);
          before = λ z pz lz p le. before_new z pz lz p le (ℕ_discrete (number z) a);
        };
      }
        where
          here : on x ≡ i
          here = next_place i a x pi px lx e r q

          below_new : (z : ℕ) → 0 < z → z ≤ n → 0 < on z → on z < suc i → Dec (on z ≡ i) → number z < suc a
          below_new z pz lz p le (yes f) =
              let same : z ≡ x = sym (h.there z pz lz p).1 ∙ ap at (f ∙ sym here) ∙ (h.there x px lx q).1 in
              let o = ap number same in
              omega (arith, o, e)
          below_new z pz lz p le (no f) = let k = r.below z pz lz p (omega (arith, le, f)) in omega (arith, k)

          before_new : (z : ℕ) → 0 < z → z ≤ n → 0 < on z → number z < suc a → Dec (number z ≡ a) → on z < suc i
          before_new z pz lz p le (yes f) = let o = ap on (apart z x pz lz px lx (f ∙ sym e)) in omega (arith, o, here)
          before_new z pz lz p le (no f) = let k = r.before z pz lz p (omega (arith, le, f)) in omega (arith, k)

-- A merge that gives the leaves their numbers, from a on.
record IsNumbered (c : Chains) (n left i j a : ℕ) (number : ℕ → ℕ) (t : List ℕ) : Type 0 where
  sequence : List ℕ
  merge : Merge c n left i j sequence
  reads : (z : ℕ) → 0 < z → z ≤ n → a ≤ number z → slice_index (assigned sequence a t) z ≡ number z

module _ (c : Chains) (n : ℕ) (number : ℕ → ℕ) (h : AreChains c n) (k : IsMerged c n number) where
  merge_from : (left i j a : ℕ) (t : List ℕ) → n < length t → 0 < i → 0 < j → 0 < a → a + left ≡ suc n → IsReached n c.on_first number i a → IsReached n c.on_second number j a → IsNumbered c n left i j a number t
  merge_from zero i j a t lt pi pj pa e r s = record { sequence = []; merge = none; reads = λ z p le q. absurd (let b = k.into z p le in omega (arith, b.1, e)) }
  merge_from (suc left) i j a t lt pi pj pa e r s =
      let x = k.onto a pa (omega (arith, e)) in
      let f = next_leaf n c.m c.first c.on_first number (first_chain c n h) k.first_rise k.apart i a x.0 pi x.1 x.2 x.3 r in
      let g = next_leaf n c.k c.second c.on_second number (second_chain c n h) k.second_rise k.apart j a x.0 pj x.1 x.2 x.3 s in
      let up_i = goes_up (c.on_first x.0) i f.next_i f.goes in
      let up_j = goes_up (c.on_second x.0) j g.next_i g.goes in
      one_more x.0 x.1 x.2 x.3 f g (merge_from left f.next_i g.next_i (suc a) (slice_set t x.0 a) (still_room n x.0 a t lt) (omega (arith, up_i)) (omega (arith, up_j)) (omega arith) (omega (arith, e)) f.reached g.reached)
    where
      one_more : (x : ℕ) → 0 < x → x ≤ n → number x ≡ a → (f : IsNext n c.on_first number i a x) (g : IsNext n c.on_second number j a x) → IsNumbered c n left f.next_i g.next_i (suc a) number (slice_set t x a)
          → IsNumbered c n (suc left) i j a number t
      one_more x px lx is f g w = record { sequence = x ∷ w.sequence; merge = whole; reads = λ z p le q. read z p le q (ℕ_discrete (number z) a) }
        where
          whole : Merge c n (suc left) i j (x ∷ w.sequence)
          whole = more (record { inside = (px, lx); along_first = f.goes; along_second = g.goes }) w.merge

          read : (z : ℕ) → 0 < z → z ≤ n → a ≤ number z → Dec (number z ≡ a) → slice_index (assigned (x ∷ w.sequence) a t) z ≡ number z
          read z p le q (yes u) = head_number n x w.sequence a t z lt (merge_leaves h whole) (k.apart z x p le px lx (u ∙ sym is)) ∙ sym u
          read z p le q (no u) = w.reads z p le (omega (arith, q, u))

-- each numbering that rises along both chains is that of a listed sequence
pub number_merged : (c : Chains) (n : ℕ) (number : ℕ → ℕ) (t : List ℕ) → AreChains c n → n < length t → IsMerged c n number
    → (s : List ℕ) × Mem s (merges c n 1 1) × ((z : ℕ) → 0 < z → z ≤ n → slice_index (assigned s 1 t) z ≡ number z)
number_merged c n number t h lt k =
    let start : (on : ℕ → ℕ) → IsReached n on number 1 1 = λ on. record { below = λ z p le q less. absurd (omega arith); before = λ z p le q less. absurd (let b = k.into z p le in omega (arith, b.0)) } in
    let w = merge_from c n number h k n 1 1 1 t lt (omega arith) (omega arith) (omega arith) (omega arith) (start c.on_first) (start c.on_second) in
    (w.sequence, merge_listed c n h w.merge (omega arith) (omega arith), λ z p le. w.reads z p le (k.into z p le).0)
