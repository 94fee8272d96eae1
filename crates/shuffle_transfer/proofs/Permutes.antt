-- Lists that come from one another by picking entry after entry.
use Rattle.std.proofs.Common.{◌≡◌, ℕ, zero, suc, List, [], ◌∷◌, map, length, refl, sym, ◌∙◌, ap, arith, subst, inl, inr, ◌⊎◌}
use Rattle.modular_sums.specs.Lists.{Mem, Distinct, Rises}
use Rattle.modular_sums.proofs.Lists.{mem_map, mem_of_map, mem_flat, mem_of_flat}
use Rattle.shuffle_transfer.specs.Orderings.{Pick, behind, picks, permutations}

-- x is an entry of the first list, and the second has the others
pub data Picked (x : ℕ) : List ℕ → List ℕ → Type 0 where
  now : {l : List ℕ} → Picked x (x ∷ l) l
  later : (y : ℕ) {l r : List ℕ} → Picked x l r → Picked x (y ∷ l) (y ∷ r)

mem_behind : (y : ℕ) (p : Pick) (l : List Pick) → Mem p l → Mem (record { first = p.first; others = y ∷ p.others }) (behind y l)
mem_behind y p [] h = absurd h
mem_behind y p (z ∷ l) (inl e) = inl (ap (λ w. record { first = w.first; others = y ∷ w.others }) e)
mem_behind y p (z ∷ l) (inr h) = inr (mem_behind y p l h)

pub mem_of_behind : (y : ℕ) (q : Pick) (l : List Pick) → Mem q (behind y l) → (p : Pick) × (q ≡ record { first = p.first; others = y ∷ p.others }) × Mem p l
mem_of_behind y q [] h = absurd h
mem_of_behind y q (p ∷ l) (inl e) = (p, e, inl refl)
mem_of_behind y q (p ∷ l) (inr h) = let k = mem_of_behind y q l h in (k.0, k.1, inr k.2)

mem_picks : (x : ℕ) (l r : List ℕ) → Picked x l r → Mem (record { first = x; others = r }) (picks l)
mem_picks x l r now = inl refl
mem_picks x l r (later y {l = m} {r = s} h) = inr (mem_behind y record { first = x; others = s } (picks m) (mem_picks x m s h))

pub picked : (p : Pick) (l : List ℕ) → Mem p (picks l) → Picked p.first l p.others
picked p [] h = absurd h
picked p (y ∷ l) (inl e) = subst (λ z. Picked z.first (y ∷ l) z.others) (sym e) now
picked p (y ∷ l) (inr h) = let k = mem_of_behind y p (picks l) h in subst (λ z. Picked z.first (y ∷ l) z.others) (sym k.1) (later y (picked k.0 l k.2))

-- the second list is a permutation of the first
pub data Permutes : List ℕ → List ℕ → Type 0 where
  done : Permutes [] []
  begin : (x : ℕ) {l r v : List ℕ} → Picked x l r → Permutes r v → Permutes l (x ∷ v)

-- ---- what is picked, and what is left

pub rest_mem : (x : ℕ) (l r : List ℕ) → Picked x l r → (u : ℕ) → Mem u r → Mem u l
rest_mem x l r now u m = inr m
rest_mem x l r (later y {l = k} {r = s} h) u (inl e) = inl e
rest_mem x l r (later y {l = k} {r = s} h) u (inr m) = inr (rest_mem x k s h u m)

pub pick_mem : (x : ℕ) (l r : List ℕ) → Picked x l r → Mem x l
pick_mem x l r now = inl refl
pick_mem x l r (later y {l = k} {r = s} h) = inr (pick_mem x k s h)

pub rest_rises : (x : ℕ) (l r : List ℕ) → Picked x l r → Rises l → Rises r
rest_rises x l r now h = h.1
rest_rises x l r (later y {l = k} {r = s} p) h = (λ u m. h.0 u (rest_mem x k s p u m), rest_rises x k s p h.1)

pub mem_rest : (x : ℕ) (l r : List ℕ) → Picked x l r → (u : ℕ) → Mem u l → (u ≡ x) ⊎ Mem u r
mem_rest x l r now u h = h
mem_rest x l r (later y {l = k} {r = s} p) u (inl e) = inr (inl e)
mem_rest x l r (later y {l = k} {r = s} p) u (inr m) = go (mem_rest x k s p u m)
  where
    go : (u ≡ x) ⊎ Mem u s → (u ≡ x) ⊎ Mem u (y ∷ s)
    go (inl e) = inl e
    go (inr n) = inr (inr n)

pub pick_out : (x : ℕ) (l : List ℕ) → Mem x l → (r : List ℕ) × Picked x l r
pick_out x [] m = absurd m
pick_out x (y ∷ l) (inl e) = (l, subst (λ z. Picked x (z ∷ l) l) e now)
pick_out x (y ∷ l) (inr m) = let k = pick_out x l m in (y ∷ k.0, later y k.1)

pub length_rest : (x : ℕ) (l r : List ℕ) → Picked x l r → length l ≡ suc (length r)
length_rest x l r now = refl
length_rest x l r (later y {l = k} {r = s} h) = ap suc (length_rest x k s h)

length_behind : (x : ℕ) (l : List Pick) → length (behind x l) ≡ length l
length_behind x [] = refl
length_behind x (p ∷ l) = ap suc (length_behind x l)

pub length_picks : (l : List ℕ) → length (picks l) ≡ length l
length_picks [] = refl
length_picks (x ∷ l) = ap suc (length_behind x (picks l) ∙ length_picks l)

gone_rest : (x : ℕ) (l r : List ℕ) → Picked x l r → Rises l → Mem x r → ⊥
gone_rest x l r now h m = let k = h.0 x m in absurd (omega (arith, k))
gone_rest x l r (later y {l = k} {r = s} p) h (inl e) = let o = h.0 x (pick_mem x k s p) in absurd (omega (arith, o, e))
gone_rest x l r (later y {l = k} {r = s} p) h (inr m) = gone_rest x k s p h.1 m

-- ---- permutations

pub permutes_within : (l v : List ℕ) → Permutes l v → (u : ℕ) → Mem u v → Mem u l
permutes_within l v done u m = absurd m
permutes_within l v (begin x {r = r} {v = w} p h) u (inl e) = subst (λ z. Mem z l) (sym e) (pick_mem x l r p)
permutes_within l v (begin x {r = r} {v = w} p h) u (inr m) = rest_mem x l r p u (permutes_within r w h u m)

pub permutes_each : (l v : List ℕ) → Permutes l v → (u : ℕ) → Mem u l → Mem u v
permutes_each l v done u m = absurd m
permutes_each l v (begin x {r = r} {v = w} p h) u m = go (mem_rest x l r p u m) (λ n. permutes_each r w h u n)
  where
    go : (u ≡ x) ⊎ Mem u r → (Mem u r → Mem u w) → Mem u (x ∷ w)
    go (inl e) f = inl e
    go (inr n) f = inr (f n)

pub permutes_distinct : (l v : List ℕ) → Rises l → Permutes l v → Distinct v
permutes_distinct l v h done = tt
permutes_distinct l v h (begin x {r = r} {v = w} p k) = (λ m. gone_rest x l r p h (permutes_within r w k x m), permutes_distinct r w (rest_rises x l r p h) k)

pub permutes_length : (l v : List ℕ) → Permutes l v → length v ≡ length l
permutes_length l v done = refl
permutes_length l v (begin x {r = r} {v = w} p k) = ap suc (permutes_length r w k) ∙ sym (length_rest x l r p)

-- as many different entries of a list are a permutation of it
pub permutes_of : (v l : List ℕ) → length v ≡ length l → Distinct v → ((u : ℕ) → Mem u v → Mem u l) → Permutes l v
permutes_of [] [] e d h = done
permutes_of [] (x ∷ l) e d h = absurd (omega (arith, e))
permutes_of (x ∷ v) l e d h =
    let k = pick_out x l (h x (inl refl)) in
    let n : length l ≡ suc (length k.0) = length_rest x l k.0 k.1 in
    begin x k.1 (permutes_of v k.0 (omega (arith, e, n)) d.1 (λ u m. other k.0 u m (mem_rest x l k.0 k.1 u (h u (inr m)))))
  where
    other : (r : List ℕ) (u : ℕ) → Mem u v → (u ≡ x) ⊎ Mem u r → Mem u r
    other r u m (inl e) = absurd (d.0 (subst (λ z. Mem z v) e m))
    other r u m (inr n) = n

-- ---- the list of permutations

pub mem_permutations : (k : ℕ) (l v : List ℕ) → Permutes l v → length v ≡ k → Mem v (permutations k l)
mem_permutations zero l v done e = inl refl
mem_permutations (suc k) l v done e = absurd (omega arith)
mem_permutations zero l v (begin x p h) e = absurd (omega arith)
mem_permutations (suc k) l v (begin x {r = r} {v = w} p h) e =
    mem_flat (λ p. map (λ w. p.first ∷ w) (permutations k p.others)) record { first = x; others = r } (x ∷ w) (picks l) (mem_picks x l r p)
    (mem_map (λ u. x ∷ u) w (permutations k r) (mem_permutations k r w h (omega (arith, e))))

empty_permutes : (l : List ℕ) → length l ≡ 0 → Permutes l []
empty_permutes [] e = done
empty_permutes (x ∷ l) e = absurd (omega arith)

pub permutations_mem : (k : ℕ) (l v : List ℕ) → length l ≡ k → Mem v (permutations k l) → Permutes l v
permutations_mem zero l v e (inl f) = subst (Permutes l) (sym f) (empty_permutes l e)
permutations_mem zero l v e (inr h) = absurd h
permutations_mem (suc k) l v e h =
    let a = mem_of_flat (λ p. map (λ w. p.first ∷ w) (permutations k p.others)) v (picks l) h in
    let b = mem_of_map (λ w. a.0.first ∷ w) v (permutations k a.0.others) a.2 in
    let p = picked a.0 l a.1 in
    subst (Permutes l) (sym b.2) (begin a.0.first p (permutations_mem k a.0.others b.0 (let n : length l ≡ suc (length a.0.others) = length_rest a.0.first l a.0.others p in omega (arith, n, e)) b.1))
