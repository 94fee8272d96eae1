-- The listed sequences of two chains, leaf by leaf.
use Rattle.std.proofs.Common.{◌≡◌, ℕ, zero, suc, ◌<◌, ◌≤◌, List, [], ◌∷◌, map, refl, sym, ◌∙◌, ap, arith, subst, inl, inr, ◌⊎◌}
use native.Mathlib.Decide.{ℕ_discrete, dec_le}
use Rattle.modular_sums.specs.Lists.{Mem, Distinct, choose}
use Rattle.modular_sums.proofs.Lists.{tail_same, mem_left, mem_right, mem_either, mem_map, mem_of_map}
use Rattle.common_multiples.specs.Merging.{Chains, by_first, by_second, merges, AreChains}

-- ---- choices

in_choice : {A X : Type 0} (d : Dec A) (l : List X) (x : X) → Mem x (choose d l []) → A × Mem x l
in_choice (yes a) l x m = (a, m)
in_choice (no _) l x m = absurd m

into_choice : {A X : Type 0} (d : Dec A) (l r : List X) (x : X) → A → Mem x l → Mem x (choose d l r)
into_choice (yes _) l r x a m = m
into_choice (no f) l r x a m = absurd (f a)

into_other : {A X : Type 0} (d : Dec A) (l r : List X) (x : X) → (A → ⊥) → Mem x r → Mem x (choose d l r)
into_other (yes a) l r x f m = absurd (f a)
into_other (no _) l r x f m = m

pub distinct_choice : {A X : Type 0} (d : Dec A) (l r : List X) → Distinct l → Distinct r → Distinct (choose d l r)
distinct_choice (yes _) l r p q = p
distinct_choice (no _) l r p q = q

pub distinct_before : (x : ℕ) (l : List (List ℕ)) → Distinct l → Distinct (map (λ s. x ∷ s) l)
distinct_before x [] d = tt
distinct_before x (s ∷ l) d = (λ m. let r = mem_of_map (λ s. x ∷ s) (x ∷ s) l m in d.0 (subst (λ y. Mem y l) (sym (tail_same x x s r.0 r.2).1) r.1), distinct_before x l d.1)

-- ---- one leaf more

-- the place on a chain goes on by one where the leaf stands there, and stays where the leaf isn't on the chain
abbrev pub Goes : (on i next : ℕ) → Type 0
Goes on i next = ((on ≡ 0) × (next ≡ i)) ⊎ ((on ≡ i) × (next ≡ suc i))

pub goes_up : (on i next : ℕ) → Goes on i next → i ≤ next
goes_up on i next (inl e) = omega (arith, e.1)
goes_up on i next (inr e) = omega (arith, e.1)

-- The leaf x can come next.
pub record IsStep (c : Chains) (n i j x next_i next_j : ℕ) : Type 0 where
  pub inside : (0 < x) × (x ≤ n)
  pub along_first : Goes (c.on_first x) i next_i
  pub along_second : Goes (c.on_second x) j next_j

-- a merge, leaf by leaf
pub data Merge (c : Chains) (n : ℕ) : (left i j : ℕ) → List ℕ → Type 0 where
  none : {i j : ℕ} → Merge c n zero i j []
  more : {left i j x next_i next_j : ℕ} {s : List ℕ} → IsStep c n i j x next_i next_j → Merge c n left next_i next_j s → Merge c n (suc left) i j (x ∷ s)

-- A listed sequence begins with a step.
pub record Begins (c : Chains) (n left i j : ℕ) (s : List ℕ) : Type 0 where
  pub head : ℕ
  pub rest : List ℕ
  pub next_i : ℕ
  pub next_j : ℕ
  pub is : s ≡ head ∷ rest
  pub step : IsStep c n i j head next_i next_j
  pub listed : Mem rest (merges c left next_i next_j)

module _ (c : Chains) (n : ℕ) (h : AreChains c n) where
  pub first_begins : (left i j : ℕ) (s : List ℕ) → 0 < i → Mem s (by_first c i j (merges c left)) → (b : Begins c n left i j s) × (c.on_first b.head ≡ i)
  first_begins left i j s pi m = let k = in_choice (dec_le i c.m) alone_or_both s m in go k.0 (ℕ_discrete (c.on_second (c.first i)) 0) (ℕ_discrete (c.on_second (c.first i)) j) k.1
    where
      alone_or_both : List (List ℕ)
      alone_or_both = choose (ℕ_discrete (c.on_second (c.first i)) 0) (map (λ s. c.first i ∷ s) (merges c left (suc i) j))
          (choose (ℕ_discrete (c.on_second (c.first i)) j) (map (λ s. c.first i ∷ s) (merges c left (suc i) (suc j))) [])

      go : i ≤ c.m → (d : Dec (c.on_second (c.first i) ≡ 0)) (f : Dec (c.on_second (c.first i) ≡ j))
          → Mem s (choose d (map (λ s. c.first i ∷ s) (merges c left (suc i) j)) (choose f (map (λ s. c.first i ∷ s) (merges c left (suc i) (suc j))) [])) → (b : Begins c n left i j s) × (c.on_first b.head ≡ i)
      go le (yes e) f m = let r = mem_of_map (λ s. c.first i ∷ s) s (merges c left (suc i) j) m in (
        record {
          head = c.first i;
          rest = r.0;
          next_i = suc i;
          next_j = j;
          is = r.2;
          step = record { inside = h.first_in i pi le; along_first = inr (h.first_back i pi le, refl); along_second = inl (e, refl) };
          listed = r.1;
        },
        h.first_back i pi le,
      )
      go le (no _) (yes e) m = let r = mem_of_map (λ s. c.first i ∷ s) s (merges c left (suc i) (suc j)) m in (
        record {
          head = c.first i;
          rest = r.0;
          next_i = suc i;
          next_j = suc j;
          is = r.2;
          step = record { inside = h.first_in i pi le; along_first = inr (h.first_back i pi le, refl); along_second = inr (e, refl) };
          listed = r.1;
        },
        h.first_back i pi le,
      )
      go le (no _) (no _) m = absurd m

  pub second_begins : (left i j : ℕ) (s : List ℕ) → 0 < j → Mem s (by_second c i j (merges c left)) → (b : Begins c n left i j s) × (c.on_first b.head ≡ 0)
  second_begins left i j s pj m =
      let k = in_choice (dec_le j c.k) (choose (ℕ_discrete (c.on_first (c.second j)) 0) (map (λ s. c.second j ∷ s) (merges c left i (suc j))) []) s m in
      let a = in_choice (ℕ_discrete (c.on_first (c.second j)) 0) (map (λ s. c.second j ∷ s) (merges c left i (suc j))) s k.1 in
      let r = mem_of_map (λ s. c.second j ∷ s) s (merges c left i (suc j)) a.1 in (
        record {
          head = c.second j;
          rest = r.0;
          next_i = i;
          next_j = suc j;
          is = r.2;
          step = record { inside = h.second_in j pj k.0; along_first = inl (a.0, refl); along_second = inr (h.second_back j pj k.0, refl) };
          listed = r.1;
        },
        a.0,
      )

  begins : (left i j : ℕ) (s : List ℕ) → 0 < i → 0 < j → Mem s (merges c (suc left) i j) → Begins c n left i j s
  begins left i j s pi pj m = go (mem_either s (by_first c i j (merges c left)) (by_second c i j (merges c left)) m)
    where
      go : Mem s (by_first c i j (merges c left)) ⊎ Mem s (by_second c i j (merges c left)) → Begins c n left i j s
      go (inl m) = (first_begins left i j s pi m).0
      go (inr m) = (second_begins left i j s pj m).0

  -- each listed sequence is a merge
  pub is_merge : (left i j : ℕ) (s : List ℕ) → 0 < i → 0 < j → Mem s (merges c left i j) → Merge c n left i j s
  is_merge zero i j s pi pj (inl e) = subst (λ r. Merge c n zero i j r) (sym e) none
  is_merge zero i j s pi pj (inr m) = absurd m
  is_merge (suc left) i j s pi pj m =
      let b = begins left i j s pi pj m in
      let up_i = goes_up (c.on_first b.head) i b.next_i b.step.along_first in
      let up_j = goes_up (c.on_second b.head) j b.next_j b.step.along_second in
      subst (λ r. Merge c n (suc left) i j r) (sym b.is) (more b.step (is_merge left b.next_i b.next_j b.rest (omega (arith, up_i)) (omega (arith, up_j)) b.listed))

  from_first : (left i j next_j : ℕ) (s : List ℕ) → 0 < j → i ≤ c.m → Goes (c.on_second (c.first i)) j next_j → Mem s (merges c left (suc i) next_j) → Mem (c.first i ∷ s) (by_first c i j (merges c left))
  from_first left i j next_j s pj le g m = into_choice (dec_le i c.m) (choose (ℕ_discrete (c.on_second (c.first i)) 0) (map (λ s. c.first i ∷ s) (merges c left (suc i) j))
      (choose (ℕ_discrete (c.on_second (c.first i)) j) (map (λ s. c.first i ∷ s) (merges c left (suc i) (suc j))) [])) [] (c.first i ∷ s) le (go g)
    where
      alone : List (List ℕ)
      alone = map (λ s. c.first i ∷ s) (merges c left (suc i) j)

      both : List (List ℕ)
      both = map (λ s. c.first i ∷ s) (merges c left (suc i) (suc j))

      go : Goes (c.on_second (c.first i)) j next_j → Mem (c.first i ∷ s) (choose (ℕ_discrete (c.on_second (c.first i)) 0) alone (choose (ℕ_discrete (c.on_second (c.first i)) j) both []))
      go (inl e) = into_choice (ℕ_discrete (c.on_second (c.first i)) 0) alone (choose (ℕ_discrete (c.on_second (c.first i)) j) both []) (c.first i ∷ s) e.0
          (mem_map (λ s. c.first i ∷ s) s (merges c left (suc i) j) (subst (λ v. Mem s (merges c left (suc i) v)) e.1 m))
      go (inr e) = into_other (ℕ_discrete (c.on_second (c.first i)) 0) alone (choose (ℕ_discrete (c.on_second (c.first i)) j) both []) (c.first i ∷ s) (λ q. omega (arith, q, e.0))
          (into_choice (ℕ_discrete (c.on_second (c.first i)) j) both [] (c.first i ∷ s) e.0
          (mem_map (λ s. c.first i ∷ s) s (merges c left (suc i) (suc j)) (subst (λ v. Mem s (merges c left (suc i) v)) e.1 m)))

  from_second : (left i j : ℕ) (s : List ℕ) → j ≤ c.k → c.on_first (c.second j) ≡ 0 → Mem s (merges c left i (suc j)) → Mem (c.second j ∷ s) (by_second c i j (merges c left))
  from_second left i j s le e m = into_choice (dec_le j c.k) (choose (ℕ_discrete (c.on_first (c.second j)) 0) (map (λ s. c.second j ∷ s) (merges c left i (suc j))) []) [] (c.second j ∷ s) le
      (into_choice (ℕ_discrete (c.on_first (c.second j)) 0) (map (λ s. c.second j ∷ s) (merges c left i (suc j))) [] (c.second j ∷ s) e
      (mem_map (λ s. c.second j ∷ s) s (merges c left i (suc j)) m))

  step_listed : (left i j x next_i next_j : ℕ) (s : List ℕ) → 0 < i → 0 < j → IsStep c n i j x next_i next_j → Mem s (merges c left next_i next_j) → Mem (x ∷ s) (merges c (suc left) i j)
  step_listed left i j x next_i next_j s pi pj k m = go k.along_first k.along_second (h.each x k.inside.0 k.inside.1)
    where
      go : Goes (c.on_first x) i next_i → Goes (c.on_second x) j next_j → (0 < c.on_first x) ⊎ (0 < c.on_second x) → Mem (x ∷ s) (merges c (suc left) i j)
      go (inr e) g o =
          let t = h.first_there x k.inside.0 k.inside.1 (omega (arith, e.0)) in
          let is : c.first i ≡ x = ap c.first (sym e.0) ∙ t.1 in
          mem_left (x ∷ s) (by_first c i j (merges c left)) (by_second c i j (merges c left)) (subst (λ v. Mem (v ∷ s) (by_first c i j (merges c left))) is
          (from_first left i j next_j s pj (omega (arith, t.0, e.0)) (subst (λ v. Goes (c.on_second v) j next_j) (sym is) g) (subst (λ v. Mem s (merges c left v next_j)) e.1 m)))
      go (inl e) (inl f) (inl o) = absurd (omega (arith, e.0, o))
      go (inl e) (inl f) (inr o) = absurd (omega (arith, f.0, o))
      go (inl e) (inr f) o =
          let t = h.second_there x k.inside.0 k.inside.1 (omega (arith, f.0)) in
          let is : c.second j ≡ x = ap c.second (sym f.0) ∙ t.1 in
          mem_right (x ∷ s) (by_first c i j (merges c left)) (by_second c i j (merges c left)) (subst (λ v. Mem (v ∷ s) (by_second c i j (merges c left))) is
          (from_second left i j s (omega (arith, t.0, f.0)) (ap c.on_first is ∙ e.0) (subst (λ v. Mem s (merges c left i v)) f.1 (subst (λ v. Mem s (merges c left v next_j)) e.1 m))))

  -- each merge is listed
  pub merge_listed : {left i j : ℕ} {s : List ℕ} → Merge c n left i j s → 0 < i → 0 < j → Mem s (merges c left i j)
  merge_listed none pi pj = inl refl
  merge_listed (more {left = left} {i = i} {j = j} {x = x} {next_i = next_i} {next_j = next_j} {s = s} k w) pi pj =
      let up_i = goes_up (c.on_first x) i next_i k.along_first in
      let up_j = goes_up (c.on_second x) j next_j k.along_second in
      step_listed left i j x next_i next_j s pi pj k (merge_listed w (omega (arith, up_i)) (omega (arith, up_j)))
