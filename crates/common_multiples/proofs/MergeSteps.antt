-- Merging leaf by leaf: what a step hands on, and what it puts behind the others.
use Rattle.std.proofs.Common.{◌≡◌, ℕ, suc, zero, ◌+◌, ◌-◌, List, [], ◌∷◌, map, refl, sym, ◌∙◌, ap, arith, subst, inl, append_assoc}
use Rattle.std.specs.Prelude.{slice_set}
use mathlib.Core.List.{◌++◌, append-nil}
use Rattle.std.proofs.lemmas.List.{map-append}
use Rattle.modular_sums.specs.Lists.{Mem}
use Rattle.modular_sums.proofs.Lists.{mem_left, mem_right, mem_map}
use Rattle.common_multiples.specs.Merging.{Chains, merges, by_first, by_second, assigned}

pub at_end : (c : Chains) (left i j : ℕ) → left ≡ 0 → Mem [] (merges c left i j)
at_end c zero i j e = inl refl
at_end c (suc left) i j e = absurd (omega (arith, e))

pub merges_next : (c : Chains) (left i j : ℕ) → (left ≡ 0 → ⊥) → merges c left i j ≡ by_first c i j (merges c (left - 1)) ++ by_second c i j (merges c (left - 1))
merges_next c zero i j n = absurd (n refl)
merges_next c (suc left) i j n = let e : left ≡ suc left - 1 = omega arith in ap (λ l. by_first c i j (merges c l) ++ by_second c i j (merges c l)) e

-- a way to go on: nothing, or a leaf before all that comes behind it
abbrev pub GoesOnBy : ((ℕ → ℕ → List (List ℕ)) → List (List ℕ)) → ℕ → ℕ → ℕ → Type 0
GoesOnBy next leaf i j = (rest : ℕ → ℕ → List (List ℕ)) → next rest ≡ map (λ s. leaf ∷ s) (rest i j)

module _ (c : Chains) (left i j : ℕ) (more : left ≡ 0 → ⊥) (leaf i' j' : ℕ) where
  listed : (next : (ℕ → ℕ → List (List ℕ)) → List (List ℕ)) → GoesOnBy next leaf i' j' → (s : List ℕ) → Mem s (merges c (left - 1) i' j') → Mem (leaf ∷ s) (next (merges c (left - 1)))
  listed next g s m = subst (Mem (leaf ∷ s)) (sym (g (merges c (left - 1)))) (mem_map (λ s. leaf ∷ s) s (merges c (left - 1) i' j') m)

  -- what comes behind the leaf makes sequences with the leaf before it
  pub first_listed : GoesOnBy (by_first c i j) leaf i' j' → (s : List ℕ) → Mem s (merges c (left - 1) i' j') → Mem (leaf ∷ s) (merges c left i j)
  first_listed g s m = subst (Mem (leaf ∷ s)) (sym (merges_next c left i j more))
      (mem_left (leaf ∷ s) (by_first c i j (merges c (left - 1))) (by_second c i j (merges c (left - 1))) (listed (by_first c i j) g s m))

  pub second_listed : GoesOnBy (by_second c i j) leaf i' j' → (s : List ℕ) → Mem s (merges c (left - 1) i' j') → Mem (leaf ∷ s) (merges c left i j)
  second_listed g s m = subst (Mem (leaf ∷ s)) (sym (merges_next c left i j more))
      (mem_right (leaf ∷ s) (by_first c i j (merges c (left - 1))) (by_second c i j (merges c (left - 1))) (listed (by_second c i j) g s m))

-- ---- what is put behind the others

map_after : {X : Type 0} (f f' : List ℕ → X) (leaf : ℕ) (l : List (List ℕ)) → ((s : List ℕ) → f' s ≡ f (leaf ∷ s)) → map f' l ≡ map f (map (λ s. leaf ∷ s) l)
map_after f f' leaf [] e = refl
map_after f f' leaf (s ∷ l) e = ap (λ x. x ∷ map f' l) (e s) ∙ ap (λ k. f (leaf ∷ s) ∷ k) (map_after f f' leaf l e)

module _ {X : Type 0} (f : List ℕ → X) (next : (ℕ → ℕ → List (List ℕ)) → List (List ℕ)) (rest : ℕ → ℕ → List (List ℕ)) (old new : List X) where
  -- by a leaf
  pub goes_on : (leaf i j : ℕ) (f' : List ℕ → X) → GoesOnBy next leaf i j → ((s : List ℕ) → f' s ≡ f (leaf ∷ s)) → new ≡ old ++ map f' (rest i j) → new ≡ old ++ map f (next rest)
  goes_on leaf i j f' g e n = n ∙ ap (λ l. old ++ l) (map_after f f' leaf (rest i j) e ∙ ap (map f) (sym (g rest)))

  -- nothing
  pub stays : ((rest : ℕ → ℕ → List (List ℕ)) → next rest ≡ []) → new ≡ old → new ≡ old ++ map f (next rest)
  stays g e = e ∙ sym (append-nil old) ∙ ap (λ l. old ++ map f l) (sym (g rest))

-- the sequences by the first chain, then those by the second
pub both_ways : {X : Type 0} (f : List ℕ → X) (c : Chains) (left i j : ℕ) (old middle new : List X) → (left ≡ 0 → ⊥) → middle ≡ old ++ map f (by_first c i j (merges c (left - 1)))
    → new ≡ middle ++ map f (by_second c i j (merges c (left - 1))) → new ≡ old ++ map f (merges c left i j)
both_ways f c left i j old middle new more a b =
    let one = by_first c i j (merges c (left - 1)) in
    let two = by_second c i j (merges c (left - 1)) in
    b ∙ ap (λ l. l ++ map f two) a ∙ append_assoc old (map f one) (map f two) ∙ ap (λ l. old ++ l) (sym (map-append f one two) ∙ ap (map f) (sym (merges_next c left i j more)))

-- the numbers of what comes behind the leaf
pub assigned_next : (leaf given : ℕ) (table : List ℕ) (s : List ℕ) (now : List ℕ) → now ≡ slice_set table leaf (given + 1) → assigned s (given + 1 + 1) now ≡ assigned (leaf ∷ s) (given + 1) table
assigned_next leaf given table s now e = let one : given + 1 + 1 ≡ suc (given + 1) = omega arith in ap (λ n. assigned s n now) one ∙ ap (assigned s (suc (given + 1))) e
