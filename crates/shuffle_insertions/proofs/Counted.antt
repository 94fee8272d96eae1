-- How often a thing stands in a list.
use Rattle.std.proofs.Common.{◌≡◌, ◌+◌, ◌<◌, ◌≤◌, List, [], ◌∷◌, refl, sym, arith, inl, inr, ◌⊎◌}
use Rattle.modular_sums.specs.Lists.{Mem, Distinct}
use Rattle.labelled_trees.specs.Leaves.{times, one_if}
use Rattle.labelled_trees.proofs.Leaves.{one_if-yes}

pub mem_times : {X : Type 0} (dec : Discrete X) (x : X) (l : List X) → Mem x l → 0 < times dec x l
mem_times dec x [] h = absurd h
mem_times dec x (y ∷ l) (inl e) = let o = one_if-yes (dec y x) (sym e) in omega (arith, o)
mem_times dec x (y ∷ l) (inr h) = omega (arith, mem_times dec x l h)

pub times_mem : {X : Type 0} (dec : Discrete X) (x : X) (l : List X) → 0 < times dec x l → Mem x l
times_mem dec x [] h = absurd (omega arith)
times_mem dec x (y ∷ l) h = go (dec y x) (λ k. times_mem dec x l k) h
  where
    go : (d : Dec (y ≡ x)) → (0 < times dec x l → Mem x l) → 0 < one_if d + times dec x l → (x ≡ y) ⊎ Mem x l
    go (yes e) f h = inl (sym e)
    go (no _) f h = inr (f (omega arith))

-- a list in which nothing stands more than once
pub distinct_times : {X : Type 0} (dec : Discrete X) (l : List X) → ((x : X) → times dec x l ≤ 1) → Distinct l
distinct_times dec [] h = tt
distinct_times dec (x ∷ l) h = (
  λ m. let o = one_if-yes (dec x x) refl in let k = h x in let p = mem_times dec x l m in absurd (omega (arith, o, k, p)),
  distinct_times dec l (λ y. let k = h y in omega (arith, k)),
)
