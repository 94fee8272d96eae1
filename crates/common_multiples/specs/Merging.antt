-- Two chains of leaves merged: the numbers from 1 on are given out one after the other, so that they rise along both chains.
use Rattle.std.specs.Prelude.{ℕ, ◌≡◌, ◌<◌, ◌≤◌, List, [], ◌∷◌, ◌++◌, map, slice_set, ◌⊎◌}
use Rattle.std.proofs.Common.{zero, suc}
use native.Mathlib.Decide.{ℕ_discrete, dec_le}
use Rattle.modular_sums.specs.Lists.{choose}

-- two chains of leaves, of m and k places from 1 on, and the place of a leaf on each, which is 0 where it isn't there
pub record Chains : Type 0 where
  pub first : ℕ → ℕ
  pub second : ℕ → ℕ
  pub on_first : ℕ → ℕ
  pub on_second : ℕ → ℕ
  pub m : ℕ
  pub k : ℕ

-- the sequences that begin with the i-th leaf of the first chain, where the second comes next on both chains or isn't on the second
abbrev pub by_first : Chains → ℕ → ℕ → (ℕ → ℕ → List (List ℕ)) → List (List ℕ)
by_first c i j rest = choose (dec_le i c.m)
    (choose (ℕ_discrete (c.on_second (c.first i)) 0) (map (λ s. c.first i ∷ s) (rest (suc i) j))
    (choose (ℕ_discrete (c.on_second (c.first i)) j) (map (λ s. c.first i ∷ s) (rest (suc i) (suc j))) [])) []

-- the sequences that begin with the j-th leaf of the second chain, where it isn't on the first
abbrev pub by_second : Chains → ℕ → ℕ → (ℕ → ℕ → List (List ℕ)) → List (List ℕ)
by_second c i j rest = choose (dec_le j c.k) (choose (ℕ_discrete (c.on_first (c.second j)) 0) (map (λ s. c.second j ∷ s) (rest i (suc j))) []) []

-- the sequences of so many leaves in which both chains are in order, from the i-th leaf of the first and the j-th of the second on
abbrev pub merges : Chains → (left i j : ℕ) → List (List ℕ)
merges c zero i j = [] ∷ []
merges c (suc left) i j = by_first c i j (merges c left) ++ by_second c i j (merges c left)

-- the table with n, n + 1 and so on at the leaves of the list
abbrev pub assigned : List ℕ → ℕ → List ℕ → List ℕ
assigned [] n table = table
assigned (x ∷ s) n table = assigned s (suc n) (slice_set table x n)

-- Two chains of the leaves 1 to n, each leaf on one of them or on both.
pub record AreChains (c : Chains) (n : ℕ) : Type 0 where
  pub first_in : (i : ℕ) → 0 < i → i ≤ c.m → (0 < c.first i) × (c.first i ≤ n)
  pub first_back : (i : ℕ) → 0 < i → i ≤ c.m → c.on_first (c.first i) ≡ i
  pub first_there : (z : ℕ) → 0 < z → z ≤ n → 0 < c.on_first z → (c.on_first z ≤ c.m) × (c.first (c.on_first z) ≡ z)
  pub second_in : (j : ℕ) → 0 < j → j ≤ c.k → (0 < c.second j) × (c.second j ≤ n)
  pub second_back : (j : ℕ) → 0 < j → j ≤ c.k → c.on_second (c.second j) ≡ j
  pub second_there : (z : ℕ) → 0 < z → z ≤ n → 0 < c.on_second z → (c.on_second z ≤ c.k) × (c.second (c.on_second z) ≡ z)
  pub each : (z : ℕ) → 0 < z → z ≤ n → (0 < c.on_first z) ⊎ (0 < c.on_second z)

-- A numbering of the leaves 1 to n by 1 to n, each once, that rises along both chains.
pub record IsMerged (c : Chains) (n : ℕ) (number : ℕ → ℕ) : Type 0 where
  pub first_rise : (i j : ℕ) → 0 < i → i < j → j ≤ c.m → number (c.first i) < number (c.first j)
  pub second_rise : (i j : ℕ) → 0 < i → i < j → j ≤ c.k → number (c.second i) < number (c.second j)
  pub into : (z : ℕ) → 0 < z → z ≤ n → (0 < number z) × (number z ≤ n)
  pub onto : (u : ℕ) → 0 < u → u ≤ n → (z : ℕ) × (0 < z) × (z ≤ n) × (number z ≡ u)
  pub apart : (y z : ℕ) → 0 < y → y ≤ n → 0 < z → z ≤ n → number y ≡ number z → y ≡ z
