-- The permutations of 1 to m, as lists.
use Rattle.std.specs.Prelude.{ℕ, ◌≡◌, ◌<◌, ◌≤◌, List, [], ◌∷◌, map, flat_map, length}
use Rattle.std.proofs.Common.{zero, suc}
use Rattle.modular_sums.specs.Lists.{Mem, Distinct, nth_or}
use Rattle.shuffle_insertions.specs.Listing.{upto}

-- A permutation of 1 to m: a list of m numbers from 1 to m in which none stands twice.
pub record IsOrdering (m : ℕ) (v : List ℕ) : Type 0 where
  pub length_is : length v ≡ m
  pub within : (u : ℕ) → Mem u v → (0 < u) × (u ≤ m)
  pub distinct : Distinct v

-- the i-th number of a list, counted from 1; 0 where there is none
abbrev pub entry : List ℕ → ℕ → ℕ
entry v i = nth_or 0 v i

-- an entry of a list, and the other entries
pub record Pick : Type 0 where
  pub first : ℕ
  pub others : List ℕ

-- the picks of a list with x put before the other entries
abbrev pub behind : ℕ → List Pick → List Pick
behind x [] = []
behind x (p ∷ l) = record { first = p.first; others = x ∷ p.others } ∷ behind x l

-- each entry of a list in turn, with the other entries
abbrev pub picks : List ℕ → List Pick
picks [] = []
picks (x ∷ l) = record { first = x; others = l } ∷ behind x (picks l)

-- the permutations of a list of k numbers: each number in turn, followed by the permutations of the others
abbrev pub permutations : ℕ → List ℕ → List (List ℕ)
permutations zero l = [] ∷ []
permutations (suc k) l = flat_map (λ p. map (λ w. p.first ∷ w) (permutations k p.others)) (picks l)

-- All permutations of 1 to m; the law `all_relabellings` says: each once, in lexicographic order.
abbrev pub orderings : ℕ → List (List ℕ)
orderings m = permutations m (upto m)
