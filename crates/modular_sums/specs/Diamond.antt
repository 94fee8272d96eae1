-- The diamond lemma over any monomials with a rank.
use Rattle.std.specs.Prelude.{ℕ, ◌<◌, ◌≤◌, List, ◌++◌}
use Rattle.std.proofs.Common.{◌≢◌}
use Rattle.modular_sums.specs.Residues.{IsCongruent}
use Rattle.modular_sums.specs.Sums.{coef, scale, Same, expand, AllTerms}

-- the sum has coefficient 0 at each monomial but m whose rank is that of m or greater
abbrev pub NothingAbove : {M : Type 0} → Discrete M → (M → ℕ) → ℕ → List (ℕ × M) → M → Type 0
NothingAbove {M} dec rank q e m = (t : M) → t ≢ m → rank m ≤ rank t → IsCongruent q (coef dec e t) 0

-- Each instance has a leading term: its greatest monomial, with coefficient 1.
pub record HaveLeadingTerms {M I : Type 0} (dec : Discrete M) (rank : M → ℕ) (q : ℕ) (value : I → List (ℕ × M)) (lead : I → M) : Type 0 where
  pub at_lead : (i : I) → IsCongruent q (coef dec (value i) (lead i)) 1
  pub above : (i : I) → NothingAbove dec rank q (value i) (lead i)

-- the leading monomial of each of the instances has a rank below n
abbrev pub LeadsBelow : {M I : Type 0} → (M → ℕ) → (I → M) → ℕ → List (ℕ × I) → Type 0
LeadsBelow rank lead n l = AllTerms l (λ i. rank (lead i) < n)

-- The difference of two instances is a sum of instances with lower leading monomials.
pub record Meet {M I : Type 0} (dec : Discrete M) (rank : M → ℕ) (q : ℕ) (value : I → List (ℕ × M)) (lead : I → M) (i j : I) : Type 0 where
  pub uses : List (ℕ × I)
  pub lower : LeadsBelow rank lead (rank (lead i)) uses
  pub adds_up : Same dec q (value i ++ scale q (value j)) (expand value uses)

-- The greatest monomial of the sum is the leading one of an instance.
pub record Led {M I : Type 0} (dec : Discrete M) (rank : M → ℕ) (q : ℕ) (lead : I → M) (e : List (ℕ × M)) : Type 0 where
  pub by_instance : I
  pub there : IsCongruent q (coef dec e (lead by_instance)) 0 → ⊥
  pub above : NothingAbove dec rank q e (lead by_instance)
