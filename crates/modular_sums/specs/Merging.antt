-- How a falling sum and a multiple of another become one, term by term.
use Rattle.std.specs.Prelude.{ℕ, ◌-◌, List, [], ◌∷◌}
use Rattle.std.proofs.Common.{zero, suc}
use mathlib.Core.List.{◌++◌}
use Rattle.std.specs.declared.cmp.Ordering.{Ordering}
use Rattle.modular_sums.specs.Sums.{scale, Same}
use Rattle.modular_sums.specs.Falling.{Falls, AreNonzeroResidues}

-- the term, where its number isn't 0
abbrev pub unless_zero : {M : Type 0} → ℕ → M → List (ℕ × M)
unless_zero zero m = []
unless_zero (suc c) m = (suc c, m) ∷ []

-- What holds on the way: the terms so far fall with what is left of each sum behind them,
-- and together with what is left they are the first sum and the multiple of the second.
pub record IsMerging {M : Type 0} (compare : M → M → Ordering) (dec : Discrete M) (p c : ℕ) (one other made left right : List (ℕ × M)) : Type 0 where
  pub left_falls : Falls compare (made ++ left)
  pub right_falls : Falls compare (made ++ right)
  pub made_residues : AreNonzeroResidues p made
  pub left_residues : AreNonzeroResidues p left
  pub right_residues : AreNonzeroResidues p right
  pub adds_up : Same dec (p - 1) (made ++ (left ++ scale c right)) (one ++ scale c other)
