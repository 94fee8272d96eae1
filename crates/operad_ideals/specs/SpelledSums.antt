-- Sums of sorted spellings.
use Rattle.std.specs.Prelude.{ℕ, ◌*◌, List, [], ◌∷◌}
use Rattle.labelled_trees.specs.Trees.{Tree}
use Rattle.operad_ideals.specs.Parts.{Part}
use Rattle.operad_ideals.specs.Sorting.{spelled, spelled_sign}
use Rattle.operad_ideals.specs.Presentations.{residue_of}

-- the sum with each tree's sorted spelling in its place, and each number multiplied by what stands for the sign modulo suc q:
-- its coefficients are those of the collected form
abbrev pub spelled_sum : ℕ → (ℕ → List Part) → List (ℕ × Tree ℕ) → List (ℕ × Tree ℕ)
spelled_sum q parts [] = []
spelled_sum q parts (x ∷ e) = (x.0 * residue_of q (spelled_sign parts x.1), spelled parts x.1) ∷ spelled_sum q parts e
