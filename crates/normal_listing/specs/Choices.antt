-- Lists of chosen things, one for each input of a vertex.
use Rattle.std.specs.Prelude.{ℕ, ◌<◌, List, [], ◌∷◌, map, slice_index_or}
use Rattle.std.proofs.Common.{zero, suc}
use Rattle.std.specs.List.{flat_map}
use Rattle.modular_sums.specs.Lists.{Mem}
use Rattle.normal_listing.specs.declared.parts.Part.{Part}

-- entry n of a list of lists; nothing where there is none
abbrev pub entry : {X : Type 0} → List (List X) → ℕ → List X
entry lists n = slice_index_or lists n []

-- each of the things before each of the lists
abbrev pub each_before : {X : Type 0} → List X → List (List X) → List (List X)
each_before things lists = flat_map (λ x. map (λ l. x ∷ l) lists) things

-- The choices of k things for a set: one for a first part of the set, and the others for the rest, in turn.
-- Entry n of `on` has the things on the set with number n, and entry n of `parted` the ways to part that set.
abbrev pub choices : {X : Type 0} → List (List X) → List (List Part) → ℕ → ℕ → List (List X)
choices on parted zero set = [] ∷ []
choices on parted (suc zero) set = each_before (entry on set) ([] ∷ [])
choices on parted (suc (suc k)) set = flat_map (λ p. each_before (entry on p.own) (choices on parted (suc k) p.others)) (entry parted set)

-- each part is a set that there are things for, and so is the rest
abbrev pub ArePartsBelow : ℕ → List (List Part) → Type 0
ArePartsBelow sets parted = (n : ℕ) (p : Part) → Mem p (entry parted n) → (p.own < sets) × (p.others < sets)
