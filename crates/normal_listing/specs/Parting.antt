-- The ways to part a set, from those of the set without its last leaf.
use Rattle.std.specs.Prelude.{ℕ, ◌+◌, ◌<◌, List, [], ◌∷◌}
use Rattle.std.specs.List.{flat_map}
use Rattle.normal_listing.specs.declared.parts.Part.{Part}

-- both numbers are below
abbrev pub BothBelow : ℕ → Part → Type 0
BothBelow unit p = (p.own < unit) × (p.others < unit)

-- the two parts of a set with one more leaf, whose bit is the unit: it stands with the first part or with the rest
abbrev pub both_ways : ℕ → Part → List Part
both_ways unit p = record { own = p.own + unit; others = p.others } ∷ record { own = p.own; others = p.others + unit } ∷ []

-- the parts of a set with one more leaf: the last leaf alone is the rest, or it is added to a part
abbrev pub with_last : ℕ → ℕ → List Part → List Part
with_last below unit parts = record { own = below; others = unit } ∷ flat_map (both_ways unit) parts
