-- What holds of the sorted spelling.
use Rattle.std.specs.Prelude.{ℕ, ◌≡◌, List}
use Rattle.labelled_trees.specs.Trees.{Tree}
use Rattle.labelled_trees.specs.Labelled.{IsLabelled}
use Rattle.operad_ideals.specs.Parts.{Part, Sign, total}
use Rattle.operad_ideals.specs.Spelling.{Agrees, IsSpelling}
use Rattle.operad_ideals.specs.Sorting.{spelled, spelled_sign}

-- the arity of each generator
abbrev pub arity : (ℕ → List Part) → ℕ → ℕ
arity parts g = total (parts g)

-- A labelled tree has exactly one sorted spelling, with exactly one sign.
abbrev pub OneSpelling : Type 0
OneSpelling = (parts : ℕ → List Part) (n : ℕ) (t : Tree ℕ) → IsLabelled (arity parts) n t
    → IsSpelling parts t (spelled_sign parts t) (spelled parts t)
    × ((s : Sign) (u : Tree ℕ) → IsSpelling parts t s u → (s ≡ spelled_sign parts t) × (u ≡ spelled parts t))

-- What agrees with a labelled tree is labelled by the same numbers over the same generators.
abbrev pub AgreementKeepsLabels : Type 0
AgreementKeepsLabels = (parts : ℕ → List Part) (n : ℕ) (s : Sign) (t u : Tree ℕ) → Agrees parts s t u → IsLabelled (arity parts) n t → IsLabelled (arity parts) n u
