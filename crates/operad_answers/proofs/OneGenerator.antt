-- A table with one generator of two inputs.
use Rattle.std.proofs.Common.{ℕ, zero, suc, ◌<◌, List, [], ◌∷◌, get_or, refl, arith}
use Rattle.std.specs.List.{All}
use Rattle.symmetric_trees.specs.Generators.{SizesFit, IsArity, IsTable}
use Rattle.symmetric_trees.specs.declared.generators.Generator.{Generator}
use Rattle.symmetric_trees.specs.declared.generators.Part.{Part}
use Rattle.symmetric_trees.specs.declared.generators.PartKind.{PartKind}

-- the generator with two inputs of one kind
abbrev pub binary : List ℕ → PartKind → Generator
binary name kind = record { name = name; arity = 2; parts = record { kind = kind; size = 2 } ∷ [] }

module _ (name : List ℕ) (kind : PartKind) where
  arities : All (λ generator. IsArity generator.arity) (binary name kind ∷ [])
  arities zero d w = (omega arith, omega arith)
  arities (suc k) d w = absurd (omega (arith, w))

  one_size : (k : ℕ) (d : Part) → k < 1 → 0 < (get_or (record { kind = kind; size = 2 } ∷ []) k d).size
  one_size zero d w = omega arith
  one_size (suc k) d w = absurd (omega (arith, w))

  sizes : All SizesFit (binary name kind ∷ [])
  sizes zero d w = (one_size, refl)
  sizes (suc k) d w = absurd (omega (arith, w))

  pub binary_table : IsTable (binary name kind ∷ [])
  binary_table = record { few = omega arith; apart = λ i j d lt w. absurd (omega (arith, lt, w)); arities = arities; sizes = sizes }
