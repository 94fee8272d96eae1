-- Tables of generators, and what they mean.
use Rattle.std.specs.Prelude.{ℕ, ◌≡◌, ◌<◌, ◌≤◌, List, [], ◌∷◌, ◌++◌, length, map, Result, Ok, Err}
use Rattle.std.specs.List.{All, AllPairs, Any, sum_by}
use Rattle.operad_ideals.specs.Parts.{Kind, symmetric, skew, free, parts_of}
use Rattle.operad_ideals.specs.Parts as inputs
use Rattle.symmetric_trees.specs.declared.generators.PartKind.{PartKind}
use Rattle.symmetric_trees.specs.declared.generators.PartKind.TheVariants.{Sym, Alt, Free}
use Rattle.symmetric_trees.specs.declared.generators.Part.{Part}
use Rattle.symmetric_trees.specs.declared.generators.Generator.{Generator}
use Rattle.symmetric_trees.specs.declared.generators.GenFail.{GenFail}
use Rattle.symmetric_trees.specs.declared.generators.GenFail.TheVariants.{NameTaken, ArityOut, TooManyGens, PartsOut, NoMemory}

-- ---- what a table means

abbrev pub kind_of : PartKind → Kind
kind_of Sym = symmetric
kind_of Alt = skew
kind_of Free = free

abbrev pub part_of : Part → inputs.Part
part_of part = record { kind = kind_of part.kind; size = part.size }

-- each generator as the list of its parts
abbrev pub generators_of : List Generator → List (List inputs.Part)
generators_of = map (λ generator. map part_of generator.parts)

-- the parts of generator g of a table
abbrev pub parts_at : List Generator → ℕ → List inputs.Part
parts_at generators = parts_of (generators_of generators)

-- ---- which generators stand in a table

abbrev pub IsNamed : List ℕ → Generator → Type 0
IsNamed name generator = generator.name ≡ name

-- each size is one or more, and together they are the arity
abbrev pub SizesFit : Generator → Type 0
SizesFit generator = All (λ part. 0 < part.size) generator.parts × (sum_by (λ part. part.size) generator.parts ≡ generator.arity)

abbrev pub IsArity : ℕ → Type 0
IsArity n = (2 ≤ n) × (n ≤ 6)

-- at most twelve generators with different names, arities from 2 to 6 and parts that fit their arity
pub record IsTable (generators : List Generator) : Type 0 where
  pub few : length generators ≤ 12
  pub apart : AllPairs (λ one other. one.name ≡ other.name → ⊥) generators
  pub arities : All (λ generator. IsArity generator.arity) generators
  pub sizes : All SizesFit generators

-- ---- the answers of `add`, each with its cause

abbrev pub IsTaken : List ℕ → List Generator → Type 0
IsTaken name generators = Any (IsNamed name) generators

-- the generator may be added
pub record MayBeAdded (old : List Generator) (generator : Generator) : Type 0 where
  pub room : length old < 12
  pub new_name : IsTaken generator.name old → ⊥
  pub arity : IsArity generator.arity
  pub sizes : SizesFit generator

-- the first thing that stands against it; want of memory may come where nothing does
abbrev pub Refuses : List Generator → Generator → GenFail → Type 0
Refuses old generator TooManyGens = length old ≡ 12
Refuses old generator NameTaken = (length old < 12) × IsTaken generator.name old
Refuses old generator ArityOut = (length old < 12) × (IsTaken generator.name old → ⊥) × (IsArity generator.arity → ⊥)
Refuses old generator PartsOut = (length old < 12) × (IsTaken generator.name old → ⊥) × IsArity generator.arity × (SizesFit generator → ⊥)
Refuses old generator NoMemory = MayBeAdded old generator

abbrev pub GeneratorIsAdded : List Generator → Generator → Result (Unit {0}) GenFail → List Generator → Type 0
GeneratorIsAdded old generator (Ok done) new = (new ≡ old ++ generator ∷ []) × MayBeAdded old generator
GeneratorIsAdded old generator (Err fail) new = (new ≡ old) × Refuses old generator fail
