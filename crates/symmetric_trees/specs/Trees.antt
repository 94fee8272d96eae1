-- Trees over a table, and signs.
use Rattle.std.specs.Prelude.{ℕ, List}
use Rattle.labelled_trees.specs.Labelled as labelled
use Rattle.labelled_trees.specs.Trees.{Tree}
use Rattle.operad_ideals.specs.Laws.{arity}
use Rattle.symmetric_trees.specs.Generators.{parts_at}
use Rattle.symmetric_trees.specs.declared.generators.Generator.{Generator}

-- each vertex names a generator of the table and has as many inputs as its arity
abbrev pub Fits : List Generator → Tree ℕ → Type 0
Fits generators = labelled.Fits (arity (parts_at generators))

-- the tree fits the table and carries each of 1 to n once
abbrev pub IsLabelled : List Generator → ℕ → Tree ℕ → Type 0
IsLabelled generators = labelled.IsLabelled (arity (parts_at generators))
