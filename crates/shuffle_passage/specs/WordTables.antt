-- The words of each generator of a table.
use Rattle.std.specs.Prelude.{ℕ, ◌+◌, List, [], ◌∷◌, map, Bool}
use Rattle.symmetric_trees.specs.Generators.{part_of}
use Rattle.symmetric_trees.specs.declared.generators.Generator.{Generator}
use Rattle.shuffle_passage.specs.Words.{bounds_of, endings}
use Rattle.shuffle_passage.specs.declared.words.Words.{Words}

-- the bounds of a generator
abbrev pub bounds_in : Generator → List Bool
bounds_in generator = bounds_of (map part_of generator.parts)

-- the words of each generator, where the first one has this label
abbrev pub words_from : ℕ → List Generator → List Words
words_from first [] = []
words_from first (g ∷ gs) = record { first = first; end = first + endings (bounds_in g) 0; bounds = bounds_in g } ∷ words_from (first + endings (bounds_in g) 0) gs
