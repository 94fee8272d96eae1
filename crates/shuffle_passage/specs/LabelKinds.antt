-- The labels of a table, kind by kind.
use Rattle.std.specs.Prelude.{ℕ}
use Rattle.symmetric_trees.specs.declared.generators.Generator.{Generator}
use Rattle.shuffle_passage.specs.Words.{endings}
use Rattle.shuffle_passage.specs.WordTables.{bounds_in}

-- the arity of a generator, and how many words it has
abbrev pub kind_in : Generator → ℕ × ℕ
kind_in generator = (generator.arity, endings (bounds_in generator) 0)
