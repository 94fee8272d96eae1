-- The arities and the weights of the labels of a table.
use Rattle.std.specs.Prelude.{ℕ, ◌≡◌, List, length, map}
use Rattle.path_orders.specs.SeenKeys.{weight_in}
use Rattle.shuffle_trees.specs.LabelLists.{arity_in}
use Rattle.shuffle_transfer.specs.Labels.{labels, gen, inputs_of, words_of}
use Rattle.symmetric_trees.specs.Generators.{generators_of, part_of}
use Rattle.symmetric_trees.specs.declared.generators.Generator.{Generator}

-- The list has the arity of each label of the table, and nothing more.
pub record AreLabelArities (generators : List Generator) (arities : List ℕ) : Type 0 where
  pub count : length arities ≡ labels (generators_of generators)
  pub arities_are : (l : ℕ) → arity_in arities l ≡ inputs_of (generators_of generators) l

-- The list has for each label of the table the weight of its generator, and nothing more.
pub record AreLabelWeights (generators : List Generator) (weights label_weights : List ℕ) : Type 0 where
  pub count : length label_weights ≡ labels (generators_of generators)
  pub weights_are : (l : ℕ) → weight_in label_weights l ≡ weight_in weights (gen (generators_of generators) l)

-- the arity of a generator, and how many labels it has
abbrev pub arity_and_count : Generator → ℕ × ℕ
arity_and_count generator = (generator.arity, length (words_of (map part_of generator.parts)))
