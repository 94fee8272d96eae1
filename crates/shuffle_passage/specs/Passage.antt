-- What the calls of the passage answer.
use Rattle.std.specs.Prelude.{ℕ, ◌≡◌, List, length}
use Rattle.labelled_trees.specs.Trees.{Tree}
use Rattle.symmetric_trees.specs.Generators.{generators_of}
use Rattle.symmetric_trees.specs.Trees.{IsLabelled}
use Rattle.symmetric_trees.specs.Spelling.{IsSpelling}
use Rattle.symmetric_trees.specs.declared.generators.Generator.{Generator}
use Rattle.symmetric_trees.specs.declared.spelling.Sign.{Sign}
use Rattle.shuffle_trees.specs.LabelLists.{arity_in}
use Rattle.shuffle_transfer.specs.Labels.{labels, inputs_of, shuffle_form, symmetric_tree}

-- The list has the arity of each label of a table: as many labels as there are words of generators, numbered as these are.
pub record AreLabelsOf (generators : List Generator) (arities : List ℕ) : Type 0 where
  pub count : length arities ≡ labels (generators_of generators)
  pub arities_are : (l : ℕ) → arity_in arities l ≡ inputs_of (generators_of generators) l

-- The tree s is the shuffle form of the sorted spelling of t, with the sign of that spelling; the way back gives the sorted spelling.
pub record IsFormOf (generators : List Generator) (t : Tree ℕ) (sign : Sign) (s : Tree ℕ) : Type 0 where
  pub sorted : Tree ℕ
  pub spelling : IsSpelling generators t sign sorted
  pub form : s ≡ shuffle_form (generators_of generators) sorted
  pub back : symmetric_tree (generators_of generators) s ≡ sorted

-- A labelled tree has one shuffle form, with one sign.
abbrev pub OneShuffleForm : Type 0
OneShuffleForm = (generators : List Generator) (n : ℕ) (t : Tree ℕ) (a b : Sign) (s r : Tree ℕ) → IsLabelled generators n t
    → IsFormOf generators t a s → IsFormOf generators t b r → (a ≡ b) × (s ≡ r)
