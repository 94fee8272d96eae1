-- How many labels a generator has.
use Rattle.std.specs.Prelude.{ℕ, ◌*◌, ◌≡◌, ◌<◌, List, [], ◌∷◌, length}
use native.Mathlib.Decide.{ℕ_discrete}
use Rattle.labelled_trees.specs.Leaves.{one_if}
use Rattle.labelled_trees.specs.RangeSums.{range_sum}
use Rattle.operad_ideals.specs.Parts.{Kind, symmetric, skew, free, Part, parts_of}
use Rattle.operad_ideals.specs.Laws.{arity}
use Rattle.shuffle_insertions.specs.Counting.{factorial}
use Rattle.shuffle_transfer.specs.Labels.{labels, gen}

-- how many orders of the inputs of a part one label stands for: all of a symmetric or a skew part, one of a free part
abbrev pub kind_orders : Kind → ℕ → ℕ
kind_orders symmetric n = factorial n
kind_orders skew n = factorial n
kind_orders free n = 1

-- the product of these numbers over the parts of a generator
abbrev pub part_orders : List Part → ℕ
part_orders [] = 1
part_orders (p ∷ ps) = kind_orders p.kind p.size * part_orders ps

-- how many labels are of generator g
abbrev pub label_count : List (List Part) → ℕ → ℕ
label_count generators g = range_sum (labels generators) (λ l. one_if (ℕ_discrete (gen generators l) g))

-- A generator of k inputs has k! labels divided by the factorials of the sizes of its symmetric and skew parts.
abbrev pub LabelsCounted : Type 0
LabelsCounted = (generators : List (List Part)) (g : ℕ) → g < length generators
    → part_orders (parts_of generators g) * label_count generators g ≡ factorial (arity (parts_of generators) g)
