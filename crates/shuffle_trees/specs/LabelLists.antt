-- Lists of labels.
use Rattle.std.specs.Prelude.{ℕ, ◌≤◌, List, [], ◌∷◌, ◌++◌, length, replicate, slice_index}
use Rattle.std.specs.List.{All}

-- for each pair of an arity and a number, as many labels of that arity
abbrev pub labels_of_kinds : List (ℕ × ℕ) → List ℕ
labels_of_kinds [] = []
labels_of_kinds (kind ∷ kinds) = replicate kind.1 kind.0 ++ labels_of_kinds kinds

-- At most 8,640 labels, each with two to six inputs.
pub record AreFew (labels : List ℕ) : Type 0 where
  pub count : length labels ≤ 8640
  pub arities : All (λ a. (2 ≤ a) × (a ≤ 6)) labels

-- the number of inputs of a label; 0 where there is no such label
abbrev pub arity_in : List ℕ → ℕ → ℕ
arity_in labels label = slice_index labels label
