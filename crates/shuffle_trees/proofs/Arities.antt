-- The arities of labels.
use Rattle.std.proofs.Common.{ℕ, ◌<◌, ◌≤◌, List, length}
use Rattle.std.proofs.lemmas.List.{get_or_past}
use Rattle.shuffle_insertions.specs.Labels.{AreLabels}
use Rattle.shuffle_trees.specs.LabelLists.{arity_in, AreFew}

pub arities_fit : (labels : List ℕ) → AreFew labels → (label : ℕ) → label < length labels → (2 ≤ arity_in labels label) × (arity_in labels label ≤ 6)
arities_fit labels few label lt = few.arities label 0 lt

pub are_labels : (labels : List ℕ) → AreFew labels → AreLabels (length labels) (arity_in labels)
are_labels labels few = record {
  wide = λ l lt. (arities_fit labels few l lt).0;
  none = λ l le. get_or_past labels l 0 le;
}
