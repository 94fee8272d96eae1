-- Lists of the trees with a property, in the spelling order.
use Rattle.std.proofs.Common.{◌≡◌, ℕ}
use Rattle.labelled_trees.specs.Trees.{Tree}
use Rattle.operad_ideals.proofs.TreeLists.{Trees, one_ascending, ascending_once, sorted, sorted_ascending, sorted_has}
use Rattle.shuffle_completion.specs.Existence.{AreThose}
use Rattle.operad_answers.specs.Parts.{ListsInOrder}

pub those_of_order : (P : Tree ℕ → Type 0) (l : Trees) → ListsInOrder P l → AreThose P l
those_of_order P l h = record { once = ascending_once l h.ascending; all = h.all }

pub one_in_order : (P : Tree ℕ → Type 0) (k l : Trees) → ListsInOrder P k → ListsInOrder P l → k ≡ l
one_in_order P k l a b = one_ascending k l a.ascending b.ascending (λ u m. (b.all u).1 ((a.all u).0 m)) (λ u m. (a.all u).1 ((b.all u).0 m))

pub in_order : (P : Tree ℕ → Type 0) (l : Trees) → AreThose P l → ListsInOrder P (sorted l)
in_order P l h = record { ascending = sorted_ascending l; all = λ t. (λ m. (h.all t).0 ((sorted_has l t).0 m), λ k. (sorted_has l t).1 ((h.all t).1 k)) }
