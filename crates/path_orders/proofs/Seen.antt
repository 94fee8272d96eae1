-- Keys of trees, as the orders see them.
use Rattle.std.proofs.Common.{◌≡◌, ℕ, suc, ◌≤◌, length, ap, ◌∙◌, sym, subst, arith}
use Rattle.std.specs.Prelude.{List}
use mathlib.Core.Path.{ap₂}
use Rattle.std.specs.List.{sum_by}
use Rattle.labelled_trees.specs.Trees.{leaves}
use Rattle.labelled_trees.specs.Leaves.{AllLeaves}
use Rattle.shuffle_insertions.specs.Keys.{Key, words_below}
use Rattle.shuffle_trees.specs.Walks.{words}
use Rattle.shuffle_trees.proofs.Counts.{few_leaves, within_of_shuffle}
use Rattle.shuffle_trees.proofs.Walking.{words_end}
use Rattle.path_orders.specs.Laws.{FlatKeysAreSeen, KeysAreSeen}
use Rattle.path_orders.proofs.WeightSums.{weight-labels}
use Rattle.path_orders.proofs.WordLists.{length-leaves}

abbrev keyed : List (List ℕ) → List ℕ → ℕ → Key
keyed ws r m = record { words = ws; row = r; weight = m }

same_keyed : {v w : List (List ℕ)} {r s : List ℕ} {m n : ℕ} → v ≡ w → r ≡ s → m ≡ n → keyed v r m ≡ keyed w s n
same_keyed {w = w} {s = s} {m = m} e f g = ap₂ (λ ws rs. keyed ws rs m) e f ∙ ap (keyed w s) g

pub seen : KeysAreSeen
seen weights n t k v h same_words same_row same_labels =
    let many = length-leaves t in
    let few = few_leaves t v in
    let within : AllLeaves t (λ i. i ≤ length (leaves t)) = subst (λ m. AllLeaves t (λ i. i ≤ m)) (sym many) (within_of_shuffle n t h) in
    let spelled : words t ≡ words_below (suc (length (leaves t))) t = sym (words_end (length (leaves t)) t within (omega (arith, many, few))) in
    same_keyed (same_words ∙ spelled) same_row (ap (sum_by weights) same_labels ∙ weight-labels weights t)

pub flat_seen : FlatKeysAreSeen
flat_seen weights t k same_words same_row same_labels = same_keyed same_words same_row (ap (sum_by weights) same_labels ∙ weight-labels weights t)
