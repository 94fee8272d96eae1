-- Sums whose trees have the arity of the divisor at a place.
use Rattle.std.proofs.Common.{◌≡◌, ℕ, List, sym, subst, ◌∙◌}
use Rattle.modular_sums.proofs.Images.{AllTerms-imp}
use Rattle.modular_sums.proofs.Sums.{AllTerms-moved}
use Rattle.labelled_trees.specs.Leaves.{leaf_count}
use Rattle.labelled_trees.specs.Trees.{Tree}
use Rattle.shuffle_insertions.specs.ShuffleTrees.{IsShuffle, IsShuffleTree}
use Rattle.shuffle_places.specs.Places.{divisor_at}
use Rattle.shuffle_sums.specs.Inserting.{FitPlace}
use Rattle.shuffle_sums.specs.Shelves.{Shelf}
use Rattle.shuffle_sums.specs.Sums.{AreTrees, over}
use Rattle.shuffle_trees.proofs.Counts.{count_of_shuffle}
use Rattle.shuffle_trees.specs.LabelLists.{arity_in}
use Rattle.tree_store.specs.Stores.{tree_at}

-- trees of one arity fit a place whose divisor has that arity
pub fit_place : (shelf : Shelf) (n : ℕ) (place : List ℕ) (host divisor : Tree ℕ) (sum : List (ℕ × ℕ)) → divisor ≡ divisor_at place host → IsShuffle n divisor → AreTrees shelf n sum → FitPlace place host (over shelf sum)
fit_place shelf n place host divisor sum is shuffle trees =
    AllTerms-moved (tree_at shelf.trees) sum (λ t. leaf_count t ≡ leaf_count (divisor_at place host))
    (AllTerms-imp (λ id. IsShuffleTree (arity_in shelf.labels) n (tree_at shelf.trees id)) (λ id. leaf_count (tree_at shelf.trees id) ≡ leaf_count (divisor_at place host)) sum
    (λ id h. count_of_shuffle n (tree_at shelf.trees id) h.shuffle ∙ sym (subst (λ d. leaf_count d ≡ n) is (count_of_shuffle n divisor shuffle))) trees)
