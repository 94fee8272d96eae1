use Rattle.std.proofs.Common.{◌≡◌, ◌∙◌, ℕ, suc, sym, subst}
use mathlib.Core.Path.{ap₂}
use Rattle.std.specs.Cmp.Lexicographic.{slice_cmp}
use Rattle.labelled_trees.specs.Trees.{Tree}
use Rattle.labelled_trees.specs.Meaning.{tree_of}
use Rattle.shuffle_insertions.specs.ShuffleTrees.{IsShuffle}
use Rattle.shuffle_insertions.specs.Keys.{words_below}
use Rattle.path_orders.specs.Comparing.{words_by, key_words}
use Rattle.path_orders.proofs.WordLists.{one_number}
use Rattle.path_orders.proofs.orders.by_words.Goals as goal
use Rattle.shuffle_insertions.proofs.TreeOrders.{leaves_count}

key_is : (n : ℕ) (x t : Tree ℕ) → x ≡ t → IsShuffle n t → words_below (suc n) x ≡ key_words t
key_is n x t e h = ap₂ (λ m u. words_below (suc m) u) (sym (leaves_count n t h)) e

pub returns : goal.returns
returns c =
    let a = c.args.a.now in
    let b = c.args.b.now in
    let n = c.leaves_of.result in
    let same = one_number c.requires.comparable.0 n a c.requires.comparable.1 c.leaves_of.ensures in
    c.compare_paths.ensures.compared
    ∙ ap₂ (slice_cmp (words_by c.args.short)) (key_is n (tree_of c.shape.result.now) a c.shape.ensures.shape c.leaves_of.ensures)
    (key_is n (tree_of c.shape-2.result.now) b c.shape-2.ensures.shape (subst (λ m. IsShuffle m b) same c.requires.comparable.2))
