-- Words of one leaf.
use Rattle.std.specs.Prelude.{ℕ, ◌≡◌, List, [], ◌∷◌, length, map}
use Rattle.std.specs.declared.cmp.Ordering.{Ordering}
use Rattle.std.specs.Ordering.{nat_cmp}
use Rattle.std.specs.Cmp.Lexicographic.{slice_cmp}
use Rattle.labelled_trees.specs.Trees.{row}
use Rattle.labelled_trees.specs.Meaning.{tree_of}
use Rattle.labelled_trees.specs.declared.Tree as program
use Rattle.shuffle_insertions.specs.Keys.{words_at, words_at_row}

-- where each list has one word, these are the comparisons of their lengths and of their letters
abbrev pub WordsCompared : List (List ℕ) → List (List ℕ) → Ordering → Ordering → Type 0
WordsCompared vs ws lengths letters =
    (v w : List ℕ) → vs ≡ v ∷ [] → ws ≡ w ∷ []
    → (lengths ≡ nat_cmp (length v) (length w)) × (letters ≡ slice_cmp nat_cmp v w)

-- where the leaf has one word among the inputs, it is its word in this input
abbrev pub SameWord : ℕ → List program.Tree → program.Tree → Type 0
SameWord number inputs input = (w : List ℕ) → words_at_row number (row (map tree_of inputs)) ≡ w ∷ [] → words_at number (tree_of input) ≡ w ∷ []

-- the leaf has no word among the inputs
abbrev pub NoWord : ℕ → List program.Tree → Type 0
NoWord number inputs = words_at_row number (row (map tree_of inputs)) ≡ []
