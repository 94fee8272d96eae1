-- The trees of words, one after the other.
use Rattle.std.specs.Prelude.{ℕ, ◌≡◌, List, [], ◌∷◌, Option, Some, None, Result, Ok, Err, IfOk}
use Rattle.std.specs.declared.alloc.AllocError.{AllocError}
use Rattle.labelled_trees.specs.Trees.{Tree}
use Rattle.labelled_trees.specs.Meaning.{tree_of}
use Rattle.labelled_trees.specs.declared.Tree as program
use Rattle.symmetric_trees.specs.declared.generators.Generator.{Generator}
use Rattle.normal_listing.specs.Words.{symbols}
use Rattle.normal_listing.specs.WordTexts.{IsSpelt}

-- What is read of a word: the tree over the table that has this word; nothing where memory runs out.
abbrev pub IsRead : List Generator → List ℕ → Result program.Tree AllocError → Type 0
IsRead generators word answer = (t : Tree ℕ) → IsSpelt generators t → word ≡ symbols t → IfOk answer (λ tree. tree_of tree ≡ t)

-- The next item is what is read of the first word that is left; there is none where no word is left.
abbrev pub GivesNext : List Generator → List (List ℕ) → Option (Result program.Tree AllocError) → List (List ℕ) → Type 0
GivesNext generators words None left = (words ≡ []) × (left ≡ [])
GivesNext generators words (Some answer) left = (word : List ℕ) × (words ≡ word ∷ left) × IsRead generators word answer
