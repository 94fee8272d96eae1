-- The words of trees.
use Rattle.std.specs.Prelude.{ℕ, ◌+◌, ◌<◌, ◌≤◌, ◌≡◌, List, [], ◌∷◌, ◌++◌, length, map}
use Rattle.std.specs.Ordering.{nat_cmp}
use Rattle.std.specs.Cmp.Lexicographic.{slice_cmp}
use Rattle.labelled_trees.specs.Trees.{Tree, Row, leaf, node, none, more, map_tree}
use Rattle.labelled_trees.specs.Leaves.{AllLeaves, leaf_count}
use Rattle.labelled_trees.specs.Labelled.{Fits}
use Rattle.operad_ideals.specs.SpellingOrder.{order}
use Rattle.normal_listing.specs.Places.{IsSymbol, IsShortWord, number_of}

-- The symbols of a tree in preorder: leaf i is i, and a vertex with generator g is 10 + g.
abbrev mutual
  pub symbols : Tree ℕ → List ℕ
  symbols (leaf i) = i ∷ []
  symbols (node g r) = (10 + g) ∷ symbols_row r

  pub symbols_row : Row ℕ → List ℕ
  symbols_row none = []
  symbols_row (more t r) = symbols t ++ symbols_row r

-- leaves are numbered from 1 to 9
abbrev pub IsLeafDigit : ℕ → Type 0
IsLeafDigit i = (0 < i) × (i < 10)

-- at most 22 generators have an arity
abbrev pub HasFewGenerators : (ℕ → ℕ) → Type 0
HasFewGenerators arity = (g : ℕ) → 2 ≤ arity g → g < 22

-- A tree that has a word: it fits the arities, has at most 9 leaves, and their numbers are from 1 to 9.
pub record HasWord (arity : ℕ → ℕ) (t : Tree ℕ) : Type 0 where
  pub fits : Fits arity t
  pub leaves : AllLeaves t IsLeafDigit
  pub few : leaf_count t ≤ 9

-- Trees of one list of arities, and their words: they are words, they compare as the trees do, as lists and as numbers,
-- and trees with one word are one.
pub record WordsSpell : Type 0 where
  pub words : (arity : ℕ → ℕ) (t : Tree ℕ) → HasFewGenerators arity → HasWord arity t → IsShortWord (symbols t)
  pub compared : (arity : ℕ → ℕ) (t u : Tree ℕ) → HasWord arity t → HasWord arity u → slice_cmp nat_cmp (symbols t) (symbols u) ≡ order t u
  pub numbers : (arity : ℕ → ℕ) (t u : Tree ℕ) → HasFewGenerators arity → HasWord arity t → HasWord arity u → nat_cmp (number_of (symbols t)) (number_of (symbols u)) ≡ order t u
  pub apart : (arity : ℕ → ℕ) (t u : Tree ℕ) → HasWord arity t → HasWord arity u → symbols t ≡ symbols u → t ≡ u

-- a number from 1 to n
abbrev pub IsUpTo : ℕ → ℕ → Type 0
IsUpTo n i = (0 < i) × (i ≤ n)

-- a table of symbols that renames the leaves 1 to n by f, and keeps the symbols of vertices
pub record RenamesLeaves (n : ℕ) (f : ℕ → ℕ) (table : ℕ → ℕ) : Type 0 where
  pub leaves : (i : ℕ) → IsUpTo n i → table i ≡ f i
  pub vertices : (g : ℕ) → g < 22 → table (10 + g) ≡ 10 + g

-- The word of a tree with other leaves.
abbrev pub RenamedTrees : Type 0
RenamedTrees = (n : ℕ) (f table : ℕ → ℕ) (t : Tree ℕ) → RenamesLeaves n f table → IsShortWord (symbols t) → AllLeaves t (IsUpTo n) → map table (symbols t) ≡ symbols (map_tree f t)
