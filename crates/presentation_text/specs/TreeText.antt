-- The tokens and the text of a tree.
use Rattle.std.specs.Prelude.{ℕ, zero, suc, ◌<◌, max, List, [], ◌∷◌, ◌++◌, length}
use Rattle.std.specs.List.{flat_map}
use Rattle.std.specs.Fmt.{decimal}
use Rattle.labelled_trees.specs.Trees.{Tree, Row, leaf, node, none, more}
use Rattle.symmetric_trees.specs.declared.generators.Generator.{Generator}
use Rattle.presentation_text.specs.Tokens.{IsWord}
use Rattle.presentation_text.specs.declared.lexing.Token.{Token}
use Rattle.presentation_text.specs.declared.lexing.Token.TheVariants.{Word, Number, Long, Byte, Bad}

-- the name of generator g of a table; no bytes where there is none
abbrev pub name_of : List Generator → ℕ → List ℕ
name_of [] g = []
name_of (x ∷ xs) zero = x.name
name_of (x ∷ xs) (suc g) = name_of xs g

-- each name of the table is a word
abbrev pub HasWords : List Generator → Type 0
HasWords generators = (g : ℕ) → g < length generators → IsWord (name_of generators g)

-- A tree is a number (a leaf), or a name, '(', the inputs separated by ',', and ')'.
abbrev mutual
  pub tree_tokens : List Generator → Tree ℕ → List Token
  tree_tokens generators (leaf n) = Number n ∷ []
  tree_tokens generators (node g r) = Word (name_of generators g) ∷ Byte 40 ∷ (row_tokens generators r ++ Byte 41 ∷ [])

  -- inputs with a ',' between them
  pub row_tokens : List Generator → Row ℕ → List Token
  row_tokens generators none = []
  row_tokens generators (more t r) = tree_tokens generators t ++ more_tokens generators r

  -- inputs with a ',' before each
  pub more_tokens : List Generator → Row ℕ → List Token
  more_tokens generators none = []
  more_tokens generators (more t r) = Byte 44 ∷ (tree_tokens generators t ++ more_tokens generators r)

-- The text of a token: a word's bytes, a number's digits without leading zeros, the single byte;
-- no tree has tokens of the other kinds.
abbrev pub token_text : Token → List ℕ
token_text (Word name) = name
token_text (Number n) = decimal n
token_text (Byte c) = c ∷ []
token_text Long = []
token_text Bad = []

-- A tree is printed without blanks: its text is the texts of its tokens, one behind the other.
abbrev pub tree_text : List Generator → Tree ℕ → List ℕ
tree_text generators t = flat_map token_text (tree_tokens generators t)

-- how many generators stand one inside the other
abbrev mutual
  pub nested : Tree ℕ → ℕ
  nested (leaf n) = 0
  nested (node g r) = suc (nested_row r)

  pub nested_row : Row ℕ → ℕ
  nested_row none = 0
  nested_row (more t r) = max (nested t) (nested_row r)
