-- Reading a tree: what may stand at each token, and what is refused.
use Rattle.std.specs.Prelude.{ℕ, zero, suc, ◌≡◌, ◌≤◌, ◌+◌, Bool, true, false, not, ◌&&◌, ◌==◌, nat_le, nat_lt, if◌then◌else◌, List, [], ◌∷◌, ◌++◌, length, drop, Option, Some, None, Result, Ok, Err, MatchResult}
use Rattle.std.specs.Str.{bytes_eq}
use Rattle.labelled_trees.specs.Trees.{Tree, Row, leaf, node, none, more}
use Rattle.labelled_trees.specs.Leaves.{leaf_count, occurs}
use Rattle.labelled_trees.specs.Meaning.{tree_of}
use Rattle.labelled_trees.specs.declared.Tree as program
use Rattle.operad_ideals.specs.Laws.{arity}
use Rattle.symmetric_trees.specs.Generators.{parts_at}
use Rattle.symmetric_trees.specs.Trees.{Fits}
use Rattle.symmetric_trees.specs.declared.generators.Generator.{Generator}
use Rattle.presentation_text.specs.declared.kinds.DocKind.{DocKind}
use Rattle.presentation_text.specs.declared.kinds.DocKind.TheVariants.{NameUnknown, TooDeep, TooWide, InputCount, Labels, ArityOut, MixedArity, Syntax}
use Rattle.presentation_text.specs.declared.kinds.PartFail.{PartFail}
use Rattle.presentation_text.specs.declared.lexing.Token.{Token}
use Rattle.presentation_text.specs.declared.lexing.Token.TheVariants.{Word, Number}
use Rattle.presentation_text.specs.declared.trees.Demands.{Demands}
use Rattle.presentation_text.specs.declared.trees.Inputs.{Inputs}
use Rattle.presentation_text.specs.declared.trees.TreeRead.{TreeRead}
use Rattle.presentation_text.specs.Readings.{Fault, Reading, ◌>>=◌, first_row, refused, is_mark, misplaced, misfit, mark_in, StopsAs}

-- ---- names

abbrev pub next_index : Option ℕ → Option ℕ
next_index None = None
next_index (Some g) = Some (suc g)

-- the index of the first generator with the name
abbrev pub index_of : List ℕ → List Generator → Option ℕ
index_of name [] = None
index_of name (x ∷ xs) = if bytes_eq x.name name then Some 0 else next_index (index_of name xs)

-- ---- inputs

-- this single byte comes next
abbrev pub begins_with : ℕ → List Token → Bool
begins_with c [] = false
begins_with c (token ∷ rest) = is_mark c token

-- How a tree is read of which so many leaves of the whole tree stand before.
abbrev pub Inside : Type 0
Inside = ℕ → List Token → Reading (Tree ℕ)

-- '(' before the first input, and ',' before a further one, where ')' comes after too few
abbrev pub before_in : Bool → List Token → Result (List Token) Fault
before_in true ts = mark_in 40 ts
before_in false [] = misfit []
before_in false (token ∷ rest) = refused (suc (length rest)) (first_row ((is_mark 41 token, InputCount) ∷ (not (is_mark 44 token), misplaced token) ∷ [])) (Ok rest)

-- ')' behind the last input, where ',' comes after as many as the arity
abbrev pub close_in : List Token → Result (List Token) Fault
close_in [] = misfit []
close_in (token ∷ rest) = refused (suc (length rest)) (first_row ((is_mark 44 token, InputCount) ∷ (not (is_mark 41 token), misplaced token) ∷ [])) (Ok rest)

-- an input, where ')' comes after too few
abbrev pub input_in : Inside → Inside
input_in inside seen [] = inside seen []
input_in inside seen (token ∷ rest) = refused (suc (length rest)) (first_row ((is_mark 41 token, InputCount) ∷ [])) (inside seen (token ∷ rest))

-- so many inputs, each with its mark before it, and ')'
unfoldable pub row_in : Inside → Bool → ℕ → ℕ → List Token → Reading (Row ℕ)
row_in inside first zero seen ts = do
  rest ← close_in ts
  Ok (none, rest)
row_in inside first (suc k) seen ts = do
  rest ← before_in first ts
  input ← input_in inside seen rest
  others ← row_in inside false k (seen + leaf_count input.0) input.1
  Ok (more input.0 others.0, others.1)

-- ---- trees

-- A leaf: its number may not stand before '*', since it's a coefficient there; it may not be the tenth leaf of a tree, nor have a number above 99.
abbrev pub leaf_in : ℕ → ℕ → List Token → Reading (Tree ℕ)
leaf_in seen n rest = refused (suc (length rest)) (first_row ((begins_with 42 rest, Syntax) ∷ (nat_le 9 seen, TooWide) ∷ (nat_lt 99 n, Labels) ∷ [])) (Ok (leaf n, rest))

-- A vertex behind its name: a generator must have the name, and it may not have eight generators above it.
abbrev pub node_in : List Generator → Option Inside → ℕ → Option ℕ → List Token → Reading (Tree ℕ)
node_in generators inside seen None rest = Err (suc (length rest), NameUnknown)
node_in generators None seen (Some g) rest = Err (suc (length rest), TooDeep)
node_in generators (Some inside) seen (Some g) rest = do
  row ← row_in inside true (arity (parts_at generators) g) seen rest
  Ok (node g row.0, row.1)

-- a tree that begins with this token
abbrev pub begun_in : List Generator → Option Inside → ℕ → Token → List Token → Reading (Tree ℕ)
begun_in generators inside seen (Number n) rest = leaf_in seen n rest
begun_in generators inside seen (Word w) rest = node_in generators inside seen (index_of w generators) rest
begun_in generators inside seen token rest = misfit (token ∷ rest)

abbrev pub tree_or_end_in : List Generator → Option Inside → Inside
tree_or_end_in generators inside seen [] = misfit []
tree_or_end_in generators inside seen (token ∷ rest) = begun_in generators inside seen token rest

-- a tree of which `depth` generators may still stand one inside the other
unfoldable pub tree_in : List Generator → ℕ → Inside
tree_in generators zero = tree_or_end_in generators None
tree_in generators (suc depth) = tree_or_end_in generators (Some (tree_in generators depth))

-- ---- whole trees

-- each of 1 to n stands at one leaf
abbrev pub has_each : ℕ → Tree ℕ → Bool
has_each zero t = true
has_each (suc n) t = has_each n t && (occurs (suc n) t == 1)

-- the arity is known, and is another one
abbrev pub differs : Option ℕ → ℕ → Bool
differs None n = false
differs (Some m) n = not (n == m)

-- what may stand against a tree at its last token
abbrev pub against : Demands → Tree ℕ → List (Bool × DocKind)
against demands t =
    (not demands.loose && not (has_each (leaf_count t) t), Labels) ∷
    (nat_lt (leaf_count t) demands.least, ArityOut) ∷
    (differs demands.arity (leaf_count t), MixedArity) ∷ []

-- A whole tree: at most 8 generators stand one inside the other, and at most 9 leaves; at its last token it is refused
-- where its leaves don't carry 1 to n, each once, unless they are free, or where its arity isn't as is demanded.
unfoldable pub whole_tree_in : List Generator → Demands → List Token → Reading (Tree ℕ)
whole_tree_in generators demands ts = do
  found ← tree_in generators 8 0 ts
  refused (suc (length found.1)) (first_row (against demands found.0)) (Ok found)

-- what is asked of a tree of any arity
abbrev pub any_arity : Bool → Demands
any_arity loose = record { loose = loose; least = 1; arity = None }

-- what is asked of a tree of an element
abbrev pub demands_of : ℕ → Option ℕ → Demands
demands_of least arity = record { loose = false; least = least; arity = arity }

-- ---- what functions give

-- A tree that was read for the tokens from a place on, and the place behind it, are as reading gives them.
pub record IsTreeRead (tokens : List Token) (reading : Reading (Tree ℕ)) (found : TreeRead) : Type 0 where
  pub reading_is : reading ≡ Ok (tree_of found.tree, drop found.end tokens)
  pub within : found.end ≤ length tokens
  pub leaves_are : found.leaves ≡ leaf_count (tree_of found.tree)

-- a function gave the tree that reading gives, or it stops as reading does
abbrev pub GivesTree : List Token → Reading (Tree ℕ) → Result TreeRead PartFail → Type 0
GivesTree tokens reading (Ok found) = IsTreeRead tokens reading found
GivesTree tokens reading (Err fail) = StopsAs tokens reading fail

-- A tree was read and put behind the inputs before it.
pub record IsInputRead (generators : List Generator) (tokens : List Token) (reading : Reading (Tree ℕ)) (before after : Inputs) (end : ℕ) : Type 0 where
  pub tree : program.Tree
  pub leaves : ℕ
  pub read : IsTreeRead tokens reading (record { tree = tree; leaves = leaves; end = end })
  pub put : after.trees ≡ before.trees ++ tree ∷ []
  pub seen : after.seen ≡ before.seen + leaves
  pub fits : Fits generators (tree_of tree)

-- a function put the tree that reading gives behind the inputs before it, and gave the place behind it, or it stops as reading does
abbrev pub GivesInput : List Generator → List Token → Reading (Tree ℕ) → Inputs → Inputs → Result ℕ PartFail → Type 0
GivesInput generators tokens reading before after result = MatchResult result (IsInputRead generators tokens reading before after) (StopsAs tokens reading)

-- the same for a tree and the place behind it alone
abbrev pub GivesTreeAt : List Token → Reading (Tree ℕ) → Result (program.Tree × ℕ) PartFail → Type 0
GivesTreeAt tokens reading (Ok found) = (reading ≡ Ok (tree_of found.0, drop found.1 tokens)) × (found.1 ≤ length tokens)
GivesTreeAt tokens reading (Err fail) = StopsAs tokens reading fail
