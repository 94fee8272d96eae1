-- Steps of reading a tree: names, marks, and the inputs read so far.
use Rattle.std.specs.Prelude.{if◌then◌else◌, nat_eq}
use Rattle.std.proofs.Common.{◌≡◌, ℕ, zero, suc, ◌+◌, ◌-◌, ◌<◌, ◌≤◌, Bool, true, false, not, List, [], ◌∷◌, ◌++◌, length, get_or, drop, Option, Some, None, Result, Ok, Err, refl, ap, sym, ◌∙◌, arith, length-append, length-drop}
use Rattle.std.specs.List.{AllPairs, HoldsAt}
use Rattle.std.specs.Str.{bytes_eq}
use Rattle.std.proofs.lemmas.Bool.{false_from_ne_true}
use Rattle.std.proofs.lemmas.Slice.Eq.{bytes_eq-Decides}
use Rattle.labelled_trees.specs.Trees.{Tree, Row, node, none, more, row}
use Rattle.labelled_trees.specs.Leaves.{leaf_count, leaf_count_row}
use Rattle.labelled_trees.specs.Labelled as labelled
use Rattle.labelled_trees.specs.Labelled.{FitsRow}
use Rattle.labelled_trees.specs.Meaning.{tree_of}
use Rattle.symmetric_trees.specs.Generators.{IsTable, IsTaken, IsNamed}
use Rattle.symmetric_trees.specs.Trees.{Fits}
use Rattle.symmetric_trees.specs.declared.generators.Generator.{Generator}
use Rattle.presentation_text.specs.declared.kinds.DocKind.{DocKind}
use Rattle.presentation_text.specs.declared.kinds.DocKind.TheVariants.{InputCount, NameUnknown, TooDeep}
use Rattle.presentation_text.specs.declared.kinds.PartFail.{PartFail}
use Rattle.presentation_text.specs.declared.lexing.Token.{Token}
use Rattle.presentation_text.specs.declared.lexing.Token.TheVariants.{Word, Number, Long, Byte, Bad}
use Rattle.presentation_text.specs.declared.trees.Demands.{Demands}
use Rattle.presentation_text.specs.declared.trees.TreeRead.{TreeRead}
use Rattle.presentation_text.specs.Readings.{Fault, Reading, ◌>>=◌, is_mark, misplaced, misfit, mark_in, first_row, refused, StopsAs}
use Rattle.presentation_text.specs.TreeReadings.{Inside, next_index, index_of, begins_with, before_in, close_in, input_in, row_in, leaf_in, node_in, begun_in, tree_in, against, whole_tree_in, IsTreeRead}
use Rattle.std.proofs.lemmas.Bool.Decides.{nat_tests}
use Rattle.presentation_text.proofs.TreeTokens.{arity_in}
use Rattle.presentation_text.proofs.TreeReadingsPlaces.{stops-on}

-- ---- names

abbrev HaveNamesApart : List Generator → Type 0
HaveNamesApart = AllPairs (λ one other. one.name ≡ other.name → ⊥)

pub index-none : (generators : List Generator) (name : List ℕ) → (IsTaken name generators → ⊥) → index_of name generators ≡ None
index-none [] name absent = refl
index-none (x ∷ xs) name absent =
    let other : bytes_eq x.name name ≡ false = false_from_ne_true (bytes_eq x.name name) (λ e. absent (0, x, omega arith, refl, (bytes_eq-Decides x.name name).0 e)) in
    let further : index_of name xs ≡ None = index-none xs name (λ t. absent (suc t.0, t.1, omega (arith, t.2), t.3, t.4)) in
    ap (λ b. if b then Some 0 else next_index (index_of name xs)) other ∙ ap next_index further

pub first_named : (generators : List Generator) (name : List ℕ) (g : ℕ) → HaveNamesApart generators → g < length generators → HoldsAt (IsNamed name) generators g → index_of name generators ≡ Some g
first_named [] name g apart l h = absurd (omega arith)
first_named (x ∷ xs) name zero apart l h = ap (λ b. if b then Some 0 else next_index (index_of name xs)) ((bytes_eq-Decides x.name name).1 (h x))
first_named (x ∷ xs) name (suc g) apart l h =
    let named : (get_or xs g x).name ≡ name = h x in
    let other : bytes_eq x.name name ≡ false = false_from_ne_true (bytes_eq x.name name) (λ e. apart 0 (suc g) x (omega arith) l ((bytes_eq-Decides x.name name).0 e ∙ sym named)) in
    let further : index_of name xs ≡ Some g = first_named xs name g (λ i j d a b. apart (suc i) (suc j) d (omega (arith, a)) (omega (arith, b))) (omega arith) (λ d. h d) in
    ap (λ b. if b then Some 0 else next_index (index_of name xs)) other ∙ ap next_index further

-- the index of a generator of a table is that of the first with its name
pub index-some : (generators : List Generator) (name : List ℕ) (g : ℕ) → IsTable generators → g < length generators → HoldsAt (IsNamed name) generators g → index_of name generators ≡ Some g
index-some generators name g table l h = first_named generators name g table.apart l h

-- ---- marks

-- the first row doesn't hold
second_row : {X : Type 0} (a b : Bool) (left : ℕ) (kind other : DocKind) (reading : Result X Fault) → a ≡ false
    → refused left (first_row ((a, kind) ∷ (not b, other) ∷ [])) reading ≡ (if b then reading else Err (left, other))
second_row true b left kind other reading e = absurd cc
second_row false true left kind other reading e = refl
second_row false false left kind other reading e = refl

-- the first row holds
top_row : {X : Type 0} (a : Bool) (rows : List (Bool × DocKind)) (left : ℕ) (kind : DocKind) (reading : Result X Fault) → a ≡ true
    → refused left (first_row ((a, kind) ∷ rows)) reading ≡ Err (left, kind)
top_row true rows left kind reading e = refl
top_row false rows left kind reading e = absurd cc

-- the only row doesn't hold
no_row : {X : Type 0} (a : Bool) (left : ℕ) (kind : DocKind) (reading : Result X Fault) → a ≡ false → refused left (first_row ((a, kind) ∷ [])) reading ≡ reading
no_row true left kind reading e = absurd cc
no_row false left kind reading e = refl

pub before_in-mark : (ts : List Token) → begins_with 41 ts ≡ false → before_in false ts ≡ mark_in 44 ts
before_in-mark [] e = refl
before_in-mark (token ∷ rest) e = second_row (is_mark 41 token) (is_mark 44 token) (suc (length rest)) InputCount (misplaced token) (Ok rest) e

pub before_in-closed : (ts : List Token) → begins_with 41 ts ≡ true → before_in false ts ≡ Err (length ts, InputCount)
before_in-closed [] e = absurd cc
before_in-closed (token ∷ rest) e = top_row (is_mark 41 token) ((not (is_mark 44 token), misplaced token) ∷ []) (suc (length rest)) InputCount (Ok rest) e

pub close_in-mark : (ts : List Token) → begins_with 44 ts ≡ false → close_in ts ≡ mark_in 41 ts
close_in-mark [] e = refl
close_in-mark (token ∷ rest) e = second_row (is_mark 44 token) (is_mark 41 token) (suc (length rest)) InputCount (misplaced token) (Ok rest) e

pub close_in-more : (ts : List Token) → begins_with 44 ts ≡ true → close_in ts ≡ Err (length ts, InputCount)
close_in-more [] e = absurd cc
close_in-more (token ∷ rest) e = top_row (is_mark 44 token) ((not (is_mark 41 token), misplaced token) ∷ []) (suc (length rest)) InputCount (Ok rest) e

pub input_in-tree : (inside : Inside) (seen : ℕ) (ts : List Token) → begins_with 41 ts ≡ false → input_in inside seen ts ≡ inside seen ts
input_in-tree inside seen [] e = refl
input_in-tree inside seen (token ∷ rest) e = no_row (is_mark 41 token) (suc (length rest)) InputCount (inside seen (token ∷ rest)) e

pub input_in-closed : (inside : Inside) (seen : ℕ) (ts : List Token) → begins_with 41 ts ≡ true → input_in inside seen ts ≡ Err (length ts, InputCount)
input_in-closed inside seen [] e = absurd cc
input_in-closed inside seen (token ∷ rest) e = top_row (is_mark 41 token) [] (suc (length rest)) InputCount (inside seen (token ∷ rest)) e

-- ---- marks are one token

if_shorter : (b : Bool) (rest other : List Token) (fault : Fault) → (if b then Ok rest else Err fault) ≡ Ok other → rest ≡ other
if_shorter true rest other fault e = cc
if_shorter false rest other fault e = absurd cc

pub mark_in-shorter : (c : ℕ) (ts rest : List Token) → mark_in c ts ≡ Ok rest → length ts ≡ suc (length rest)
mark_in-shorter c [] rest e = absurd cc
mark_in-shorter c (token ∷ others) rest e = ap (λ l. suc (length l)) (if_shorter (is_mark c token) others rest (suc (length others), misplaced token) e)

two_shorter : (a b : Bool) (kind other_kind : DocKind) (rest other : List Token) (left : ℕ) → refused left (first_row ((a, kind) ∷ (b, other_kind) ∷ [])) (Ok rest) ≡ Ok other → rest ≡ other
two_shorter true b kind other_kind rest other left e = absurd cc
two_shorter false true kind other_kind rest other left e = absurd cc
two_shorter false false kind other_kind rest other left e = cc

pub before_in-shorter : (first : Bool) (ts rest : List Token) → before_in first ts ≡ Ok rest → length ts ≡ suc (length rest)
before_in-shorter true ts rest e = mark_in-shorter 40 ts rest e
before_in-shorter false [] rest e = absurd cc
before_in-shorter false (token ∷ others) rest e = ap (λ l. suc (length l)) (two_shorter (is_mark 41 token) (not (is_mark 44 token)) InputCount (misplaced token) others rest (suc (length others)) e)

pub close_in-shorter : (ts rest : List Token) → close_in ts ≡ Ok rest → length ts ≡ suc (length rest)
close_in-shorter [] rest e = absurd cc
close_in-shorter (token ∷ others) rest e = ap (λ l. suc (length l)) (two_shorter (is_mark 44 token) (not (is_mark 41 token)) InputCount (misplaced token) others rest (suc (length others)) e)

-- ---- the tokens that trees begin with

pub tree_in-end : (generators : List Generator) (depth seen : ℕ) → tree_in generators depth seen [] ≡ misfit []
unfolding tree_in
tree_in-end generators zero seen = refl
tree_in-end generators (suc depth) seen = refl

pub tree_in-number : (generators : List Generator) (depth seen n : ℕ) (rest : List Token) → tree_in generators depth seen (Number n ∷ rest) ≡ leaf_in seen n rest
unfolding tree_in
tree_in-number generators zero seen n rest = refl
tree_in-number generators (suc depth) seen n rest = refl

begun_in-other : (generators : List Generator) (inside : Option Inside) (seen : ℕ) (token : Token) (rest : List Token) → ((n : ℕ) → token ≡ Number n → ⊥) → ((w : List ℕ) → token ≡ Word w → ⊥)
    → begun_in generators inside seen token rest ≡ misfit (token ∷ rest)
begun_in-other generators inside seen (Number n) rest no_number no_word = absurd (no_number n refl)
begun_in-other generators inside seen (Word w) rest no_number no_word = absurd (no_word w refl)
begun_in-other generators inside seen Long rest no_number no_word = refl
begun_in-other generators inside seen (Byte b) rest no_number no_word = refl
begun_in-other generators inside seen Bad rest no_number no_word = refl

pub tree_in-other : (generators : List Generator) (depth seen : ℕ) (token : Token) (rest : List Token) → ((n : ℕ) → token ≡ Number n → ⊥) → ((w : List ℕ) → token ≡ Word w → ⊥)
    → tree_in generators depth seen (token ∷ rest) ≡ misfit (token ∷ rest)
unfolding tree_in
tree_in-other generators zero seen token rest no_number no_word = begun_in-other generators None seen token rest no_number no_word
tree_in-other generators (suc depth) seen token rest no_number no_word = begun_in-other generators (Some (tree_in generators depth)) seen token rest no_number no_word

pub tree_in-unknown : (generators : List Generator) (depth seen : ℕ) (w : List ℕ) (rest : List Token) → index_of w generators ≡ None
    → tree_in generators depth seen (Word w ∷ rest) ≡ Err (suc (length rest), NameUnknown)
unfolding tree_in
tree_in-unknown generators zero seen w rest e = ap (λ i. node_in generators None seen i rest) e
tree_in-unknown generators (suc depth) seen w rest e = ap (λ i. node_in generators (Some (tree_in generators depth)) seen i rest) e

pub tree_in-deep : (generators : List Generator) (depth seen : ℕ) (w : List ℕ) (g : ℕ) (rest : List Token) → index_of w generators ≡ Some g → depth ≡ 0
    → tree_in generators depth seen (Word w ∷ rest) ≡ Err (suc (length rest), TooDeep)
unfolding tree_in
tree_in-deep generators zero seen w g rest e last = ap (λ i. node_in generators None seen i rest) e
tree_in-deep generators (suc depth) seen w g rest e last = absurd (omega arith)

pub tree_in-below : (generators : List Generator) (depth seen : ℕ) (w : List ℕ) (g : ℕ) (rest : List Token) → index_of w generators ≡ Some g
    → tree_in generators (suc depth) seen (Word w ∷ rest) ≡ node_in generators (Some (tree_in generators depth)) seen (Some g) rest
unfolding tree_in
tree_in-below generators depth seen w g rest e = ap (λ i. node_in generators (Some (tree_in generators depth)) seen i rest) e

pub tree_in-node : (generators : List Generator) (depth seen : ℕ) (w : List ℕ) (g : ℕ) (rest : List Token) → index_of w generators ≡ Some g → (depth ≡ 0 → ⊥)
    → tree_in generators depth seen (Word w ∷ rest) ≡ node_in generators (Some (tree_in generators (depth - 1))) seen (Some g) rest
tree_in-node generators zero seen w g rest e more_deep = absurd (more_deep refl)
tree_in-node generators (suc depth) seen w g rest e more_deep =
    let less : depth ≡ suc depth - 1 = omega arith in
    tree_in-below generators depth seen w g rest e ∙ ap (λ k. node_in generators (Some (tree_in generators k)) seen (Some g) rest) less

-- ---- the inputs read so far

-- the row that begins with these inputs
abbrev pub begun_row : List (Tree ℕ) → Row ℕ → Row ℕ
begun_row [] r = r
begun_row (u ∷ us) r = more u (begun_row us r)

-- inputs were read before the others of a row
abbrev pub behind : List (Tree ℕ) → Reading (Row ℕ) → Reading (Row ℕ)
behind us (Ok found) = Ok (begun_row us found.0, found.1)
behind us (Err e) = Err e

begun_row-push : (us : List (Tree ℕ)) (t : Tree ℕ) (r : Row ℕ) → begun_row us (more t r) ≡ begun_row (us ++ t ∷ []) r
begun_row-push [] t r = refl
begun_row-push (u ∷ us) t r = ap (more u) (begun_row-push us t r)

begun_row-none : (us : List (Tree ℕ)) → begun_row us none ≡ row us
begun_row-none [] = refl
begun_row-none (u ∷ us) = ap (more u) (begun_row-none us)

behind-push : (us : List (Tree ℕ)) (t : Tree ℕ) (reading : Reading (Row ℕ)) → behind us (behind (t ∷ []) reading) ≡ behind (us ++ t ∷ []) reading
behind-push us t (Ok found) = ap (λ r. Ok (r, found.1)) (begun_row-push us t found.0)
behind-push us t (Err e) = refl

behind-none : (reading : Reading (Row ℕ)) → reading ≡ behind [] reading
behind-none (Ok found) = refl
behind-none (Err e) = refl

one_more : (t : Tree ℕ) (reading : Reading (Row ℕ)) → (reading >>= (λ others. Ok (more t others.0, others.1))) ≡ behind (t ∷ []) reading
one_more t (Ok found) = refl
one_more t (Err e) = refl

abbrev pub others_in : Inside → ℕ → ℕ → Tree ℕ × List Token → Reading (Row ℕ)
others_in inside k seen input = do
  others ← row_in inside false k (seen + leaf_count input.0) input.1
  Ok (more input.0 others.0, others.1)

abbrev pub inputs_in : Inside → ℕ → ℕ → List Token → Reading (Row ℕ)
inputs_in inside k seen rest = do
  input ← input_in inside seen rest
  others_in inside k seen input

pub row_in-step : (inside : Inside) (first : Bool) (k seen : ℕ) (ts : List Token) → row_in inside first (suc k) seen ts ≡ (before_in first ts >>= inputs_in inside k seen)
unfolding row_in
row_in-step inside first k seen ts = refl

pub row_in-last : (inside : Inside) (first : Bool) (seen : ℕ) (ts : List Token) → row_in inside first 0 seen ts ≡ (close_in ts >>= (λ rest. Ok (none, rest)))
unfolding row_in
row_in-last inside first seen ts = refl

pub row_in-more : (inside : Inside) (first : Bool) (k seen : ℕ) (ts rest behind_it : List Token) (t : Tree ℕ) → before_in first ts ≡ Ok rest → input_in inside seen rest ≡ Ok (t, behind_it)
    → row_in inside first (suc k) seen ts ≡ behind (t ∷ []) (row_in inside false k (seen + leaf_count t) behind_it)
row_in-more inside first k seen ts rest behind_it t e f =
    row_in-step inside first k seen ts ∙ ap (λ r. r >>= inputs_in inside k seen) e ∙ ap (λ r. r >>= others_in inside k seen) f ∙ one_more t (row_in inside false k (seen + leaf_count t) behind_it)

row_in-no_mark : (inside : Inside) (first : Bool) (k seen : ℕ) (ts : List Token) (fault : Fault) → before_in first ts ≡ Err fault → row_in inside first (suc k) seen ts ≡ Err fault
row_in-no_mark inside first k seen ts fault e = row_in-step inside first k seen ts ∙ ap (λ r. r >>= inputs_in inside k seen) e

row_in-no_input : (inside : Inside) (first : Bool) (k seen : ℕ) (ts rest : List Token) (fault : Fault) → before_in first ts ≡ Ok rest → input_in inside seen rest ≡ Err fault
    → row_in inside first (suc k) seen ts ≡ Err fault
row_in-no_input inside first k seen ts rest fault e f = row_in-step inside first k seen ts ∙ ap (λ r. r >>= inputs_in inside k seen) e ∙ ap (λ r. r >>= others_in inside k seen) f

row_in-no_end : (inside : Inside) (first : Bool) (seen : ℕ) (ts : List Token) (fault : Fault) → close_in ts ≡ Err fault → row_in inside first 0 seen ts ≡ Err fault
row_in-no_end inside first seen ts fault e = row_in-last inside first seen ts ∙ ap (λ r. r >>= (λ rest. Ok (none, rest))) e

pub row_in-closed : (inside : Inside) (first : Bool) (seen : ℕ) (ts rest : List Token) → close_in ts ≡ Ok rest → row_in inside first 0 seen ts ≡ Ok (none, rest)
row_in-closed inside first seen ts rest e = row_in-last inside first seen ts ∙ ap (λ r. r >>= (λ rest. Ok (none, rest))) e

-- Behind the name of generator g these inputs were read, up to a place; so many leaves of the whole tree were seen by then.
pub record IsReadSoFar (generators : List Generator) (inside : Inside) (tokens : List Token) (at g seen : ℕ) (us : List (Tree ℕ)) (index next now : ℕ) : Type 0 where
  pub led : row_in inside true (arity_in generators g) seen (drop at tokens) ≡ behind us (row_in inside (nat_eq index 0) (arity_in generators g - index) now (drop next tokens))
  pub begins : at ≤ next
  pub within : next ≤ length tokens
  pub leaves_are : now ≡ seen + leaf_count_row (row us)
  pub narrow : now ≤ 9
  pub fit : FitsRow (arity_in generators) (row us)
  pub count : length us ≡ index

pub none-read : (generators : List Generator) (inside : Inside) (tokens : List Token) (at g seen : ℕ) → at ≤ length tokens → seen ≤ 9 → IsReadSoFar generators inside tokens at g seen [] 0 at seen
none-read generators inside tokens at g seen l narrow = record {
  led =
      behind-none (row_in inside true (arity_in generators g) seen (drop at tokens))
      ∙ ap (λ k. behind [] (row_in inside true k seen (drop at tokens))) less_none;
  begins = omega arith;
  within = l;
  leaves_are = omega arith;
  narrow = narrow;
  fit = tt;
  count = refl;
}
  where
    less_none : arity_in generators g ≡ arity_in generators g - 0
    less_none = omega arith

leaf_count-push : (us : List (Tree ℕ)) (t : Tree ℕ) → leaf_count_row (row (us ++ t ∷ [])) ≡ leaf_count_row (row us) + leaf_count t
leaf_count-push [] t = omega arith
leaf_count-push (u ∷ us) t = omega (arith, leaf_count-push us t)

fits-push : (arities : ℕ → ℕ) (us : List (Tree ℕ)) (t : Tree ℕ) → FitsRow arities (row us) → labelled.Fits arities t → FitsRow arities (row (us ++ t ∷ []))
fits-push arities [] t fit h = (h, tt)
fits-push arities (u ∷ us) t fit h = (fit.0, fits-push arities us t fit.1 h)

one_less : (arity index : ℕ) → index < arity → arity - index ≡ suc (arity - (index + 1))
one_less arity index l = omega arith

not_first : (index : ℕ) → nat_eq (index + 1) 0 ≡ false
not_first index = grind (arith, nat_tests)

module _ (generators : List Generator) (inside : Inside) (tokens : List Token) (at g seen : ℕ) (us : List (Tree ℕ)) (index next now : ℕ)
    (so_far : IsReadSoFar generators inside tokens at g seen us index next now) where
  -- what the inputs to come give
  abbrev coming : Reading (Row ℕ)
  coming = row_in inside (nat_eq index 0) (arity_in generators g - index) now (drop next tokens)

  abbrev whole : Reading (Tree ℕ)
  whole = node_in generators (Some inside) seen (Some g) (drop at tokens)

  node_stops : (fault : Fault) → coming ≡ Err fault → whole ≡ Err fault
  node_stops fault e = ap (λ r. r >>= (λ found. Ok (node g found.0, found.1))) (so_far.led ∙ ap (behind us) e)

  further_inputs : index < arity_in generators g → coming ≡ row_in inside (nat_eq index 0) (suc (arity_in generators g - (index + 1))) now (drop next tokens)
  further_inputs l = ap (λ k. row_in inside (nat_eq index 0) k now (drop next tokens)) (one_less (arity_in generators g) index l)

  -- no mark stands before the next input
  pub stops-no_mark : index < arity_in generators g → (fail : PartFail) → StopsAs tokens (before_in (nat_eq index 0) (drop next tokens)) fail → StopsAs tokens whole fail
  stops-no_mark l fail h = stops-on tokens (before_in (nat_eq index 0) (drop next tokens)) whole
      (λ fault e. node_stops fault (further_inputs l ∙ row_in-no_mark inside (nat_eq index 0) (arity_in generators g - (index + 1)) now (drop next tokens) fault e)) fail h

  -- the next input isn't read
  pub stops-no_input : index < arity_in generators g → (place : ℕ) → before_in (nat_eq index 0) (drop next tokens) ≡ Ok (drop place tokens)
      → (fail : PartFail) → StopsAs tokens (input_in inside now (drop place tokens)) fail → StopsAs tokens whole fail
  stops-no_input l place e fail h = stops-on tokens (input_in inside now (drop place tokens)) whole
      (λ fault f. node_stops fault (further_inputs l ∙ row_in-no_input inside (nat_eq index 0) (arity_in generators g - (index + 1)) now (drop next tokens) (drop place tokens) fault e f)) fail h

  none_to_come : arity_in generators g ≤ index → coming ≡ row_in inside (nat_eq index 0) 0 now (drop next tokens)
  none_to_come l = let none_left : arity_in generators g - index ≡ 0 = omega arith in ap (λ k. row_in inside (nat_eq index 0) k now (drop next tokens)) none_left

  -- ')' is missing
  pub stops-no_end : arity_in generators g ≤ index → (fail : PartFail) → StopsAs tokens (close_in (drop next tokens)) fail → StopsAs tokens whole fail
  stops-no_end l fail h = stops-on tokens (close_in (drop next tokens)) whole
      (λ fault e. node_stops fault (none_to_come l ∙ row_in-no_end inside (nat_eq index 0) now (drop next tokens) fault e)) fail h

  -- the next input is read
  pub more-read : index < arity_in generators g → (place : ℕ) → place ≤ length tokens → before_in (nat_eq index 0) (drop next tokens) ≡ Ok (drop place tokens) → (found : TreeRead)
      → IsTreeRead tokens (input_in inside now (drop place tokens)) found → place < found.end → now + found.leaves ≤ 9 → Fits generators (tree_of found.tree)
      → IsReadSoFar generators inside tokens at g seen (us ++ tree_of found.tree ∷ []) (index + 1) found.end (now + found.leaves)
  more-read l place held e found read further narrow fit =
      let t = tree_of found.tree in
      let k = arity_in generators g - (index + 1) in
      let one_token : length (drop next tokens) ≡ suc (length (drop place tokens)) = before_in-shorter (nat_eq index 0) (drop next tokens) (drop place tokens) e in
      let whole_length : length (drop next tokens) ≡ length tokens - next = length-drop next tokens in
      let rest_length : length (drop place tokens) ≡ length tokens - place = length-drop place tokens in
      let a = so_far.begins in
      let b = so_far.within in
      let c = so_far.leaves_are in
      let d = so_far.count in
      let leaves_is = read.leaves_are in
      let sum : now + leaf_count t ≡ now + found.leaves = omega arith in
      record {
        led =
            so_far.led
            ∙ ap (behind us) (further_inputs l ∙ row_in-more inside (nat_eq index 0) k now (drop next tokens) (drop place tokens) (drop found.end tokens) t e read.reading_is)
            ∙ behind-push us t (row_in inside false k (now + leaf_count t) (drop found.end tokens))
            ∙ ap (λ s. behind (us ++ t ∷ []) (row_in inside false k s (drop found.end tokens))) sum
            ∙ ap (λ (b : Bool). behind (us ++ t ∷ []) (row_in inside b k (now + found.leaves) (drop found.end tokens))) (sym (not_first index));
        begins = omega arith;
        within = read.within;
        leaves_are = omega (arith, leaf_count-push us t);
        narrow = omega arith;
        fit = fits-push (arity_in generators) us t so_far.fit fit;
        count = length-append us (t ∷ []) ∙ ap (λ n. n + 1) d;
      }

  -- the last input was read, and ')'
  pub all_read : arity_in generators g ≤ index → (end : ℕ) → close_in (drop next tokens) ≡ Ok (drop end tokens) → whole ≡ Ok (node g (row us), drop end tokens)
  all_read l end e =
      ap (λ r. r >>= (λ found. Ok (node g found.0, found.1)))
      (so_far.led ∙ ap (behind us) (none_to_come l ∙ row_in-closed inside (nat_eq index 0) now (drop next tokens) (drop end tokens) e) ∙ ap (λ r. Ok (r, drop end tokens)) (begun_row-none us))

-- ---- whole trees

abbrev pub judged : Demands → Tree ℕ × List Token → Reading (Tree ℕ)
judged demands found = refused (suc (length found.1)) (first_row (against demands found.0)) (Ok found)

pub whole-stops : (generators : List Generator) (demands : Demands) (ts : List Token) (fault : Fault) → tree_in generators 8 0 ts ≡ Err fault → whole_tree_in generators demands ts ≡ Err fault
unfolding whole_tree_in
whole-stops generators demands ts fault e = ap (λ r. r >>= judged demands) e

pub whole-refused : (generators : List Generator) (demands : Demands) (ts : List Token) (t : Tree ℕ) (rest : List Token) (kind : DocKind) → tree_in generators 8 0 ts ≡ Ok (t, rest)
    → first_row (against demands t) ≡ Some kind → whole_tree_in generators demands ts ≡ Err (suc (length rest), kind)
unfolding whole_tree_in
whole-refused generators demands ts t rest kind e row = ap (λ r. r >>= judged demands) e ∙ ap (λ (row : Option DocKind). refused (suc (length rest)) row (Ok (t, rest))) row

pub whole-accepted : (generators : List Generator) (demands : Demands) (ts : List Token) (t : Tree ℕ) (rest : List Token) → tree_in generators 8 0 ts ≡ Ok (t, rest)
    → first_row (against demands t) ≡ None → whole_tree_in generators demands ts ≡ Ok (t, rest)
unfolding whole_tree_in
whole-accepted generators demands ts t rest e row = ap (λ r. r >>= judged demands) e ∙ ap (λ (row : Option DocKind). refused (suc (length rest)) row (Ok (t, rest))) row
