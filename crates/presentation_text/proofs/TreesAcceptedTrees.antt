-- Trees inside a tree are read exactly where their tokens stand.
use Rattle.std.specs.Prelude.{if◌then◌else◌, nat_le, nat_lt}
use Rattle.std.proofs.Common.{◌≡◌, ℕ, zero, suc, ◌+◌, ◌-◌, ◌<◌, ◌≤◌, max, Bool, true, false, not, List, [], ◌∷◌, ◌++◌, length, Option, Some, None, Result, Ok, Err, refl, ap, sym, ◌∙◌, subst, arith, append_assoc}
use Rattle.std.specs.Str.{bytes_eq}
use Rattle.std.proofs.lemmas.Bool.Decides.{Decides-eqb, nat_tests}
use Rattle.std.proofs.lemmas.Slice.Eq.{bytes_eq-Decides}
use Rattle.labelled_trees.specs.Trees.{Tree, Row, leaf, node, none, more, width}
use Rattle.labelled_trees.specs.Leaves.{AllLeaves, AllRow, leaf_count, leaf_count_row}
use Rattle.labelled_trees.specs.Labelled as labelled
use Rattle.symmetric_trees.specs.Generators.{IsTable}
use Rattle.symmetric_trees.specs.Trees.{Fits}
use Rattle.symmetric_trees.specs.declared.generators.Generator.{Generator}
use Rattle.presentation_text.specs.declared.kinds.DocKind.{DocKind}
use Rattle.presentation_text.specs.Accepted.{is_leaf}
use Rattle.presentation_text.specs.declared.kinds.DocKind.TheVariants.{InputCount, TooWide, Labels, Syntax}
use Rattle.presentation_text.specs.declared.lexing.Token.{Token}
use Rattle.presentation_text.specs.declared.lexing.Token.TheVariants.{Word, Number, Long, Byte, Bad}
use Rattle.presentation_text.specs.Readings.{Fault, Reading, ◌>>=◌, is_mark, misplaced, mark_in, first_row, refused}
use Rattle.presentation_text.specs.TreeReadings.{Inside, next_index, index_of, begins_with, before_in, close_in, input_in, row_in, leaf_in, node_in, begun_in, tree_or_end_in, tree_in}
use Rattle.presentation_text.specs.TreeText.{name_of, tree_tokens, row_tokens, more_tokens, nested, nested_row}
use Rattle.presentation_text.proofs.TreeTokens.{arity_in, arity_in-least, in_table, name_of-is}
use Rattle.presentation_text.proofs.TreeReadingsSteps as steps

-- ---- what was read before something else

pub record Bound {A B : Type 0} (m : Result A Fault) (f : A → Result B Fault) (y : B) : Type 0 where
  pub value : A
  pub first : m ≡ Ok value
  pub further : f value ≡ Ok y

pub bound : {A B : Type 0} (m : Result A Fault) (f : A → Result B Fault) (y : B) → (m >>= f) ≡ Ok y → Bound m f y
bound (Ok x) f y e = record { value = x; first = refl; further = e }
bound (Err fault) f y e = absurd cc

both_ok : {A B : Type 0} (a c : A) (b d : B) → ◌≡◌ {A = Result (A × B) Fault} (Ok (a, b)) (Ok (c, d)) → ◌≡◌ {A = A × B} (a, b) (c, d)
both_ok a c b d e = cc

pub ok_left : {A B : Type 0} (a c : A) (b d : B) → ◌≡◌ {A = Result (A × B) Fault} (Ok (a, b)) (Ok (c, d)) → a ≡ c
ok_left {A = A} {B = B} a c b d e = ap (λ (p : A × B). p.0) (both_ok a c b d e)

pub ok_right : {A B : Type 0} (a c : A) (b d : B) → ◌≡◌ {A = Result (A × B) Fault} (Ok (a, b)) (Ok (c, d)) → b ≡ d
ok_right {A = A} {B = B} a c b d e = ap (λ (p : A × B). p.1) (both_ok a c b d e)

-- ---- marks

pub marked : (c : ℕ) (token : Token) → is_mark c token ≡ true → token ≡ Byte c
marked c (Byte d) e = ap Byte ((Decides-eqb d c).0 e)
marked c (Word w) e = absurd cc
marked c (Number n) e = absurd cc
marked c Long e = absurd cc
marked c Bad e = absurd cc

-- the byte before an input
abbrev pub mark_of : Bool → ℕ
mark_of true = 40
mark_of false = 44

chosen : (b : Bool) (token : Token) (c : ℕ) (rest other : List Token) (fault : Fault) → (b ≡ true → token ≡ Byte c) → (if b then Ok rest else Err fault) ≡ Ok other → token ∷ rest ≡ Byte c ∷ other
chosen true token c rest other fault f e = let same : rest ≡ other = cc in let mark = f refl in cc
chosen false token c rest other fault f e = absurd cc

pub mark_in-front : (c : ℕ) (ts rest : List Token) → mark_in c ts ≡ Ok rest → ts ≡ Byte c ∷ rest
mark_in-front c [] rest e = absurd cc
mark_in-front c (token ∷ others) rest e = chosen (is_mark c token) token c others rest (suc (length others), misplaced token) (marked c token) e

unrefused : (a b : Bool) (kind other_kind : DocKind) (left : ℕ) (token : Token) (c : ℕ) (rest other : List Token) → (b ≡ true → token ≡ Byte c)
    → refused left (first_row ((a, kind) ∷ (not b, other_kind) ∷ [])) (Ok rest) ≡ Ok other → token ∷ rest ≡ Byte c ∷ other
unrefused true b kind other_kind left token c rest other f e = absurd cc
unrefused false true kind other_kind left token c rest other f e = let same : rest ≡ other = cc in let mark = f refl in cc
unrefused false false kind other_kind left token c rest other f e = absurd cc

pub before_in-front : (first : Bool) (ts rest : List Token) → before_in first ts ≡ Ok rest → ts ≡ Byte (mark_of first) ∷ rest
before_in-front true ts rest e = mark_in-front 40 ts rest e
before_in-front false [] rest e = absurd cc
before_in-front false (token ∷ others) rest e = unrefused (is_mark 41 token) (is_mark 44 token) InputCount (misplaced token) (suc (length others)) token 44 others rest (marked 44 token) e

close_in-front : (ts rest : List Token) → close_in ts ≡ Ok rest → ts ≡ Byte 41 ∷ rest
close_in-front [] rest e = absurd cc
close_in-front (token ∷ others) rest e = unrefused (is_mark 44 token) (is_mark 41 token) InputCount (misplaced token) (suc (length others)) token 41 others rest (marked 41 token) e

input_read : (a : Bool) (kind : DocKind) (left : ℕ) (reading : Reading (Tree ℕ)) (found : Tree ℕ × List Token) → refused left (first_row ((a, kind) ∷ [])) reading ≡ Ok found → reading ≡ Ok found
input_read true kind left reading found e = absurd cc
input_read false kind left reading found e = e

pub input_in-read : (inside : Inside) (seen : ℕ) (ts : List Token) (found : Tree ℕ × List Token) → input_in inside seen ts ≡ Ok found → inside seen ts ≡ Ok found
input_in-read inside seen [] found e = e
input_in-read inside seen (token ∷ rest) found e = input_read (is_mark 41 token) InputCount (suc (length rest)) (inside seen (token ∷ rest)) found e

pub before_in-back : (first : Bool) (rest : List Token) → before_in first (Byte (mark_of first) ∷ rest) ≡ Ok rest
before_in-back true rest = refl
before_in-back false rest = refl

pub close_in-back : (rest : List Token) → close_in (Byte 41 ∷ rest) ≡ Ok rest
close_in-back rest = refl

-- ---- names

next_index-is : (found : Option ℕ) (g : ℕ) → next_index found ≡ Some g → (h : ℕ) × (found ≡ Some h) × (g ≡ suc h)
next_index-is None g e = absurd cc
next_index-is (Some h) g e = (h, refl, cc)

-- the generator with an index, and its name
pub record IsHeld (generators : List Generator) (name : List ℕ) (g : ℕ) : Type 0 where
  pub held : g < length generators
  pub named : name_of generators g ≡ name

held_by : (b : Bool) (x : Generator) (xs : List Generator) (name : List ℕ) (g : ℕ) → (b ≡ true → x.name ≡ name) → ((h : ℕ) → index_of name xs ≡ Some h → IsHeld xs name h)
    → (if b then Some 0 else next_index (index_of name xs)) ≡ Some g → IsHeld (x ∷ xs) name g
held_by true x xs name g f further e = let first : 0 ≡ g = cc in subst (IsHeld (x ∷ xs) name) first (record { held = omega arith; named = f refl })
held_by false x xs name g f further e =
    let next = next_index-is (index_of name xs) g e in
    let inside = further next.0 next.1 in
    subst (IsHeld (x ∷ xs) name) (sym next.2) (record { held = omega (arith, inside.held); named = inside.named })

pub index_held : (generators : List Generator) (name : List ℕ) (g : ℕ) → index_of name generators ≡ Some g → IsHeld generators name g
index_held [] name g e = absurd cc
index_held (x ∷ xs) name g e = held_by (bytes_eq x.name name) x xs name g ((bytes_eq-Decides x.name name).0) (λ h f. index_held xs name h f) e

pub least_arity : (generators : List Generator) → IsTable generators → (g : ℕ) → g < length generators → 2 ≤ arity_in generators g
least_arity [] table g l = absurd (omega arith)
least_arity (x ∷ xs) table g l = arity_in-least (x ∷ xs) table g x l

-- ---- what is read inside a tree

-- A tree that was read: its tokens were there, it fits, and behind a leaf alone no '*' stands.
pub record IsReadInside (generators : List Generator) (depth seen : ℕ) (ts : List Token) (t : Tree ℕ) (rest : List Token) : Type 0 where
  pub spelled : ts ≡ tree_tokens generators t ++ rest
  pub fits : Fits generators t
  pub shallow : nested t ≤ depth
  pub narrow : seen + leaf_count t ≤ 9
  pub small : AllLeaves t (λ n. n ≤ 99)
  pub ends : is_leaf t ≡ true → begins_with 42 rest ≡ false

-- the tokens of inputs, each with its mark before it
abbrev pub inputs_tokens : List Generator → Bool → Row ℕ → List Token
inputs_tokens generators first none = []
inputs_tokens generators first (more t r) = Byte (mark_of first) ∷ (tree_tokens generators t ++ inputs_tokens generators false r)

record AreReadInside (generators : List Generator) (depth seen : ℕ) (first : Bool) (k : ℕ) (ts : List Token) (r : Row ℕ) (rest : List Token) : Type 0 where
  spelled : ts ≡ inputs_tokens generators first r ++ Byte 41 ∷ rest
  wide : width r ≡ k
  fits : labelled.FitsRow (arity_in generators) r
  shallow : nested_row r ≤ depth
  narrow : seen + leaf_count_row r ≤ 9
  small : AllRow r (λ n. n ≤ 99)

more_is : (generators : List Generator) (r : Row ℕ) → more_tokens generators r ≡ inputs_tokens generators false r
more_is generators none = refl
more_is generators (more t r) = ap (λ x. Byte 44 ∷ (tree_tokens generators t ++ x)) (more_is generators r)

row_is : (generators : List Generator) (r : Row ℕ) → 0 < width r → Byte 40 ∷ row_tokens generators r ≡ inputs_tokens generators true r
row_is generators none l = absurd (omega arith)
row_is generators (more t r) l = ap (λ x. Byte 40 ∷ (tree_tokens generators t ++ x)) (more_is generators r)

-- the tokens of a vertex, and those behind it
pub node_tokens : (generators : List Generator) (g : ℕ) (r : Row ℕ) (rest : List Token) → 0 < width r
    → tree_tokens generators (node g r) ++ rest ≡ Word (name_of generators g) ∷ (inputs_tokens generators true r ++ Byte 41 ∷ rest)
node_tokens generators g r rest some =
    ap (λ x. Word (name_of generators g) ∷ x) (append_assoc (Byte 40 ∷ row_tokens generators r) (Byte 41 ∷ []) rest ∙ ap (λ x. x ++ Byte 41 ∷ rest) (row_is generators r some))

abbrev pub ReadsInside : List Generator → ℕ → Inside → Type 0
ReadsInside generators depth inside = (seen : ℕ) (ts : List Token) (t : Tree ℕ) (rest : List Token) → seen ≤ 9 → inside seen ts ≡ Ok (t, rest) → IsReadInside generators depth seen ts t rest

-- ---- what is read is a tree that fits

-- none of three rows holds
pub record NoneOfThree (a b c : Bool) : Type 0 where
  pub first : a ≡ false
  pub second : b ≡ false
  pub third : c ≡ false

pub none_held : {X : Type 0} (a b c : Bool) (kind_a kind_b kind_c : DocKind) (left : ℕ) (x y : X)
    → refused left (first_row ((a, kind_a) ∷ (b, kind_b) ∷ (c, kind_c) ∷ [])) (Ok x) ≡ Ok y → NoneOfThree a b c × (x ≡ y)
none_held true b c kind_a kind_b kind_c left x y e = absurd cc
none_held false true c kind_a kind_b kind_c left x y e = absurd cc
none_held false false true kind_a kind_b kind_c left x y e = absurd cc
none_held false false false kind_a kind_b kind_c left x y e = (record { first = refl; second = refl; third = refl }, cc)

pub no_rows : (a b c : Bool) (kind_a kind_b kind_c : DocKind) → NoneOfThree a b c → first_row ((a, kind_a) ∷ (b, kind_b) ∷ (c, kind_c) ∷ []) ≡ None
no_rows true b c kind_a kind_b kind_c h = let f = h.first in absurd cc
no_rows false true c kind_a kind_b kind_c h = let f = h.second in absurd cc
no_rows false false true kind_a kind_b kind_c h = let f = h.third in absurd cc
no_rows false false false kind_a kind_b kind_c h = refl

not_le : (a b : ℕ) → nat_le a b ≡ false → b < a
not_le a b e = grind (arith, nat_tests)

not_lt : (a b : ℕ) → nat_lt a b ≡ false → b ≤ a
not_lt a b e = grind (arith, nat_tests)

leaf_sound : (generators : List Generator) (depth seen n : ℕ) (others : List Token) (t : Tree ℕ) (rest : List Token) → leaf_in seen n others ≡ Ok (t, rest) → IsReadInside generators depth seen (Number n ∷ others) t rest
leaf_sound generators depth seen n others t rest e =
    let tests = none_held (begins_with 42 others) (nat_le 9 seen) (nat_lt 99 n) Syntax TooWide Labels (suc (length others)) (leaf n, others) (t, rest) e in
    let few = not_le 9 seen tests.0.second in
    subst (λ found. IsReadInside generators depth seen (Number n ∷ others) found.0 found.1) tests.1
    (record { spelled = refl; fits = tt; shallow = omega arith; narrow = omega arith; small = not_lt 99 n tests.0.third; ends = λ _. tests.0.first })

module _ (generators : List Generator) (depth : ℕ) where
  none_sound : (seen : ℕ) (first : Bool) (ts mid : List Token) (r : Row ℕ) (rest : List Token) → seen ≤ 9 → close_in ts ≡ Ok mid → ◌≡◌ {A = Reading (Row ℕ)} (Ok (none, mid)) (Ok (r, rest))
      → AreReadInside generators depth seen first 0 ts r rest
  none_sound seen first ts mid r rest l e f =
      subst (λ found. AreReadInside generators depth seen first 0 ts found rest) (ok_left none r mid rest f)
      (record { spelled = close_in-front ts mid e ∙ ap (λ x. Byte 41 ∷ x) (ok_right none r mid rest f); wide = refl; fits = tt; shallow = omega arith; narrow = omega arith; small = tt })

  more_sound : (k seen : ℕ) (first : Bool) (ts mid : List Token) (t : Tree ℕ) (behind_it : List Token) (others : Row ℕ) (end : List Token) (r : Row ℕ) (rest : List Token)
      → before_in first ts ≡ Ok mid → IsReadInside generators depth seen mid t behind_it → AreReadInside generators depth (seen + leaf_count t) false k behind_it others end
      → ◌≡◌ {A = Reading (Row ℕ)} (Ok (more t others, end)) (Ok (r, rest)) → AreReadInside generators depth seen first (suc k) ts r rest
  more_sound k seen first ts mid t behind_it others end r rest mark one inner e =
      let wide = inner.wide in
      let shallow = inner.shallow in
      let one_shallow = one.shallow in
      let narrow = inner.narrow in
      subst (λ found. AreReadInside generators depth seen first (suc k) ts found rest) (ok_left (more t others) r end rest e)
      (record {
        spelled =
            before_in-front first ts mid mark
            ∙ ap (λ x. Byte (mark_of first) ∷ x)
            (one.spelled ∙ ap (λ x. tree_tokens generators t ++ x) (inner.spelled ∙ ap (λ x. inputs_tokens generators false others ++ Byte 41 ∷ x) (ok_right (more t others) r end rest e))
            ∙ sym (append_assoc (tree_tokens generators t) (inputs_tokens generators false others) (Byte 41 ∷ rest)));
        wide = ap suc wide;
        fits = (one.fits, inner.fits);
        shallow = omega arith;
        narrow = omega arith;
        small = (one.small, inner.small);
      })

  vertex_sound : (table : IsTable generators) (seen g : ℕ) (w : List ℕ) (others : List Token) (r : Row ℕ) (end : List Token) (t : Tree ℕ) (rest : List Token) → IsHeld generators w g
      → AreReadInside generators depth seen true (arity_in generators g) others r end → ◌≡◌ {A = Reading (Tree ℕ)} (Ok (node g r, end)) (Ok (t, rest))
      → IsReadInside generators (suc depth) seen (Word w ∷ others) t rest
  vertex_sound table seen g w others r end t rest held rows e =
      let least : 2 ≤ arity_in generators g = least_arity generators table g held.held in
      let wide = rows.wide in
      let shallow = rows.shallow in
      let some : 0 < width r = omega arith in
      subst (λ found. IsReadInside generators (suc depth) seen (Word w ∷ others) found rest) (ok_left (node g r) t end rest e)
      (record {
        spelled =
            ap (λ (name : List ℕ). Word name ∷ others) (sym held.named)
            ∙ ap (λ x. Word (name_of generators g) ∷ x) (rows.spelled ∙ ap (λ x. inputs_tokens generators true r ++ Byte 41 ∷ x) (ok_right (node g r) t end rest e))
            ∙ sym (node_tokens generators g r rest some);
        fits = (least, wide, rows.fits);
        shallow = omega arith;
        narrow = rows.narrow;
        small = rows.small;
        ends = λ is. absurd cc;
      })

module _ (generators : List Generator) (depth : ℕ) (inside : Inside) (sound : ReadsInside generators depth inside) where
  row_sound : (k seen : ℕ) (first : Bool) (ts : List Token) (r : Row ℕ) (rest : List Token) → seen ≤ 9 → row_in inside first k seen ts ≡ Ok (r, rest) → AreReadInside generators depth seen first k ts r rest
  row_sound zero seen first ts r rest l e =
      let mark : Bound {B = Row ℕ × List Token} (close_in ts) (λ others. Ok (none, others)) (r, rest) = bound (close_in ts) (λ others. Ok (none, others)) (r, rest) (sym (steps.row_in-last inside first seen ts) ∙ e) in
      none_sound generators depth seen first ts mark.value r rest l mark.first mark.further
  row_sound (suc k) seen first ts r rest l e =
      let mark = bound (before_in first ts) (steps.inputs_in inside k seen) (r, rest) (sym (steps.row_in-step inside first k seen ts) ∙ e) in
      let input = bound (input_in inside seen mark.value) (steps.others_in inside k seen) (r, rest) mark.further in
      let t : Tree ℕ = input.value.0 in
      let behind_it : List Token = input.value.1 in
      let one : IsReadInside generators depth seen mark.value t behind_it = sound seen mark.value t behind_it l (input_in-read inside seen mark.value (t, behind_it) input.first) in
      let others = bound (row_in inside false k (seen + leaf_count t) behind_it) (λ (found : Row ℕ × List Token). Ok (more t found.0, found.1)) (r, rest) input.further in
      more_sound generators depth k seen first ts mark.value t behind_it others.value.0 others.value.1 r rest mark.first one
      (row_sound k (seen + leaf_count t) false behind_it others.value.0 others.value.1 one.narrow others.first) others.further

  node_sound : (table : IsTable generators) (seen g : ℕ) (w : List ℕ) (others : List Token) (t : Tree ℕ) (rest : List Token) → seen ≤ 9 → IsHeld generators w g
      → node_in generators (Some inside) seen (Some g) others ≡ Ok (t, rest) → IsReadInside generators (suc depth) seen (Word w ∷ others) t rest
  node_sound table seen g w others t rest l held e =
      let inputs = bound (row_in inside true (arity_in generators g) seen others) (λ (found : Row ℕ × List Token). Ok (node g found.0, found.1)) (t, rest) e in
      vertex_sound generators depth table seen g w others inputs.value.0 inputs.value.1 t rest held
      (row_sound (arity_in generators g) seen true others inputs.value.0 inputs.value.1 l inputs.first) inputs.further

-- how the trees below a vertex are read
abbrev AreSoundBelow : List Generator → ℕ → Option Inside → Type 0
AreSoundBelow generators depth None = Unit {0}
AreSoundBelow generators zero (Some inside) = ⊥
AreSoundBelow generators (suc depth) (Some inside) = ReadsInside generators depth inside

named_sound : (generators : List Generator) (table : IsTable generators) (depth : ℕ) (inside : Option Inside) → AreSoundBelow generators depth inside → (seen : ℕ) (w : List ℕ) (found : Option ℕ) (others : List Token) (t : Tree ℕ) (rest : List Token)
    → seen ≤ 9 → index_of w generators ≡ found → node_in generators inside seen found others ≡ Ok (t, rest) → IsReadInside generators depth seen (Word w ∷ others) t rest
named_sound generators table depth inside below seen w None others t rest l is e = absurd cc
named_sound generators table depth None below seen w (Some g) others t rest l is e = absurd cc
named_sound generators table zero (Some inside) below seen w (Some g) others t rest l is e = absurd below
named_sound generators table (suc depth) (Some inside) below seen w (Some g) others t rest l is e = node_sound generators depth inside below table seen g w others t rest l (index_held generators w g is) e

begun_sound : (generators : List Generator) (table : IsTable generators) (depth : ℕ) (inside : Option Inside) → AreSoundBelow generators depth inside → (seen : ℕ) (token : Token) (others : List Token) (t : Tree ℕ) (rest : List Token)
    → seen ≤ 9 → begun_in generators inside seen token others ≡ Ok (t, rest) → IsReadInside generators depth seen (token ∷ others) t rest
begun_sound generators table depth inside below seen (Number n) others t rest l e = leaf_sound generators depth seen n others t rest e
begun_sound generators table depth inside below seen (Word w) others t rest l e = named_sound generators table depth inside below seen w (index_of w generators) others t rest l refl e
begun_sound generators table depth inside below seen Long others t rest l e = absurd cc
begun_sound generators table depth inside below seen (Byte b) others t rest l e = absurd cc
begun_sound generators table depth inside below seen Bad others t rest l e = absurd cc

sound_or_end : (generators : List Generator) (table : IsTable generators) (depth : ℕ) (inside : Option Inside) → AreSoundBelow generators depth inside → ReadsInside generators depth (tree_or_end_in generators inside)
sound_or_end generators table depth inside below seen [] t rest l e = absurd cc
sound_or_end generators table depth inside below seen (token ∷ others) t rest l e = begun_sound generators table depth inside below seen token others t rest l e

pub tree_sound : (generators : List Generator) (table : IsTable generators) (depth : ℕ) → ReadsInside generators depth (tree_in generators depth)
unfolding tree_in
tree_sound generators table zero = sound_or_end generators table zero None tt
tree_sound generators table (suc depth) = sound_or_end generators table (suc depth) (Some (tree_in generators depth)) (tree_sound generators table depth)

-- ---- a tree that fits is read

is_below : (a b : ℕ) → b < a → nat_le a b ≡ false
is_below a b l = grind (arith, nat_tests)

is_upto : (a b : ℕ) → b ≤ a → nat_lt a b ≡ false
is_upto a b l = grind (arith, nat_tests)

leaf_back : (seen n : ℕ) (rest : List Token) → begins_with 42 rest ≡ false → seen < 9 → n ≤ 99 → leaf_in seen n rest ≡ Ok (leaf n, rest)
leaf_back seen n rest ends l small =
    ap (λ row. refused (suc (length rest)) row (Ok (leaf n, rest)))
    (no_rows (begins_with 42 rest) (nat_le 9 seen) (nat_lt 99 n) Syntax TooWide Labels (record { first = ends; second = is_below 9 seen l; third = is_upto 99 n small }))

pub tree_begins : (generators : List Generator) (t : Tree ℕ) (rest : List Token) → begins_with 41 (tree_tokens generators t ++ rest) ≡ false
tree_begins generators (leaf n) rest = refl
tree_begins generators (node g r) rest = refl

-- behind an input stands ',' or ')'
pub input_ends : (generators : List Generator) (r : Row ℕ) (rest : List Token) → begins_with 42 (inputs_tokens generators false r ++ Byte 41 ∷ rest) ≡ false
input_ends generators none rest = refl
input_ends generators (more t r) rest = refl

max_left : (a b n : ℕ) → max a b ≤ n → a ≤ n
max_left a b n h = omega arith

max_right : (a b n : ℕ) → max a b ≤ n → b ≤ n
max_right a b n h = omega arith

module _ (generators : List Generator) (table : IsTable generators) where
  pub index_back : (g : ℕ) → 2 ≤ arity_in generators g → index_of (name_of generators g) generators ≡ Some g
  index_back g least =
      let held = in_table generators g (omega arith) in
      steps.index-some generators (name_of generators g) g table held (λ d. sym (name_of-is generators g d held))

  mutual
    pub tree_back : (t : Tree ℕ) (depth seen : ℕ) (rest : List Token) → Fits generators t → nested t ≤ depth → seen + leaf_count t ≤ 9 → AllLeaves t (λ n. n ≤ 99)
        → (is_leaf t ≡ true → begins_with 42 rest ≡ false) → tree_in generators depth seen (tree_tokens generators t ++ rest) ≡ Ok (t, rest)
    tree_back (leaf n) depth seen rest fits shallow narrow small ends = steps.tree_in-number generators depth seen n rest ∙ leaf_back seen n rest (ends refl) (omega arith) small
    tree_back (node g r) depth seen rest fits shallow narrow small ends =
        let least : 2 ≤ arity_in generators g = fits.0 in
        let wide : width r ≡ arity_in generators g = fits.1 in
        let some : 0 < width r = omega arith in
        let behind_name = inputs_tokens generators true r ++ Byte 41 ∷ rest in
        let deep : suc (nested_row r) ≤ depth = shallow in
        let inputs = row_back true r (depth - 1) seen rest fits.2 (omega arith) narrow small in
        ap (tree_in generators depth seen) (node_tokens generators g r rest some)
        ∙ steps.tree_in-node generators depth seen (name_of generators g) g behind_name (index_back g least) (λ none_left. omega (arith, none_left))
        ∙ ap (λ (m : Reading (Row ℕ)). m >>= (λ found. Ok (node g found.0, found.1))) (ap (λ k. row_in (tree_in generators (depth - 1)) true k seen behind_name) (sym wide) ∙ inputs)

    row_back : (first : Bool) (r : Row ℕ) (depth seen : ℕ) (rest : List Token) → labelled.FitsRow (arity_in generators) r → nested_row r ≤ depth → seen + leaf_count_row r ≤ 9 → AllRow r (λ n. n ≤ 99)
        → row_in (tree_in generators depth) first (width r) seen (inputs_tokens generators first r ++ Byte 41 ∷ rest) ≡ Ok (r, rest)
    row_back first none depth seen rest fits shallow narrow small = steps.row_in-closed (tree_in generators depth) first seen (Byte 41 ∷ rest) rest (close_in-back rest)
    row_back first (more t r) depth seen rest fits shallow narrow small =
        let inside = tree_in generators depth in
        let behind_it = inputs_tokens generators false r ++ Byte 41 ∷ rest in
        let within = (tree_tokens generators t ++ inputs_tokens generators false r) ++ Byte 41 ∷ rest in
        let parted : within ≡ tree_tokens generators t ++ behind_it = append_assoc (tree_tokens generators t) (inputs_tokens generators false r) (Byte 41 ∷ rest) in
        let one : input_in inside seen within ≡ Ok (t, behind_it) =
        ap (input_in inside seen) parted ∙ steps.input_in-tree inside seen (tree_tokens generators t ++ behind_it) (tree_begins generators t behind_it)
        ∙ tree_back t depth seen behind_it fits.0 (max_left (nested t) (nested_row r) depth shallow) (omega arith) small.0 (λ _. input_ends generators r rest) in
        let others = row_back false r depth (seen + leaf_count t) rest fits.1 (max_right (nested t) (nested_row r) depth shallow) (omega arith) small.1 in
        steps.row_in-more inside first (width r) seen (Byte (mark_of first) ∷ within) within behind_it t (before_in-back first within) one ∙ ap (steps.behind (t ∷ [])) others
