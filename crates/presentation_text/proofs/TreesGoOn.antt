-- The tokens before the refused one are the first of a tree over the table.
use Rattle.std.proofs.Common.{◌≡◌, ℕ, zero, suc, ◌+◌, ◌<◌, ◌≤◌, Bool, true, false, not, List, [], ◌∷◌, ◌++◌, length, Option, Some, None, Result, Ok, Err, refl, ap, sym, ◌∙◌, arith, append_assoc, append-nil, length-append}
use Rattle.std.specs.Prelude.{if◌then◌else◌, nat_le, nat_lt}
use Rattle.labelled_trees.specs.Trees.{Tree, Row, leaf, node, none, more, width}
use Rattle.labelled_trees.specs.Leaves.{leaf_count}
use Rattle.labelled_trees.specs.Labelled as labelled
use Rattle.symmetric_trees.specs.Generators.{IsTable}
use Rattle.symmetric_trees.specs.Trees.{Fits}
use Rattle.symmetric_trees.specs.declared.generators.Generator.{Generator}
use Rattle.presentation_text.specs.declared.kinds.DocKind.{DocKind}
use Rattle.presentation_text.specs.declared.kinds.DocKind.TheVariants.{InputCount, TooWide, Labels, Syntax}
use Rattle.presentation_text.specs.declared.lexing.Token.{Token}
use Rattle.presentation_text.specs.declared.lexing.Token.TheVariants.{Word, Number, Long, Byte, Bad}
use Rattle.presentation_text.specs.Readings.{Fault, Reading, ◌>>=◌, is_mark, misplaced, first_row, refused}
use Rattle.presentation_text.specs.TreeReadings.{Inside, index_of, begins_with, before_in, close_in, input_in, row_in, node_in, begun_in, tree_or_end_in, tree_in}
use Rattle.presentation_text.specs.TreeText.{tree_tokens}
use Rattle.presentation_text.proofs.TreeTokens.{arity_in}
use Rattle.presentation_text.proofs.TreeReadingsSteps as steps
use Rattle.presentation_text.proofs.TreesAcceptedTrees.{mark_of, inputs_tokens, node_tokens, before_in-front, input_in-read, IsHeld, index_held, least_arity, IsReadInside, ReadsInside, tree_sound}
use Rattle.presentation_text.proofs.TreesStopReadings.{IsByToken, local_by_token, within}
use Rattle.presentation_text.proofs.TreesStopTrees.{input_by_token, local_row, tree_by_token}

-- a tree over the table whose tokens begin so
pub record Begins (generators : List Generator) (front : List Token) : Type 0 where
  pub tree : Tree ℕ
  pub others : List Token
  pub fits : Fits generators tree
  pub spelled : tree_tokens generators tree ≡ front ++ others

-- inputs over the table, with ')' behind them, whose tokens begin so
record BeginsInputs (generators : List Generator) (first : Bool) (k : ℕ) (front : List Token) : Type 0 where
  inputs : Row ℕ
  others : List Token
  wide : width inputs ≡ k
  fits : labelled.FitsRow (arity_in generators) inputs
  spelled : inputs_tokens generators first inputs ++ Byte 41 ∷ [] ≡ front ++ others

-- where reading stops, the tokens before go on to those of a tree
abbrev pub GoesOn : List Generator → (List Token → Reading (Tree ℕ)) → Type 0
GoesOn generators read = (front back : List Token) (kind : DocKind) → read (front ++ back) ≡ Err (length back, kind) → Begins generators front

none_in_front : (front back : List Token) → length (front ++ back) ≡ length back → front ≡ []
none_in_front [] back e = refl
none_in_front (x ∷ front) back e = absurd (omega (arith, e, length-append (x ∷ front) back))

leaf_alone : (generators : List Generator) (front : List Token) → front ≡ [] → Begins generators front
leaf_alone generators front e = record { tree = leaf 1; others = Number 1 ∷ []; fits = tt; spelled = ap (λ ts. ts ++ Number 1 ∷ []) (sym e) }

-- as many leaves
leaves_alone : ℕ → Row ℕ
leaves_alone zero = none
leaves_alone (suc k) = more (leaf 1) (leaves_alone k)

width-leaves_alone : (k : ℕ) → width (leaves_alone k) ≡ k
unfolding leaves_alone
width-leaves_alone zero = refl
width-leaves_alone (suc k) = ap suc (width-leaves_alone k)

fits-leaves_alone : (arities : ℕ → ℕ) (k : ℕ) → labelled.FitsRow arities (leaves_alone k)
unfolding leaves_alone
fits-leaves_alone arities zero = tt
fits-leaves_alone arities (suc k) = (tt, fits-leaves_alone arities k)

inputs_alone : (generators : List Generator) (first : Bool) (k : ℕ) (front : List Token) → front ≡ [] → BeginsInputs generators first k front
inputs_alone generators first k front e = record {
  inputs = leaves_alone k;
  others = inputs_tokens generators first (leaves_alone k) ++ Byte 41 ∷ [];
  wide = width-leaves_alone k;
  fits = fits-leaves_alone (arity_in generators) k;
  spelled = ap (λ ts. ts ++ (inputs_tokens generators first (leaves_alone k) ++ Byte 41 ∷ [])) (sym e);
}

-- ---- marks are refused where they should stand

row_length : {X : Type 0} (a b : Bool) (kind other : DocKind) (left : ℕ) (x : X) (fault : Fault) → refused left (first_row ((a, kind) ∷ (b, other) ∷ [])) (Ok x) ≡ Err fault → fault.0 ≡ left
row_length true b kind other left x fault e = let same : ◌≡◌ {A = Fault} (left, kind) fault = cc in ap (λ (f : Fault). f.0) (sym same)
row_length false true kind other left x fault e = let same : ◌≡◌ {A = Fault} (left, other) fault = cc in ap (λ (f : Fault). f.0) (sym same)
row_length false false kind other left x fault e = absurd cc

rows_length : {X : Type 0} (a b c : Bool) (kind other third : DocKind) (left : ℕ) (x : X) (fault : Fault) → refused left (first_row ((a, kind) ∷ (b, other) ∷ (c, third) ∷ [])) (Ok x) ≡ Err fault → fault.0 ≡ left
rows_length true b c kind other third left x fault e = let same : ◌≡◌ {A = Fault} (left, kind) fault = cc in ap (λ (f : Fault). f.0) (sym same)
rows_length false b c kind other third left x fault e = row_length b c other third left x fault e

mark_length : (b : Bool) (other : DocKind) (left : ℕ) (rest : List Token) (fault : Fault) → (if b then Ok rest else Err (left, other)) ≡ Err fault → fault.0 ≡ left
mark_length true other left rest fault e = absurd cc
mark_length false other left rest fault e = let same : ◌≡◌ {A = Fault} (left, other) fault = cc in ap (λ (f : Fault). f.0) (sym same)

end_length : (kind : DocKind) (fault : Fault) → ◌≡◌ {A = Result (List Token) Fault} (Err (0, kind)) (Err fault) → fault.0 ≡ 0
end_length kind fault e = let same : ◌≡◌ {A = Fault} (0, kind) fault = cc in ap (λ (f : Fault). f.0) (sym same)

close_in-length : (ts : List Token) (fault : Fault) → close_in ts ≡ Err fault → fault.0 ≡ length ts
close_in-length [] fault e = end_length _ fault e
close_in-length (token ∷ rest) fault e = row_length (is_mark 44 token) (not (is_mark 41 token)) InputCount (misplaced token) (suc (length rest)) rest fault e

before_in-length : (first : Bool) (ts : List Token) (fault : Fault) → before_in first ts ≡ Err fault → fault.0 ≡ length ts
before_in-length true [] fault e = end_length _ fault e
before_in-length true (token ∷ rest) fault e = mark_length (is_mark 40 token) (misplaced token) (suc (length rest)) rest fault e
before_in-length false [] fault e = end_length _ fault e
before_in-length false (token ∷ rest) fault e = row_length (is_mark 41 token) (not (is_mark 44 token)) InputCount (misplaced token) (suc (length rest)) rest fault e

fault_left : {X : Type 0} (left : ℕ) (kind : DocKind) (fault : Fault) → ◌≡◌ {A = Result X Fault} (Err (left, kind)) (Err fault) → fault.0 ≡ left
fault_left left kind fault e = let same : ◌≡◌ {A = Fault} (left, kind) fault = cc in ap (λ (f : Fault). f.0) (sym same)

same_fault : {X : Type 0} (fault other : Fault) → ◌≡◌ {A = Result X Fault} (Err fault) (Err other) → fault ≡ other
same_fault fault other e = cc

-- ---- inputs

pub only_first : {A B : Type 0} (m : Result A Fault) (f : A → B) (fault : Fault) → (m >>= (λ x. Ok (f x))) ≡ Err fault → m ≡ Err fault
only_first (Ok x) f fault e = absurd cc
only_first (Err other) f fault e = let same : other ≡ fault = cc in ap Err same

module _ (generators : List Generator) (inside : Inside) where
  by_guard : (b : Bool) (front back : List Token) (kind : DocKind) (reading : Reading (Tree ℕ)) (left : ℕ) → left ≡ length (front ++ back) → refused left (first_row ((b, InputCount) ∷ [])) reading ≡ Err (length back, kind)
      → (reading ≡ Err (length back, kind) → Begins generators front) → Begins generators front
  by_guard true front back kind reading left is e f = leaf_alone generators front (none_in_front front back (sym is ∙ sym (fault_left left InputCount (length back, kind) e)))
  by_guard false front back kind reading left is e f = f e

  input_goes : (seen : ℕ) → GoesOn generators (inside seen) → GoesOn generators (input_in inside seen)
  input_goes seen goes front back kind e = by_tokens (front ++ back) refl e
    where
      by_tokens : (ts : List Token) → ts ≡ front ++ back → input_in inside seen ts ≡ Err (length back, kind) → Begins generators front
      by_tokens [] is f = goes front back kind (ap (inside seen) (sym is) ∙ f)
      by_tokens (token ∷ rest) is f =
          by_guard (is_mark 41 token) front back kind (inside seen (token ∷ rest)) (suc (length rest)) (ap length is) f (λ read. goes front back kind (ap (inside seen) (sym is) ∙ read))

  -- behind its mark an input goes on
  with_input : (first : Bool) (k : ℕ) (front between : List Token) → front ≡ Byte (mark_of first) ∷ between → Begins generators between → BeginsInputs generators first (suc k) front
  with_input first k front between is one =
      let t = one.tree in
      let behind_it = inputs_tokens generators false (leaves_alone k) ++ Byte 41 ∷ [] in
      record {
        inputs = more t (leaves_alone k);
        others = one.others ++ behind_it;
        wide = ap suc (width-leaves_alone k);
        fits = (one.fits, fits-leaves_alone (arity_in generators) k);
        spelled =
            ap (λ ts. Byte (mark_of first) ∷ ts) (append_assoc (tree_tokens generators t) (inputs_tokens generators false (leaves_alone k)) (Byte 41 ∷ []) ∙ ap (λ ts. ts ++ behind_it) one.spelled ∙ append_assoc between one.others behind_it)
            ∙ ap (λ ts. ts ++ (one.others ++ behind_it)) (sym is);
      }

  -- behind an input the others go on
  with_others : (first : Bool) (k : ℕ) (front between : List Token) (t : Tree ℕ) → Fits generators t → front ≡ Byte (mark_of first) ∷ (tree_tokens generators t ++ between) → BeginsInputs generators false k between
      → BeginsInputs generators first (suc k) front
  with_others first k front between t fits is inner = record {
    inputs = more t inner.inputs;
    others = inner.others;
    wide = ap suc inner.wide;
    fits = (fits, inner.fits);
    spelled =
        ap (λ ts. Byte (mark_of first) ∷ ts)
        (append_assoc (tree_tokens generators t) (inputs_tokens generators false inner.inputs) (Byte 41 ∷ []) ∙ ap (λ ts. tree_tokens generators t ++ ts) inner.spelled ∙ sym (append_assoc (tree_tokens generators t) between inner.others))
        ∙ ap (λ ts. ts ++ inner.others) (sym is);
  }

module _ (generators : List Generator) (depth : ℕ) (inside : Inside) (wise : (seen : ℕ) → IsByToken (inside seen)) (sound : ReadsInside generators depth inside)
    (goes : (seen : ℕ) → seen ≤ 9 → GoesOn generators (inside seen)) where
  abbrev RowsGoOn : ℕ → Bool → Type 0
  RowsGoOn k first = (seen : ℕ) → seen ≤ 9 → (front back : List Token) (kind : DocKind) → row_in inside first k seen (front ++ back) ≡ Err (length back, kind) → BeginsInputs generators first k front

  by_input : (k : ℕ) → RowsGoOn k false → (first : Bool) (seen : ℕ) → seen ≤ 9 → (front back : List Token) (kind : DocKind) (rest : List Token) → front ++ back ≡ Byte (mark_of first) ∷ rest
      → (m : Reading (Tree ℕ)) → input_in inside seen rest ≡ m → (m >>= steps.others_in inside k seen) ≡ Err (length back, kind) → BeginsInputs generators first (suc k) front
  by_input k again first seen l front back kind rest parts (Err fault) is e =
      let none_read : input_in inside seen rest ≡ Err (length back, kind) = is ∙ ap Err (same_fault fault (length back, kind) e) in
      let w = within (Byte (mark_of first) ∷ []) rest front back (sym parts) ((local_by_token (input_in inside seen) (input_by_token inside seen (wise seen))).bounded rest (length back, kind) none_read) in
      with_input generators inside first k front w.between w.front_is
      (input_goes generators inside seen (goes seen l) w.between back kind (ap (input_in inside seen) (sym w.rest_is) ∙ none_read))
  by_input k again first seen l front back kind rest parts (Ok found) is e =
      let t : Tree ℕ = found.0 in
      let one : IsReadInside generators depth seen rest t found.1 = sound seen rest t found.1 l (input_in-read inside seen rest found is) in
      let further : row_in inside false k (seen + leaf_count t) found.1 ≡ Err (length back, kind) =
      only_first (row_in inside false k (seen + leaf_count t) found.1) (λ (others : Row ℕ × List Token). (more t others.0, others.1)) (length back, kind) e in
      let parted = ap (λ ts. Byte (mark_of first) ∷ ts) (sym one.spelled) ∙ sym parts in
      let w = within (Byte (mark_of first) ∷ tree_tokens generators t) found.1 front back parted ((local_row inside wise k false (seen + leaf_count t)).bounded found.1 (length back, kind) further) in
      with_others generators inside first k front w.between t one.fits w.front_is
      (again (seen + leaf_count t) one.narrow w.between back kind (ap (row_in inside false k (seen + leaf_count t)) (sym w.rest_is) ∙ further))

  by_mark : (k : ℕ) → RowsGoOn k false → (first : Bool) (seen : ℕ) → seen ≤ 9 → (front back : List Token) (kind : DocKind) (m : Result (List Token) Fault) → before_in first (front ++ back) ≡ m
      → (m >>= steps.inputs_in inside k seen) ≡ Err (length back, kind) → BeginsInputs generators first (suc k) front
  by_mark k again first seen l front back kind (Err fault) is e =
      inputs_alone generators first (suc k) front (none_in_front front back (sym (before_in-length first (front ++ back) (length back, kind) (is ∙ ap Err (same_fault fault (length back, kind) e)))))
  by_mark k again first seen l front back kind (Ok rest) is e = by_input k again first seen l front back kind rest (before_in-front first (front ++ back) rest is) (input_in inside seen rest) refl e

  row_goes : (k : ℕ) (first : Bool) → RowsGoOn k first
  row_goes zero first seen l front back kind e =
      let closed = only_first (close_in (front ++ back)) (λ (rest : List Token). (none, rest)) (length back, kind) (sym (steps.row_in-last inside first seen (front ++ back)) ∙ e) in
      inputs_alone generators first 0 front (none_in_front front back (sym (close_in-length (front ++ back) (length back, kind) closed)))
  row_goes (suc k) first seen l front back kind e =
      by_mark k (row_goes k false) first seen l front back kind (before_in first (front ++ back)) refl (sym (steps.row_in-step inside first k seen (front ++ back)) ∙ e)

-- ---- trees

abbrev GoOnBelow : List Generator → ℕ → Option Inside → Type 0
GoOnBelow generators depth None = Unit {0}
GoOnBelow generators depth (Some inside) = ((seen : ℕ) → IsByToken (inside seen)) × ReadsInside generators depth inside × ((seen : ℕ) → seen ≤ 9 → GoesOn generators (inside seen))

-- a fault at the first token leaves all tokens
not_first : {X : Type 0} (front back : List Token) (kind other : DocKind) → ◌≡◌ {A = Result X Fault} (Err (suc (length (front ++ back)), other)) (Err (length back, kind)) → ⊥
not_first front back kind other e = omega (arith, fault_left (suc (length (front ++ back))) other (length back, kind) e, length-append front back)

vertex_goes : (generators : List Generator) (table : IsTable generators) (w : List ℕ) (g : ℕ) (front : List Token) → IsHeld generators w g → BeginsInputs generators true (arity_in generators g) front → Begins generators (Word w ∷ front)
vertex_goes generators table w g front held rows =
    let least : 2 ≤ arity_in generators g = least_arity generators table g held.held in
    let wide = rows.wide in
    let some : 0 < width rows.inputs = omega arith in
    record {
      tree = node g rows.inputs;
      others = rows.others;
      fits = (least, wide, rows.fits);
      spelled =
          sym (append-nil (tree_tokens generators (node g rows.inputs))) ∙ node_tokens generators g rows.inputs [] some ∙ ap (λ (name : List ℕ). Word name ∷ (inputs_tokens generators true rows.inputs ++ Byte 41 ∷ [])) held.named
          ∙ ap (λ ts. Word w ∷ ts) rows.spelled;
    }

named_goes : (generators : List Generator) (table : IsTable generators) (depth : ℕ) (inside : Option Inside) → GoOnBelow generators depth inside → (seen : ℕ) → seen ≤ 9 → (w : List ℕ) (found : Option ℕ) → index_of w generators ≡ found
    → (front back : List Token) (kind : DocKind) → node_in generators inside seen found (front ++ back) ≡ Err (length back, kind) → Begins generators (Word w ∷ front)
named_goes generators table depth inside below seen l w None is front back kind e = absurd (not_first front back kind _ e)
named_goes generators table depth None below seen l w (Some g) is front back kind e = absurd (not_first front back kind _ e)
named_goes generators table depth (Some inside) below seen l w (Some g) is front back kind e =
    vertex_goes generators table w g front (index_held generators w g is)
    (row_goes generators depth inside below.0 below.1 below.2 (arity_in generators g) true seen l front back kind
    (only_first (row_in inside true (arity_in generators g) seen (front ++ back)) (λ (found : Row ℕ × List Token). (node g found.0, found.1)) (length back, kind) e))

begun_goes : (generators : List Generator) (table : IsTable generators) (depth : ℕ) (inside : Option Inside) → GoOnBelow generators depth inside → (seen : ℕ) → seen ≤ 9 → (token : Token) (front back : List Token) (kind : DocKind)
    → begun_in generators inside seen token (front ++ back) ≡ Err (length back, kind) → Begins generators (token ∷ front)
begun_goes generators table depth inside below seen l (Number n) front back kind e =
    let left = rows_length (begins_with 42 (front ++ back)) (nat_le 9 seen) (nat_lt 99 n) Syntax TooWide Labels (suc (length (front ++ back))) (leaf n, front ++ back) (length back, kind) e in
    absurd (omega (arith, left, length-append front back))
begun_goes generators table depth inside below seen l (Word w) front back kind e = named_goes generators table depth inside below seen l w (index_of w generators) refl front back kind e
begun_goes generators table depth inside below seen l Long front back kind e = absurd (not_first front back kind _ e)
begun_goes generators table depth inside below seen l (Byte b) front back kind e = absurd (not_first front back kind _ e)
begun_goes generators table depth inside below seen l Bad front back kind e = absurd (not_first front back kind _ e)

goes_or_end : (generators : List Generator) (table : IsTable generators) (depth : ℕ) (inside : Option Inside) → GoOnBelow generators depth inside → (seen : ℕ) → seen ≤ 9 → GoesOn generators (tree_or_end_in generators inside seen)
goes_or_end generators table depth inside below seen l [] back kind e = leaf_alone generators [] refl
goes_or_end generators table depth inside below seen l (token ∷ front) back kind e = begun_goes generators table depth inside below seen l token front back kind e

pub tree_goes : (generators : List Generator) (table : IsTable generators) (depth seen : ℕ) → seen ≤ 9 → GoesOn generators (tree_in generators depth seen)
unfolding tree_in
tree_goes generators table zero seen l = goes_or_end generators table 0 None tt seen l
tree_goes generators table (suc depth) seen l =
    goes_or_end generators table depth (Some (tree_in generators depth)) (λ s. tree_by_token generators depth s, tree_sound generators table depth, λ s m. tree_goes generators table depth s m) seen l
