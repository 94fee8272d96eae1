-- The tokens of a tree over the table are refused for a limit alone.
use Rattle.std.specs.Prelude.{nat_le, nat_lt}
use Rattle.std.proofs.Common.{◌≡◌, ℕ, zero, suc, ◌+◌, ◌<◌, ◌≤◌, max, Bool, true, false, List, [], ◌∷◌, ◌++◌, length, Ok, Err, refl, ap, sym, ◌∙◌, subst, arith, append_assoc}
use Rattle.std.proofs.lemmas.Bool.Decides.{nat_tests}
use Rattle.labelled_trees.specs.Trees.{Tree, Row, leaf, node, none, more, width}
use Rattle.labelled_trees.specs.Leaves.{leaf_count, leaf_count_row}
use Rattle.labelled_trees.specs.Labelled as labelled
use Rattle.symmetric_trees.specs.Generators.{IsTable}
use Rattle.symmetric_trees.specs.Trees.{Fits}
use Rattle.symmetric_trees.specs.declared.generators.Generator.{Generator}
use Rattle.presentation_text.specs.declared.kinds.DocKind.{DocKind}
use Rattle.presentation_text.specs.Accepted.{is_leaf}
use Rattle.presentation_text.specs.declared.kinds.DocKind.TheVariants.{TooDeep, TooWide, Labels, Syntax}
use Rattle.presentation_text.specs.declared.lexing.Token.{Token}
use Rattle.presentation_text.specs.declared.lexing.Token.TheVariants.{Byte}
use Rattle.presentation_text.specs.Readings.{Reading, ◌>>=◌, first_row, refused}
use Rattle.presentation_text.specs.TreeReadings.{begins_with, input_in, row_in, tree_in}
use Rattle.presentation_text.specs.TreeText.{name_of, tree_tokens, nested, nested_row}
use Rattle.presentation_text.proofs.TreeTokens.{arity_in}
use Rattle.presentation_text.proofs.TreeReadingsSteps as steps
use Rattle.presentation_text.proofs.TreesAcceptedTrees.{mark_of, inputs_tokens, node_tokens, tree_begins, input_ends, before_in-back, close_in-back, index_back}

-- The limit that a tree breaks of which so many generators stand one inside the other, and so many leaves stand up to its end.
abbrev pub Breaks : DocKind → ℕ → ℕ → ℕ → Type 0
Breaks TooDeep depth nest count = depth < nest
Breaks TooWide depth nest count = 9 < count
Breaks Labels depth nest count = Unit {0}
Breaks kind depth nest count = ⊥

-- what stands there is read, or breaks a limit
abbrev pub IsReadOrBreaks : {X : Type 0} → ℕ → ℕ → ℕ → Reading X → X → List Token → Type 0
IsReadOrBreaks {X} depth nest count (Ok found) x rest = ◌≡◌ {A = X × List Token} found (x, rest)
IsReadOrBreaks depth nest count (Err fault) x rest = Breaks fault.1 depth nest count

breaks_more : (kind : DocKind) (depth nest nest_more count count_more : ℕ) → nest ≤ nest_more → count ≤ count_more → Breaks kind depth nest count → Breaks kind depth nest_more count_more
breaks_more TooDeep depth nest nest_more count count_more a b h = omega (arith, h)
breaks_more TooWide depth nest nest_more count count_more a b h = omega (arith, h)
breaks_more Labels depth nest nest_more count count_more a b h = tt
breaks_more kind depth nest nest_more count count_more a b h = absurd h

breaks_deeper : (kind : DocKind) (depth nest count : ℕ) → Breaks kind depth nest count → Breaks kind (suc depth) (suc nest) count
breaks_deeper TooDeep depth nest count h = omega (arith, h)
breaks_deeper TooWide depth nest count h = h
breaks_deeper Labels depth nest count h = tt
breaks_deeper kind depth nest count h = absurd h

or_breaks-more : {X : Type 0} (depth nest nest_more count count_more : ℕ) (m : Reading X) (x : X) (rest : List Token) → nest ≤ nest_more → count ≤ count_more
    → IsReadOrBreaks depth nest count m x rest → IsReadOrBreaks depth nest_more count_more m x rest
or_breaks-more depth nest nest_more count count_more (Ok found) x rest a b h = h
or_breaks-more depth nest nest_more count count_more (Err fault) x rest a b h = breaks_more fault.1 depth nest nest_more count count_more a b h

or_breaks-deeper : {X : Type 0} (depth nest count : ℕ) (m : Reading X) (x : X) (rest : List Token) → IsReadOrBreaks depth nest count m x rest → IsReadOrBreaks (suc depth) (suc nest) count m x rest
or_breaks-deeper depth nest count (Ok found) x rest h = h
or_breaks-deeper depth nest count (Err fault) x rest h = breaks_deeper fault.1 depth nest count h

or_breaks-bind : {X Y : Type 0} (depth nest count : ℕ) (m : Reading X) (x : X) (mid : List Token) (next : X × List Token → Reading Y) (y : Y) (rest : List Token)
    → IsReadOrBreaks depth nest count m x mid → IsReadOrBreaks depth nest count (next (x, mid)) y rest → IsReadOrBreaks depth nest count (m >>= next) y rest
or_breaks-bind depth nest count (Ok found) x mid next y rest h k = subst (λ f. IsReadOrBreaks depth nest count (next f) y rest) (sym h) k
or_breaks-bind depth nest count (Err fault) x mid next y rest h k = h

leaf_or_breaks : (star a b : Bool) (depth nest count n : ℕ) (rest : List Token) → star ≡ false → (a ≡ true → 9 < count)
    → IsReadOrBreaks depth nest count (refused (suc (length rest)) (first_row ((star, Syntax) ∷ (a, TooWide) ∷ (b, Labels) ∷ [])) (Ok (leaf n, rest))) (leaf n) rest
leaf_or_breaks true a b depth nest count n rest e f = absurd cc
leaf_or_breaks false true b depth nest count n rest e f = f refl
leaf_or_breaks false false true depth nest count n rest e f = tt
leaf_or_breaks false false false depth nest count n rest e f = refl

is_tenth : (seen : ℕ) → nat_le 9 seen ≡ true → 9 < seen + 1
is_tenth seen e = grind (arith, nat_tests)

module _ (generators : List Generator) (table : IsTable generators) where
  mutual
    pub tree_or_breaks : (t : Tree ℕ) (depth seen : ℕ) (rest : List Token) → Fits generators t → (is_leaf t ≡ true → begins_with 42 rest ≡ false)
        → IsReadOrBreaks depth (nested t) (seen + leaf_count t) (tree_in generators depth seen (tree_tokens generators t ++ rest)) t rest
    tree_or_breaks (leaf n) depth seen rest fits ends =
        subst (λ m. IsReadOrBreaks depth 0 (seen + 1) m (leaf n) rest) (sym (steps.tree_in-number generators depth seen n rest))
        (leaf_or_breaks (begins_with 42 rest) (nat_le 9 seen) (nat_lt 99 n) depth 0 (seen + 1) n rest (ends refl) (is_tenth seen))
    tree_or_breaks (node g r) zero seen rest fits ends =
        let some : 0 < width r = omega (arith, fits.0, fits.1) in
        let behind_name = inputs_tokens generators true r ++ Byte 41 ∷ rest in
        let deep : 0 < suc (nested_row r) = omega arith in
        subst (λ m. IsReadOrBreaks 0 (suc (nested_row r)) (seen + leaf_count_row r) m (node g r) rest)
        (sym (ap (tree_in generators 0 seen) (node_tokens generators g r rest some) ∙ steps.tree_in-deep generators 0 seen (name_of generators g) g behind_name (index_back generators table g fits.0) refl)) deep
    tree_or_breaks (node g r) (suc depth) seen rest fits ends =
        let some : 0 < width r = omega (arith, fits.0, fits.1) in
        let behind_name = inputs_tokens generators true r ++ Byte 41 ∷ rest in
        let count = seen + leaf_count_row r in
        let inside = tree_in generators depth in
        let inputs = or_breaks-deeper depth (nested_row r) count (row_in inside true (width r) seen behind_name) r rest (row_or_breaks true r depth seen rest fits.2) in
        let wide : IsReadOrBreaks (suc depth) (suc (nested_row r)) count (row_in inside true (arity_in generators g) seen behind_name) r rest =
        subst (λ k. IsReadOrBreaks (suc depth) (suc (nested_row r)) count (row_in inside true k seen behind_name) r rest) fits.1 inputs in
        subst (λ m. IsReadOrBreaks (suc depth) (suc (nested_row r)) count m (node g r) rest)
        (sym (ap (tree_in generators (suc depth) seen) (node_tokens generators g r rest some) ∙ steps.tree_in-below generators depth seen (name_of generators g) g behind_name (index_back generators table g fits.0)))
        (or_breaks-bind (suc depth) (suc (nested_row r)) count (row_in inside true (arity_in generators g) seen behind_name) r rest (λ (found : Row ℕ × List Token). Ok (node g found.0, found.1)) (node g r) rest wide refl)

    row_or_breaks : (first : Bool) (r : Row ℕ) (depth seen : ℕ) (rest : List Token) → labelled.FitsRow (arity_in generators) r
        → IsReadOrBreaks depth (nested_row r) (seen + leaf_count_row r) (row_in (tree_in generators depth) first (width r) seen (inputs_tokens generators first r ++ Byte 41 ∷ rest)) r rest
    row_or_breaks first none depth seen rest fits =
        subst (λ m. IsReadOrBreaks depth 0 (seen + 0) m none rest) (sym (steps.row_in-closed (tree_in generators depth) first seen (Byte 41 ∷ rest) rest (close_in-back rest))) refl
    row_or_breaks first (more t r) depth seen rest fits =
        let inside = tree_in generators depth in
        let k = width r in
        let nest = max (nested t) (nested_row r) in
        let count = seen + (leaf_count t + leaf_count_row r) in
        let behind_it = inputs_tokens generators false r ++ Byte 41 ∷ rest in
        let within = (tree_tokens generators t ++ inputs_tokens generators false r) ++ Byte 41 ∷ rest in
        let parted : within ≡ tree_tokens generators t ++ behind_it = append_assoc (tree_tokens generators t) (inputs_tokens generators false r) (Byte 41 ∷ rest) in
        let one : input_in inside seen within ≡ inside seen (tree_tokens generators t ++ behind_it) =
        ap (input_in inside seen) parted ∙ steps.input_in-tree inside seen (tree_tokens generators t ++ behind_it) (tree_begins generators t behind_it) in
        let input : IsReadOrBreaks depth nest count (input_in inside seen within) t behind_it =
        subst (λ m. IsReadOrBreaks depth nest count m t behind_it) (sym one)
        (or_breaks-more depth (nested t) nest (seen + leaf_count t) count (inside seen (tree_tokens generators t ++ behind_it)) t behind_it (omega arith) (omega arith) (tree_or_breaks t depth seen behind_it fits.0 (λ _. input_ends generators r rest))) in
        let others : IsReadOrBreaks depth nest count (row_in inside false k (seen + leaf_count t) behind_it) r rest =
        or_breaks-more depth (nested_row r) nest (seen + leaf_count t + leaf_count_row r) count (row_in inside false k (seen + leaf_count t) behind_it) r rest (omega arith) (omega arith)
        (row_or_breaks false r depth (seen + leaf_count t) rest fits.1) in
        subst (λ m. IsReadOrBreaks depth nest count m (more t r) rest)
        (sym (steps.row_in-step inside first k seen (Byte (mark_of first) ∷ within) ∙ ap (λ m. m >>= steps.inputs_in inside k seen) (before_in-back first within)))
        (or_breaks-bind depth nest count (input_in inside seen within) t behind_it (steps.others_in inside k seen) (more t r) rest input
        (or_breaks-bind depth nest count (row_in inside false k (seen + leaf_count t) behind_it) r rest (λ (found : Row ℕ × List Token). Ok (more t found.0, found.1)) (more t r) rest others refl))
