-- The words of trees: they are words, compare as the trees do, and tell trees apart.
use Rattle.std.proofs.Common.{◌≡◌, ℕ, zero, suc, ◌+◌, ◌*◌, ◌<◌, ◌≤◌, List, [], ◌∷◌, length, map, refl, ap, ap₂, sym, ◌∙◌, subst, arith}
use mathlib.Core.List.{◌++◌}
use Rattle.std.specs.List.{AllByRecursion}
use Rattle.std.specs.declared.cmp.Ordering.{Ordering}
use Rattle.std.specs.declared.cmp.Ordering.TheVariants.{Less, Equal, Greater}
use Rattle.std.specs.Ordering.{nat_cmp, ordering_then}
use Rattle.std.specs.Cmp.Lexicographic.{slice_cmp}
use Rattle.labelled_trees.specs.Trees.{Tree, Row, leaf, node, none, more, width, graft_row, map_tree}
use Rattle.labelled_trees.specs.Leaves.{AllLeaves, AllRow, leaf_count, leaf_count_row}
use Rattle.labelled_trees.specs.Labelled.{Fits, FitsRow}
use Rattle.operad_ideals.specs.SpellingOrder.{order, order_row}
use Rattle.operad_ideals.proofs.TreeOrder.{order_is_total}
use Rattle.normal_listing.specs.Places.{IsSymbol, IsShortWord, number_of}
use Rattle.normal_listing.specs.Words.{symbols, symbols_row, IsLeafDigit, HasFewGenerators, HasWord, WordsSpell, IsUpTo, RenamesLeaves, RenamedTrees}
use Rattle.normal_listing.proofs.Places.{all_joined, length_joined}
use Rattle.normal_listing.proofs.Order.{numbers_compare, less_is, greater_is, equal_is, shifted}

-- ---- few symbols

mutual
  few_symbols : (arity : ℕ → ℕ) (t : Tree ℕ) → Fits arity t → length (symbols t) + 1 ≤ 2 * leaf_count t
  few_symbols arity (leaf i) h = omega arith
  few_symbols arity (node g r) h = let rest = few_in_row arity r h.2 in let wide = h.0 in let same = h.1 in omega (arith, rest, wide, same)

  few_in_row : (arity : ℕ → ℕ) (r : Row ℕ) → FitsRow arity r → length (symbols_row r) + width r ≤ 2 * leaf_count_row r
  few_in_row arity none h = omega arith
  few_in_row arity (more t r) h =
      let first = few_symbols arity t h.0 in
      let rest = few_in_row arity r h.1 in
      let both = length_joined (symbols t) (symbols_row r) in omega (arith, first, rest, both)

mutual
  are_symbols : (arity : ℕ → ℕ) (t : Tree ℕ) → HasFewGenerators arity → Fits arity t → AllLeaves t IsLeafDigit → AllByRecursion IsSymbol (symbols t)
  are_symbols arity (leaf i) few h d = let small = d.1 in (record { some = d.0; small = omega (arith, small) }, tt)
  are_symbols arity (node g r) few h d = let small = few g h.0 in (record { some = omega arith; small = omega (arith, small) }, are_in_row arity r few h.2 d)

  are_in_row : (arity : ℕ → ℕ) (r : Row ℕ) → HasFewGenerators arity → FitsRow arity r → AllRow r IsLeafDigit → AllByRecursion IsSymbol (symbols_row r)
  are_in_row arity none few h d = tt
  are_in_row arity (more t r) few h d = all_joined (symbols t) (symbols_row r) (are_symbols arity t few h.0 d.0) (are_in_row arity r few h.1 d.1)

pub tree_word : (arity : ℕ → ℕ) (t : Tree ℕ) → HasFewGenerators arity → HasWord arity t → IsShortWord (symbols t)
tree_word arity t few h =
    let fewer = few_symbols arity t h.fits in
    let leaves = h.few in
    record { few = omega (arith, fewer, leaves); symbols = are_symbols arity t few h.fits h.leaves }

-- ---- order

then_assoc : (a b c : Ordering) → ordering_then (ordering_then a b) c ≡ ordering_then a (ordering_then b c)
then_assoc Less b c = refl
then_assoc Equal b c = refl
then_assoc Greater b c = refl

assoc : {X : Type 0} (k l m : List X) → (k ++ l) ++ m ≡ k ++ (l ++ m)
assoc [] l m = refl
assoc (x ∷ k) l m = ap (λ n. x ∷ n) (assoc k l m)

-- where the generators are one, the inputs decide
behind : (o : Ordering) (a b c : Ordering) → (o ≡ Equal → a ≡ ordering_then b c) → ordering_then o a ≡ ordering_then (ordering_then o b) c
behind Less a b c h = refl
behind Equal a b c h = h refl
behind Greater a b c h = refl

mutual
  tree_compares : (arity : ℕ → ℕ) (t u : Tree ℕ) (r s : List ℕ) → Fits arity t → Fits arity u → AllLeaves t IsLeafDigit → AllLeaves u IsLeafDigit
      → slice_cmp nat_cmp (symbols t ++ r) (symbols u ++ s) ≡ ordering_then (order t u) (slice_cmp nat_cmp r s)
  tree_compares arity (leaf i) (leaf j) r s f e d c = refl
  tree_compares arity (leaf i) (node h q) r s f e d c = let small = d.1 in ap (λ o. ordering_then o (slice_cmp nat_cmp r (symbols_row q ++ s))) (less_is i (10 + h) (omega (arith, small)))
  tree_compares arity (node g p) (leaf j) r s f e d c = let small = c.1 in ap (λ o. ordering_then o (slice_cmp nat_cmp (symbols_row p ++ r) s)) (greater_is (10 + g) j (omega (arith, small)))
  tree_compares arity (node g p) (node h q) r s f e d c =
      ap (λ o. ordering_then o (slice_cmp nat_cmp (symbols_row p ++ r) (symbols_row q ++ s))) (shifted 10 g h)
      ∙ behind (nat_cmp g h) (slice_cmp nat_cmp (symbols_row p ++ r) (symbols_row q ++ s)) (order_row p q) (slice_cmp nat_cmp r s)
      (λ same. row_compares arity p q r s (f.1 ∙ ap arity (equal_is g h same) ∙ sym e.1) f.2 e.2 d c)

  row_compares : (arity : ℕ → ℕ) (p q : Row ℕ) (r s : List ℕ) → width p ≡ width q → FitsRow arity p → FitsRow arity q → AllRow p IsLeafDigit → AllRow q IsLeafDigit
      → slice_cmp nat_cmp (symbols_row p ++ r) (symbols_row q ++ s) ≡ ordering_then (order_row p q) (slice_cmp nat_cmp r s)
  row_compares arity none none r s w f e d c = refl
  row_compares arity none (more u q) r s w f e d c = absurd (omega (arith, w))
  row_compares arity (more t p) none r s w f e d c = absurd (omega (arith, w))
  row_compares arity (more t p) (more u q) r s w f e d c =
      ap₂ (slice_cmp nat_cmp) (assoc (symbols t) (symbols_row p) r) (assoc (symbols u) (symbols_row q) s)
      ∙ tree_compares arity t u (symbols_row p ++ r) (symbols_row q ++ s) f.0 e.0 d.0 c.0
      ∙ ap (ordering_then (order t u)) (row_compares arity p q r s (omega (arith, w)) f.1 e.1 d.1 c.1)
      ∙ sym (then_assoc (order t u) (order_row p q) (slice_cmp nat_cmp r s))

ends : {X : Type 0} (l : List X) → l ++ [] ≡ l
ends [] = refl
ends (x ∷ l) = ap (λ m. x ∷ m) (ends l)

then_equal : (o : Ordering) → ordering_then o Equal ≡ o
then_equal Less = refl
then_equal Equal = refl
then_equal Greater = refl

pub words_compare : (arity : ℕ → ℕ) (t u : Tree ℕ) → HasWord arity t → HasWord arity u → slice_cmp nat_cmp (symbols t) (symbols u) ≡ order t u
words_compare arity t u h g =
    sym (ap₂ (slice_cmp nat_cmp) (ends (symbols t)) (ends (symbols u)))
    ∙ tree_compares arity t u [] [] h.fits g.fits h.leaves g.leaves ∙ then_equal (order t u)

words_apart : (arity : ℕ → ℕ) (t u : Tree ℕ) → HasWord arity t → HasWord arity u → symbols t ≡ symbols u → t ≡ u
words_apart arity t u h g e =
    let alike : order t u ≡ order u u = sym (words_compare arity t u h g) ∙ ap (λ l. slice_cmp nat_cmp l (symbols u)) e ∙ words_compare arity u u g g in
    (order_is_total.equal t u).0 (alike ∙ (order_is_total.equal u u).1 refl)

pub words_spell : WordsSpell
words_spell = record {
  words = tree_word;
  compared = words_compare;
  numbers = λ arity t u few h g. numbers_compare (symbols t) (symbols u) (tree_word arity t few h) (tree_word arity u few g) ∙ words_compare arity t u h g;
  apart = words_apart;
}

-- ---- other leaves

map_joined : (f : ℕ → ℕ) (l m : List ℕ) → map f (l ++ m) ≡ map f l ++ map f m
map_joined f [] m = refl
map_joined f (x ∷ l) m = ap (λ n. f x ∷ n) (map_joined f l m)

front_are : (l m : List ℕ) → AllByRecursion IsSymbol (l ++ m) → AllByRecursion IsSymbol l × AllByRecursion IsSymbol m
front_are [] m h = (tt, h)
front_are (x ∷ l) m h = let r = front_are l m h.1 in ((h.0, r.0), r.1)

mutual
  renamed_tree : (n : ℕ) (f table : ℕ → ℕ) (t : Tree ℕ) → RenamesLeaves n f table → AllByRecursion IsSymbol (symbols t) → AllLeaves t (IsUpTo n) → map table (symbols t) ≡ symbols (map_tree f t)
  renamed_tree n f table (leaf i) h s d = ap (λ j. j ∷ []) (h.leaves i d)
  renamed_tree n f table (node g r) h s d = let small = s.0.small in ap₂ (λ x l. x ∷ l) (h.vertices g (omega (arith, small))) (renamed_row n f table r h s.1 d)

  renamed_row : (n : ℕ) (f table : ℕ → ℕ) (r : Row ℕ) → RenamesLeaves n f table → AllByRecursion IsSymbol (symbols_row r) → AllRow r (IsUpTo n) → map table (symbols_row r) ≡ symbols_row (graft_row r (λ i. leaf (f i)))
  renamed_row n f table none h s d = refl
  renamed_row n f table (more t r) h s d =
      let parts = front_are (symbols t) (symbols_row r) s in
      map_joined table (symbols t) (symbols_row r) ∙ ap₂ (λ l m. l ++ m) (renamed_tree n f table t h parts.0 d.0) (renamed_row n f table r h parts.1 d.1)

pub renamed_trees : RenamedTrees
renamed_trees n f table t h w d = renamed_tree n f table t h w.symbols d
