-- The sorted spelling: what it keeps, that it agrees and is sorted, and that it is the only one.
use Rattle.std.proofs.Common.{◌≡◌, ℕ, suc, ◌<◌, ◌≤◌, List, [], ◌∷◌, ◌++◌, length, map, take, drop, get_or, refl, sym, ap, ap₂, ◌∙◌, subst, arith}
use native.Mathlib.Decide.{ℕ_discrete}
use Rattle.std.specs.List.{AllByRecursion}
use Rattle.std.proofs.Math.ListN.{length-map}
use Rattle.labelled_trees.specs.Trees.{Tree, Row, leaf, node, none, more, row, inputs, width}
use Rattle.labelled_trees.specs.Leaves.{sum_leaves, occurs, occurs_row, one_if}
use Rattle.labelled_trees.specs.Labelled.{Fits, FitsRow}
use Rattle.labelled_trees.proofs.Numbered.{labelled_once}
use Rattle.labelled_trees.proofs.Rows.{inputs-row, row-inputs, fits_input, sum_leaves-le_row}
use Rattle.operad_ideals.specs.Parts.{Part, Sign, plus, times, total}
use Rattle.operad_ideals.specs.Spelling.{least_leaf, Agrees, same, exchanged, inside, followed, IsSorted, IsSortedRow}
use Rattle.operad_ideals.specs.Sorting.{sort_parts, parts_sign, spelled, spelled_row, spelled_sign, spelled_sign_row}
use Rattle.operad_ideals.specs.Laws.{arity, OneSpelling}
use Rattle.operad_ideals.proofs.Signs.{times-plus, times_assoc, times_left_comm}
use Rattle.operad_ideals.proofs.SortedLists.{Apart, exchange, exchange-map, apart-at, apart-take, apart-drop, apart-map, apart-unmap}
use Rattle.operad_ideals.proofs.SortedParts.{Rise, sort_parts-exchange, parts_sign-exchange, every_sort_parts, sort_parts-same, parts_sign-ascending, sort_parts-rise}
use Rattle.operad_ideals.proofs.Exchanges.{Reaches, reaches_spelled}
use Rattle.operad_ideals.proofs.LeastLeaves.{row_apart}
use Rattle.operad_ideals.proofs.Agreement.{least_leaf-agrees, sum_leaves-agrees, occurs-agrees, fits-agrees}

module _ (parts : ℕ → List Part) where
  pub spelled_row-row : (ts : List (Tree ℕ)) → spelled_row parts (row ts) ≡ map (spelled parts) ts
  spelled_row-row [] = refl
  spelled_row-row (t ∷ ts) = ap (λ us. spelled parts t ∷ us) (spelled_row-row ts)

  pub length-spelled_row : (r : Row ℕ) → length (spelled_row parts r) ≡ width r
  length-spelled_row none = refl
  length-spelled_row (more t r) = ap suc (length-spelled_row r)

  -- ---- what the spelling keeps: each sum over the leaves, what fits, and the least leaf

  pub sum_leaves-spelled : (f : ℕ → ℕ) (t : Tree ℕ) → sum_leaves (spelled parts t) f ≡ sum_leaves t f
  sum_leaves-spelled f t = let k : Reaches parts t (spelled parts t) = reaches_spelled parts t in sym (sum_leaves-agrees parts f k.0 t (spelled parts t) k.1)

  pub occurs-spelled : (i : ℕ) (t : Tree ℕ) → occurs i (spelled parts t) ≡ occurs i t
  occurs-spelled i t = sum_leaves-spelled (λ n. one_if (ℕ_discrete n i)) t

  pub fits-spelled : (arity : ℕ → ℕ) (t : Tree ℕ) → Fits arity t → Fits arity (spelled parts t)
  fits-spelled arity t h = let k : Reaches parts t (spelled parts t) = reaches_spelled parts t in fits-agrees parts arity k.0 t (spelled parts t) k.1 h

  pub least_leaf-spelled : (t : Tree ℕ) → least_leaf (spelled parts t) ≡ least_leaf t
  least_leaf-spelled t = let k : Reaches parts t (spelled parts t) = reaches_spelled parts t in sym (least_leaf-agrees parts k.0 t (spelled parts t) k.1)

  pub least_leaves-spelled_row : (r : Row ℕ) → map least_leaf (spelled_row parts r) ≡ map least_leaf (inputs r)
  least_leaves-spelled_row none = refl
  least_leaves-spelled_row (more t r) = ap₂ (λ n ns. n ∷ ns) (least_leaf-spelled t) (least_leaves-spelled_row r)

-- where each number stands at one leaf at most, the inputs of a vertex, spelled, have different least leaves
pub inputs_apart : (parts : ℕ → List Part) (g : ℕ) (r : Row ℕ) → Fits (arity parts) (node g r) → ((i : ℕ) → occurs i (node g r) ≤ 1) → Apart least_leaf (spelled_row parts r)
inputs_apart parts g r h once =
    apart-unmap least_leaf (spelled_row parts r) (subst (Apart (λ n. n)) (sym (least_leaves-spelled_row parts r)) (apart-map least_leaf (inputs r) (row_apart (arity parts) r h.2 once)))

-- the same of two places
pub inputs_apart-at : (parts : ℕ → List Part) (g : ℕ) (r : Row ℕ) → Fits (arity parts) (node g r) → ((i : ℕ) → occurs i (node g r) ≤ 1)
    → (i j : ℕ) (d : Tree ℕ) → i < j → j < length (spelled_row parts r) → least_leaf (get_or (spelled_row parts r) i d) ≡ least_leaf (get_or (spelled_row parts r) j d) → ⊥
inputs_apart-at parts g r h once = apart-at least_leaf (spelled_row parts r) (inputs_apart parts g r h once)

-- the same of two places in a part of these inputs
pub part_apart-at : (parts : ℕ → List Part) (g : ℕ) (r : Row ℕ) → Fits (arity parts) (node g r) → ((i : ℕ) → occurs i (node g r) ≤ 1)
    → (k m i j : ℕ) (d : Tree ℕ) → i < j → j < length (take k (drop m (spelled_row parts r)))
    → least_leaf (get_or (take k (drop m (spelled_row parts r))) i d) ≡ least_leaf (get_or (take k (drop m (spelled_row parts r))) j d) → ⊥
part_apart-at parts g r h once k m =
    apart-at least_leaf (take k (drop m (spelled_row parts r))) (apart-take least_leaf k (drop m (spelled_row parts r)) (apart-drop least_leaf m (spelled_row parts r) (inputs_apart parts g r h once)))

-- ---- the spellings of trees that agree

module _ (parts : ℕ → List Part) where
  spelled_sign-exchange : (front : List (Tree ℕ)) (a b : Tree ℕ) (back : List (Tree ℕ)) → spelled_sign_row parts (row (front ++ a ∷ (b ∷ back))) ≡ spelled_sign_row parts (row (front ++ b ∷ (a ∷ back)))
  spelled_sign-exchange [] a b back = times_left_comm (spelled_sign parts a) (spelled_sign parts b) (spelled_sign_row parts (row back))
  spelled_sign-exchange (t ∷ ts) a b back = ap (times (spelled_sign parts t)) (spelled_sign-exchange ts a b back)

  spelled_sign-replace : (s : Sign) (front : List (Tree ℕ)) (a b : Tree ℕ) (back : List (Tree ℕ)) → spelled_sign parts a ≡ times s (spelled_sign parts b)
      → spelled_sign_row parts (row (front ++ a ∷ back)) ≡ times s (spelled_sign_row parts (row (front ++ b ∷ back)))
  spelled_sign-replace s [] a b back e = ap (λ q. times q (spelled_sign_row parts (row back))) e ∙ times_assoc s (spelled_sign parts b) (spelled_sign_row parts (row back))
  spelled_sign-replace s (t ∷ ts) a b back e = ap (times (spelled_sign parts t)) (spelled_sign-replace s ts a b back e) ∙ times_left_comm (spelled_sign parts t) s (spelled_sign_row parts (row (ts ++ b ∷ back)))

  spelled_row-exchange : (front : List (Tree ℕ)) (a b : Tree ℕ) (back : List (Tree ℕ)) → spelled_row parts (row (front ++ b ∷ (a ∷ back))) ≡ exchange (length front) (spelled_row parts (row (front ++ a ∷ (b ∷ back))))
  spelled_row-exchange [] a b back = refl
  spelled_row-exchange (t ∷ ts) a b back = ap (λ us. spelled parts t ∷ us) (spelled_row-exchange ts a b back)

  spelled_row-replace : (front : List (Tree ℕ)) (a b : Tree ℕ) (back : List (Tree ℕ)) → spelled parts a ≡ spelled parts b → spelled_row parts (row (front ++ a ∷ back)) ≡ spelled_row parts (row (front ++ b ∷ back))
  spelled_row-replace [] a b back e = ap (λ t. t ∷ spelled_row parts (row back)) e
  spelled_row-replace (t ∷ ts) a b back e = ap (λ us. spelled parts t ∷ us) (spelled_row-replace ts a b back e)

  long_enough : (front : List (Tree ℕ)) (a b : Tree ℕ) (back : List (Tree ℕ)) → suc (length front) < width (row (front ++ a ∷ (b ∷ back)))
  long_enough [] a b back = omega arith
  long_enough (t ∷ ts) a b back = omega (arith, long_enough ts a b back)

  -- trees that agree have one spelling, and their signs differ by that of the agreement
  pub spelled-agrees : (s : Sign) (t u : Tree ℕ) → Agrees parts s t u → Fits (arity parts) t → ((i : ℕ) → occurs i t ≤ 1) → (spelled parts t ≡ spelled parts u) × (spelled_sign parts t ≡ times s (spelled_sign parts u))
  spelled-agrees s t u (same v) fits once = (refl, refl)
  spelled-agrees s t u (exchanged g r front a b back h) fits once =
      let before : Row ℕ = row (front ++ a ∷ (b ∷ back)) in
      let after : Row ℕ = row (front ++ b ∷ (a ∷ back)) in
      let ts : List (Tree ℕ) = spelled_row parts before in
      let us : List (Tree ℕ) = spelled_row parts after in
      let apart : Apart least_leaf ts = inputs_apart parts g before fits once in
      let moved : us ≡ exchange (length front) ts = spelled_row-exchange front a b back in
      let keys : map least_leaf us ≡ exchange (length front) (map least_leaf ts) = ap (map least_leaf) moved ∙ exchange-map least_leaf (length front) ts in
      let within : suc (length front) < length (map least_leaf ts) = rw (length-map ts least_leaf, length-spelled_row parts before) (long_enough front a b back) in
      let sorted : sort_parts least_leaf (parts g) us ≡ sort_parts least_leaf (parts g) ts = ap (sort_parts least_leaf (parts g)) moved ∙ sort_parts-exchange least_leaf (parts g) (length front) r ts h apart in
      let turned : parts_sign (parts g) (map least_leaf ts) ≡ times r (parts_sign (parts g) (map least_leaf us)) =
      parts_sign-exchange (parts g) (length front) r (map least_leaf ts) h (apart-map least_leaf ts apart) within ∙ ap (λ ks. times r (parts_sign (parts g) ks)) (sym keys) in (
        ap (λ vs. node g (row vs)) (sym sorted),
        ap₂ times (spelled_sign-exchange front a b back) turned ∙ times_left_comm (spelled_sign_row parts after) r (parts_sign (parts g) (map least_leaf us)),
      )
  spelled-agrees s t u (inside g r front a b back h) fits once =
      let before : Row ℕ = row (front ++ a ∷ back) in
      let after : Row ℕ = row (front ++ b ∷ back) in
      let inner = spelled-agrees r a b h (fits_input (arity parts) front a back fits.2) (λ i. omega (arith, sum_leaves-le_row (λ n. one_if (ℕ_discrete n i)) front a back, once i)) in
      let inputs_are : spelled_row parts before ≡ spelled_row parts after = spelled_row-replace front a b back inner.0 in (
        ap (λ vs. node g (row (sort_parts least_leaf (parts g) vs))) inputs_are,
        ap₂ (λ q vs. times q (parts_sign (parts g) (map least_leaf vs))) (spelled_sign-replace r front a b back inner.1) inputs_are
            ∙ times_assoc r (spelled_sign_row parts after) (parts_sign (parts g) (map least_leaf (spelled_row parts after))),
      )
  spelled-agrees s t u (followed r q a b c h k) fits once =
      let first = spelled-agrees r a b h fits once in
      let second = spelled-agrees q b c k (fits-agrees parts (arity parts) r a b h fits) (λ i. omega (arith, occurs-agrees parts i r a b h, once i)) in
      (first.0 ∙ second.0, first.1 ∙ ap (times r) second.1 ∙ sym (times_assoc r q (spelled_sign parts c)))

  -- ---- a sorted tree is its own spelling, with the sign plus

  vertex_sorted : (g : ℕ) (r : Row ℕ) → Rise (parts g) (map least_leaf (inputs r)) → spelled_row parts r ≡ inputs r → spelled_sign_row parts r ≡ plus
      → (spelled parts (node g r) ≡ node g r) × (spelled_sign parts (node g r) ≡ plus)
  vertex_sorted g r rise inputs_are sign_is = (
    ap (λ ts. node g (row (sort_parts least_leaf (parts g) ts))) inputs_are ∙ ap (λ ts. node g (row ts)) (sort_parts-same least_leaf (parts g) (inputs r) rise) ∙ ap (node g) (row-inputs r),
    ap₂ (λ s ts. times s (parts_sign (parts g) (map least_leaf ts))) sign_is inputs_are ∙ parts_sign-ascending (parts g) (map least_leaf (inputs r)) rise,
  )

  mutual
    pub sorted_spelling : (t : Tree ℕ) → IsSorted parts t → (spelled parts t ≡ t) × (spelled_sign parts t ≡ plus)
    sorted_spelling (leaf n) h = (refl, refl)
    sorted_spelling (node g r) h = let k : (spelled_row parts r ≡ inputs r) × (spelled_sign_row parts r ≡ plus) = sorted_spelling_row r h.1 in vertex_sorted g r h.0 k.0 k.1

    sorted_spelling_row : (r : Row ℕ) → IsSortedRow parts r → (spelled_row parts r ≡ inputs r) × (spelled_sign_row parts r ≡ plus)
    sorted_spelling_row none h = (refl, refl)
    sorted_spelling_row (more t r) h =
        let first : (spelled parts t ≡ t) × (spelled_sign parts t ≡ plus) = sorted_spelling t h.0 in
        let others : (spelled_row parts r ≡ inputs r) × (spelled_sign_row parts r ≡ plus) = sorted_spelling_row r h.1 in
        (ap₂ (λ u us. u ∷ us) first.0 others.0, ap₂ times first.1 others.1)

  -- ---- the spelling is sorted

  sorted_row : (ts : List (Tree ℕ)) → AllByRecursion (IsSorted parts) ts → IsSortedRow parts (row ts)
  sorted_row [] h = tt
  sorted_row (t ∷ ts) h = (h.0, sorted_row ts h.1)

  mutual
    pub is_sorted_spelled : (t : Tree ℕ) → Fits (arity parts) t → ((i : ℕ) → occurs i t ≤ 1) → IsSorted parts (spelled parts t)
    is_sorted_spelled (leaf n) fits once = tt
    is_sorted_spelled (node g r) fits once =
        let ts : List (Tree ℕ) = sort_parts least_leaf (parts g) (spelled_row parts r) in
        let wide : total (parts g) ≤ length (spelled_row parts r) = omega (arith, length-spelled_row parts r, fits.1) in
        let rise : Rise (parts g) (map least_leaf ts) = sort_parts-rise least_leaf (parts g) (spelled_row parts r) wide (inputs_apart parts g r fits once) in (
          subst (λ us. Rise (parts g) (map least_leaf us)) (sym (inputs-row ts)) rise,
          sorted_row ts (every_sort_parts least_leaf (IsSorted parts) (parts g) (spelled_row parts r) (are_sorted_spelled r fits.2 once)),
        )

    are_sorted_spelled : (r : Row ℕ) → FitsRow (arity parts) r → ((i : ℕ) → occurs_row i r ≤ 1) → AllByRecursion (IsSorted parts) (spelled_row parts r)
    are_sorted_spelled none fits once = tt
    are_sorted_spelled (more t r) fits once = (is_sorted_spelled t fits.0 (λ i. omega (arith, once i)), are_sorted_spelled r fits.1 (λ i. omega (arith, once i)))

  -- a tree agrees with its spelling, with the plain sign
  pub agrees_spelled : (t : Tree ℕ) → Fits (arity parts) t → ((i : ℕ) → occurs i t ≤ 1) → Agrees parts (spelled_sign parts t) t (spelled parts t)
  agrees_spelled t fits once =
      let path : Reaches parts t (spelled parts t) = reaches_spelled parts t in
      let own = sorted_spelling (spelled parts t) (is_sorted_spelled t fits once) in
      let sign_is : spelled_sign parts t ≡ path.0 = (spelled-agrees path.0 t (spelled parts t) path.1 fits once).1 ∙ ap (times path.0) own.1 ∙ times-plus path.0 in
      subst (λ s. Agrees parts s t (spelled parts t)) (sym sign_is) path.1

pub one_spelling : OneSpelling
one_spelling parts n t l = (
  record { agrees = agrees_spelled parts t l.fits (labelled_once l); sorted = is_sorted_spelled parts t l.fits (labelled_once l) },
  λ s u h.
      let both = spelled-agrees parts s t u h.agrees l.fits (labelled_once l) in
      let own = sorted_spelling parts u h.sorted in
      (sym (both.1 ∙ ap (times s) own.1 ∙ times-plus s), sym (both.0 ∙ own.0)),
)
