-- Laying the inputs of one tree of a store on those of another.
use Rattle.std.proofs.Common.{◌≡◌, ◌≢◌, ℕ, ◌+◌, ◌-◌, ◌<◌, ◌≤◌, zero, suc, List, [], ◌∷◌, length, map, take, get_or, refl, sym, ◌∙◌, ap, arith, subst}
use mathlib.Core.List.{◌++◌}
use mathlib.Core.Path.{ap₂}
use native.Mathlib.Decide.{ℕ_discrete, dec_lt}
use Rattle.std.proofs.lemmas.List.{map_more, length-map, get_or-map, take_all}
use Rattle.labelled_trees.specs.Trees.{Tree, Row, leaf, node, more, row, inputs, graft, graft_row}
use Rattle.labelled_trees.specs.Leaves.{AllRow, one_if, occurs, occurs_row, sum_leaves, sum_row}
use Rattle.labelled_trees.proofs.Contexts.{node-eq}
use Rattle.labelled_trees.proofs.GraftLeaves.{graft_ext}
use Rattle.labelled_trees.proofs.Leaves.{by_row}
use Rattle.labelled_trees.proofs.Rows.{inputs-row}
use Rattle.shuffle_insertions.specs.ShuffleTrees.{least}
use Rattle.tree_store.specs.Stores.{tree_at}
use Rattle.division.specs.Parts.{part_at, AreHeld, LeastRise}

-- ---- rows of trees of ids

pub row_lists : (ts us : List (Tree ℕ)) → row ts ≡ row us → ts ≡ us
row_lists ts us e = sym (inputs-row ts) ∙ ap inputs e ∙ inputs-row us

pub grafts_of : (f : ℕ → Tree ℕ) (ids : List ℕ) (s : ℕ → Tree ℕ) → graft_row (row (map f ids)) s ≡ row (map (λ i. graft (f i) s) ids)
grafts_of f [] s = refl
grafts_of f (i ∷ ids) s = ap (more (graft (f i) s)) (grafts_of f ids s)

-- two rows, one the graft of the other, as lists
lists_of : (f : ℕ → Tree ℕ) (ids hosts : List ℕ) (l m : ℕ) (s : ℕ → Tree ℕ) → graft (node l (row (map f ids))) s ≡ node m (row (map f hosts)) → (l ≡ m) × (map (λ i. graft (f i) s) ids ≡ map f hosts)
lists_of f ids hosts l m s e =
    let q = node-eq l m (graft_row (row (map f ids)) s) (row (map f hosts)) e in
    (q.0, row_lists (map (λ i. graft (f i) s) ids) (map f hosts) (sym (grafts_of f ids s) ∙ q.1))

sum_row-append : (ts : List (Tree ℕ)) (t : Tree ℕ) (g : ℕ → ℕ) → sum_row (row (ts ++ (t ∷ []))) g ≡ sum_row (row ts) g + sum_leaves t g
sum_row-append [] t g = omega arith
sum_row-append (u ∷ ts) t g = omega (arith, sum_row-append ts t g)

pub sum_taken : (f : ℕ → Tree ℕ) (xs : List ℕ) (at d : ℕ) (g : ℕ → ℕ) → at < length xs → sum_row (row (map f (take (at + 1) xs))) g ≡ sum_row (row (map f (take at xs))) g + sum_leaves (f (get_or xs at d)) g
sum_taken f xs at d g h = ap (λ ys. sum_row (row ys) g) (map_more f xs at d h) ∙ sum_row-append (map f (take at xs)) (f (get_or xs at d)) g

pub sum_taken_le : (f : ℕ → Tree ℕ) (xs : List ℕ) (n : ℕ) (g : ℕ → ℕ) → sum_row (row (map f (take n xs))) g ≤ sum_row (row (map f xs)) g
sum_taken_le f xs zero g = omega arith
sum_taken_le f [] (suc n) g = omega arith
sum_taken_le f (x ∷ xs) (suc n) g = omega (arith, sum_taken_le f xs n g)

-- two functions that agree at the leaves give one list
same_grafts : (f : ℕ → Tree ℕ) (ids : List ℕ) (s u : ℕ → Tree ℕ) → AllRow (row (map f ids)) (λ i. s i ≡ u i) → map (λ i. graft (f i) s) ids ≡ map (λ i. graft (f i) u) ids
same_grafts f [] s u h = refl
same_grafts f (i ∷ ids) s u h = ap₂ (λ t ts. t ∷ ts) (graft_ext (f i) s u h.0) (same_grafts f ids s u h.1)

-- ---- a leaf of the lead

pub at_own : (trees : List (Tree ℕ)) (parts : List ℕ) (number host i : ℕ) (t : Tree ℕ) → t ≡ leaf number → (get_or parts number 0 < length trees) → 0 < occurs i t → get_or parts i 0 < length trees
at_own trees parts number host i t e h o = go (ℕ_discrete number i) (subst (λ x. 0 < occurs i x) e o)
  where
    go : (d : Dec (number ≡ i)) → 0 < one_if d → get_or parts i 0 < length trees
    go (yes same) k = subst (λ j. get_or parts j 0 < length trees) same h
    go (no n) k = absurd (omega arith)

pub not_own : (number i : ℕ) (t : Tree ℕ) → t ≡ leaf number → occurs i t ≡ 0 → i ≢ number
not_own number i t e z = go (ℕ_discrete number i) (ap (occurs i) (sym e) ∙ z)
  where
    go : (d : Dec (number ≡ i)) → one_if d ≡ 0 → i ≢ number
    go (yes same) k = absurd (omega arith)
    go (no n) k = λ q. n (sym q)

-- ---- the inputs so far

-- The inputs before this number were laid.
pub record AreLaid (trees : List (Tree ℕ)) (ids hosts old now : List ℕ) (at : ℕ) : Type 0 where
  pub grafts : map (λ i. graft (tree_at trees i) (part_at trees now)) (take at ids) ≡ map (tree_at trees) (take at hosts)
  pub held : (i : ℕ) → 0 < occurs_row i (row (map (tree_at trees) (take at ids))) → get_or now i 0 < length trees
  pub others : (i : ℕ) → occurs_row i (row (map (tree_at trees) (take at ids))) ≡ 0 → get_or now i 0 ≡ get_or old i 0

pub laid_none : (trees : List (Tree ℕ)) (ids hosts old : List ℕ) → AreLaid trees ids hosts old old 0
laid_none trees ids hosts old = record { grafts = refl; held = λ i o. absurd (omega (arith, o)); others = λ i z. refl }

module _ (trees : List (Tree ℕ)) (ids hosts : List ℕ) (at input host : ℕ) (less : at < length ids) (low : at < length hosts) (input_is : input ≡ get_or ids at input) (host_is : host ≡ get_or hosts at host) where
  -- the leaves of the next input
  next_leaves : (i : ℕ) → occurs_row i (row (map (tree_at trees) (take (at + 1) ids))) ≡ occurs_row i (row (map (tree_at trees) (take at ids))) + occurs i (tree_at trees input)
  next_leaves i =
      let e : occurs i (tree_at trees (get_or ids at input)) ≡ occurs i (tree_at trees input) = ap (λ j. occurs i (tree_at trees j)) (sym input_is) in
      omega (arith, sum_taken (tree_at trees) ids at input (λ n. one_if (ℕ_discrete n i)) less, e)

  pub next_among : (i : ℕ) → occurs i (tree_at trees input) ≤ occurs_row i (row (map (tree_at trees) ids))
  next_among i = omega (arith, next_leaves i, sum_taken_le (tree_at trees) ids (at + 1) (λ n. one_if (ℕ_discrete n i)))

  pub laid_more : (old now new : List ℕ) → ((i : ℕ) → occurs_row i (row (map (tree_at trees) ids)) ≤ 1) → AreLaid trees ids hosts old now at
      → graft (tree_at trees input) (part_at trees new) ≡ tree_at trees host → AreHeld trees new (tree_at trees input) → ((i : ℕ) → occurs i (tree_at trees input) ≡ 0 → get_or new i 0 ≡ get_or now i 0)
      → AreLaid trees ids hosts old new (at + 1)
  laid_more old now new once h laid held others = record {
    grafts =
        map_more (λ i. graft (tree_at trees i) (part_at trees new)) ids at input less
        ∙ ap₂ (λ ts t. ts ++ (t ∷ [])) (same_grafts (tree_at trees) (take at ids) (part_at trees new) (part_at trees now) before ∙ h.grafts)
        (ap (λ i. graft (tree_at trees i) (part_at trees new)) (sym input_is) ∙ laid ∙ ap (tree_at trees) host_is)
        ∙ sym (map_more (tree_at trees) hosts at host low);
    held = λ i o. by i (dec_lt 0 (occurs i (tree_at trees input))) o;
    others = λ i z. others i (omega (arith, next_leaves i, z)) ∙ h.others i (omega (arith, next_leaves i, z));
  }
    where
      apart : (i : ℕ) → 0 < occurs_row i (row (map (tree_at trees) (take at ids))) → occurs i (tree_at trees input) ≡ 0
      apart i o = omega (arith, o, once i, next_leaves i, sum_taken_le (tree_at trees) ids (at + 1) (λ n. one_if (ℕ_discrete n i)))

      before : AllRow (row (map (tree_at trees) (take at ids))) (λ i. part_at trees new i ≡ part_at trees now i)
      before = by_row (row (map (tree_at trees) (take at ids))) (λ i. part_at trees new i ≡ part_at trees now i) (λ i o. ap (tree_at trees) (others i (apart i o)))

      by : (i : ℕ) → Dec (0 < occurs i (tree_at trees input)) → 0 < occurs_row i (row (map (tree_at trees) (take (at + 1) ids))) → get_or new i 0 < length trees
      by i (yes k) o = held i k
      by i (no k) o =
          let z : occurs i (tree_at trees input) ≡ 0 = omega (arith, k) in
          subst (λ j. j < length trees) (sym (others i z)) (h.held i (omega (arith, o, z, next_leaves i)))

  -- where an input can't be laid, the tree can't
  pub not_laid : (l m : ℕ) → ((s : ℕ → Tree ℕ) → graft (tree_at trees input) s ≡ tree_at trees host → ⊥)
      → (s : ℕ → Tree ℕ) → graft (node l (row (map (tree_at trees) ids))) s ≡ node m (row (map (tree_at trees) hosts)) → ⊥
  not_laid l m f s e =
      let q = lists_of (tree_at trees) ids hosts l m s e in
      let a = get_or-map (λ i. graft (tree_at trees i) s) ids at input (leaf 0) less in
      let b = get_or-map (tree_at trees) hosts at host (leaf 0) low in
      f s (ap (λ i. graft (tree_at trees i) s) input_is ∙ sym a ∙ ap (λ ts. get_or ts at (leaf 0)) q.1 ∙ b ∙ ap (tree_at trees) (sym host_is))

-- ---- the whole vertex

pub laid_all : (trees : List (Tree ℕ)) (ids hosts old now : List ℕ) (at l m : ℕ) → l ≡ m → length ids ≡ length hosts → length ids ≤ at → AreLaid trees ids hosts old now at
    → graft (node l (row (map (tree_at trees) ids))) (part_at trees now) ≡ node m (row (map (tree_at trees) hosts))
laid_all trees ids hosts old now at l m e n le h =
    ap₂ node e (grafts_of (tree_at trees) ids (part_at trees now)
    ∙ ap (λ is. row (map (λ i. graft (tree_at trees i) (part_at trees now)) is)) (sym (take_all at ids le)) ∙ ap row h.grafts
    ∙ ap (λ is. row (map (tree_at trees) is)) (take_all at hosts (omega (arith, n, le))))

pub other_label : (f : ℕ → Tree ℕ) (ids hosts : List ℕ) (l m : ℕ) → l ≢ m → (s : ℕ → Tree ℕ) → graft (node l (row (map f ids))) s ≡ node m (row (map f hosts)) → ⊥
other_label f ids hosts l m n s e = n (lists_of f ids hosts l m s e).0

pub other_width : (f : ℕ → Tree ℕ) (ids hosts : List ℕ) (l m : ℕ) → length ids ≢ length hosts → (s : ℕ → Tree ℕ) → graft (node l (row (map f ids))) s ≡ node m (row (map f hosts)) → ⊥
other_width f ids hosts l m n s e =
    let q = lists_of f ids hosts l m s e in
    let a = length-map ids (λ i. graft (f i) s) in
    let b = length-map hosts f in
    n (sym a ∙ ap length q.1 ∙ b)

pub host_leaf : (r : Row ℕ) (l i : ℕ) (s : ℕ → Tree ℕ) → graft (node l r) s ≡ leaf i → ⊥
host_leaf r l i s e = cc e

-- ---- rising least leaves

-- The least leaves of the parts before this number rise, and the last of them is this.
pub record RiseBelow (trees : List (Tree ℕ)) (parts : List ℕ) (at last : ℕ) : Type 0 where
  pub rise : (i j : ℕ) → 0 < i → i < j → j < at → least (part_at trees parts i) < least (part_at trees parts j)
  pub last_is : (i : ℕ) → i + 1 ≡ at → last ≡ least (part_at trees parts i)
  pub greatest : (i : ℕ) → 0 < i → i < at → least (part_at trees parts i) ≤ last

pub rise_first : (trees : List (Tree ℕ)) (parts : List ℕ) (last : ℕ) → last ≡ least (part_at trees parts 1) → RiseBelow trees parts 2 last
rise_first trees parts last e = record {
  rise = λ i j p lt le. absurd (omega (arith, p, lt, le));
  last_is = λ i q. let one : i ≡ 1 = omega arith in e ∙ ap (λ k. least (part_at trees parts k)) (sym one);
  greatest = λ i p lt. let one : i ≡ 1 = omega arith in let s : last ≡ least (part_at trees parts i) = e ∙ ap (λ k. least (part_at trees parts k)) (sym one) in omega (arith, s);
}

pub rise_more : (trees : List (Tree ℕ)) (parts : List ℕ) (at last next : ℕ) → RiseBelow trees parts at last → next ≡ least (part_at trees parts at) → last < next → RiseBelow trees parts (at + 1) next
rise_more trees parts at last next h e lt = record {
  rise = λ i j p l le. last_one i j p l le (dec_lt j at);
  last_is = λ i q. let same : i ≡ at = omega arith in e ∙ ap (λ k. least (part_at trees parts k)) (sym same);
  greatest = λ i p l. at_most i p l (dec_lt i at);
}
  where
    last_one : (i j : ℕ) → 0 < i → i < j → j < at + 1 → Dec (j < at) → least (part_at trees parts i) < least (part_at trees parts j)
    last_one i j p l le (yes k) = h.rise i j p l k
    last_one i j p l le (no k) =
        let same : j ≡ at = omega (arith, le, k) in
        let s : next ≡ least (part_at trees parts j) = e ∙ ap (λ m. least (part_at trees parts m)) (sym same) in
        let g = h.greatest i p (omega (arith, l, same)) in omega (arith, s, g, lt)

    at_most : (i : ℕ) → 0 < i → i < at + 1 → Dec (i < at) → least (part_at trees parts i) ≤ next
    at_most i p l (yes k) = let g = h.greatest i p k in omega (arith, g, lt)
    at_most i p l (no k) =
        let same : i ≡ at = omega (arith, l, k) in
        let s : next ≡ least (part_at trees parts i) = e ∙ ap (λ m. least (part_at trees parts m)) (sym same) in omega (arith, s)

-- an entry of a list, whatever stands for none
pub get_or_any : (xs : List ℕ) (i d e : ℕ) → i < length xs → get_or xs i d ≡ get_or xs i e
get_or_any [] i d e h = absurd (omega arith)
get_or_any (x ∷ xs) zero d e h = refl
get_or_any (x ∷ xs) (suc i) d e h = get_or_any xs i d e (omega arith)

-- a part that was read
pub part_read : (trees : List (Tree ℕ)) (parts : List ℕ) (at p : ℕ) → at < length parts → p ≡ get_or parts at p → tree_at trees p ≡ part_at trees parts at
part_read trees parts at p h e = ap (tree_at trees) (e ∙ get_or_any parts at p 0 h)

-- where the last two don't rise, the parts don't
pub no_rise : (trees : List (Tree ℕ)) (parts : List ℕ) (arity at last next : ℕ) → RiseBelow trees parts at last → next ≡ least (part_at trees parts at) → next ≤ last → 2 ≤ at → at ≤ arity → LeastRise trees parts arity → ⊥
no_rise trees parts arity at last next h e le two most r =
    let a = h.last_is (at - 1) (omega (arith, two)) in
    let b = r (at - 1) at (omega (arith, two)) (omega (arith, two)) most in
    omega (arith, a, b, e, le)
