-- The shuffle form of a graft whose parts rise is the graft of the shuffle forms.
use Rattle.std.proofs.lemmas.Simd.{map-map}
use Rattle.std.proofs.Common.{◌≡◌, ℕ, suc, ◌+◌, ◌<◌, List, [], ◌∷◌, map, length, refl, sym, ◌∙◌, ap, arith}
use mathlib.Core.Path.{ap₂}
use Rattle.std.specs.List.{AllByRecursion}
use Rattle.labelled_trees.specs.Trees.{Tree, Row, leaf, node, none, more, row, graft, graft_row, width}
use Rattle.labelled_trees.specs.Leaves.{sum_leaves, sum_row, AllLeaves, AllRow}
use Rattle.labelled_trees.specs.Labelled.{Fits, FitsRow}
use Rattle.shuffle_insertions.specs.ShuffleTrees.{least}
use Rattle.operad_ideals.specs.Sorting.{sort_by}
use Rattle.operad_ideals.proofs.SortedLists.{every_sort_by, length-sort_by, map-sort_by}
use Rattle.operad_ideals.proofs.SameOrder.{sort_by-order}
use Rattle.shuffle_transfer.specs.ShuffleForms.{ranks, form, form_row}
use Rattle.shuffle_transfer.proofs.Ranks.{ranks-order}
use Rattle.labelled_trees.proofs.Grafts.{graft_row-row}

-- how often skew inputs change places, summed over the vertices; `twist g w` counts it for a generator with a word
module _ (label twist : ℕ → List ℕ → ℕ) where
  abbrev mutual
    pub turns : Tree ℕ → ℕ
    turns (leaf n) = 0
    turns (node g r) = twist g (ranks (map least (form_row label r))) + turns_row r

    pub turns_row : Row ℕ → ℕ
    turns_row none = 0
    turns_row (more t r) = turns t + turns_row r

pub length-form_row : (label : ℕ → List ℕ → ℕ) (r : Row ℕ) → length (form_row label r) ≡ width r
length-form_row label none = refl
length-form_row label (more t r) = ap suc (length-form_row label r)

-- the parts s keep the order of the leaves of which P holds
module _ (arity : ℕ → ℕ) (label : ℕ → List ℕ → ℕ) (P : ℕ → Type 0) (s : ℕ → Tree ℕ)
    (up : (i j : ℕ) → P i → P j → i < j → least (form label (s i)) < least (form label (s j)))
    (down : (i j : ℕ) → P i → P j → least (form label (s i)) < least (form label (s j)) → i < j) where
  abbrev parts : ℕ → Tree ℕ
  parts i = form label (s i)

  abbrev grafted : Tree ℕ → Tree ℕ
  grafted x = graft x parts

  -- the least leaf of the graft comes from the least leaf
  record Keeps (x : Tree ℕ) : Type 0 where
    least_is : least (grafted x) ≡ least (parts (least x))
    at : P (least x)

  fore : (x y : Tree ℕ) → Keeps x → Keeps y → least x < least y → least (grafted x) < least (grafted y)
  fore x y a b l = rw (a.least_is, b.least_is) (up (least x) (least y) a.at b.at l)

  back : (x y : Tree ℕ) → Keeps x → Keeps y → least (grafted x) < least (grafted y) → least x < least y
  back x y a b l = down (least x) (least y) a.at b.at (rw (a.least_is, b.least_is) at l)

  kept_first : (l : ℕ) (ts : List (Tree ℕ)) → 0 < length ts → AllByRecursion Keeps ts → Keeps (node l (row ts))
  kept_first l [] m h = absurd (omega (arith, m))
  kept_first l (t ∷ ts) m h = record { least_is = h.0.least_is; at = h.0.at }

  mutual
    kept : (t : Tree ℕ) → Fits arity t → AllLeaves t P → Keeps (form label t)
    kept (leaf n) f h = record { least_is = refl; at = h }
    kept (node g r) f h = kept_first (label g (ranks (map least (form_row label r)))) (sort_by least (form_row label r))
        (let e = length-sort_by least (form_row label r) in omega (arith, e, length-form_row label r, f.0, f.1))
        (every_sort_by least Keeps (form_row label r) (kept_row r f.2 h))

    kept_row : (r : Row ℕ) → FitsRow arity r → AllRow r P → AllByRecursion Keeps (form_row label r)
    kept_row none f h = tt
    kept_row (more t r) f h = (kept t f.0 h.0, kept_row r f.1 h.1)

  ranks-grafted : (ts : List (Tree ℕ)) → AllByRecursion Keeps ts → ranks (map least (map grafted ts)) ≡ ranks (map least ts)
  ranks-grafted ts h = ap ranks (map-map least grafted ts) ∙ sym (ranks-order Keeps least (λ x. least (grafted x)) fore back ts h)

  sorted-grafted : (ts : List (Tree ℕ)) → AllByRecursion Keeps ts → row (sort_by least (map grafted ts)) ≡ graft_row (row (sort_by least ts)) parts
  sorted-grafted ts h =
      ap row (sym (map-sort_by grafted (λ x. least (grafted x)) least (λ x. refl) ts) ∙ ap (map grafted) (sym (sort_by-order Keeps least (λ x. least (grafted x)) fore back ts h)))
      ∙ sym (graft_row-row (sort_by least ts) parts)

  mutual
    pub form-graft : (t : Tree ℕ) → Fits arity t → AllLeaves t P → form label (graft t s) ≡ graft (form label t) parts
    form-graft (leaf n) f h = refl
    form-graft (node g r) f h =
        let k = kept_row r f.2 h in
        ap (λ ts. node (label g (ranks (map least ts))) (row (sort_by least ts))) (form_row-graft r f.2 h)
        ∙ ap₂ (λ w q. node (label g w) q) (ranks-grafted (form_row label r) k) (sorted-grafted (form_row label r) k)

    form_row-graft : (r : Row ℕ) → FitsRow arity r → AllRow r P → form_row label (graft_row r s) ≡ map grafted (form_row label r)
    form_row-graft none f h = refl
    form_row-graft (more t r) f h = ap₂ (λ x xs. x ∷ xs) (form-graft t f.0 h.0) (form_row-graft r f.1 h.1)

  module _ (twist : ℕ → List ℕ → ℕ) where
    mutual
      -- the turns of a graft are those of the tree and those of the parts
      pub turns-graft : (t : Tree ℕ) → Fits arity t → AllLeaves t P → turns label twist (graft t s) ≡ turns label twist t + sum_leaves t (λ i. turns label twist (s i))
      turns-graft (leaf n) f h = omega arith
      turns-graft (node g r) f h =
          let k = kept_row r f.2 h in
          let e : ranks (map least (form_row label (graft_row r s))) ≡ ranks (map least (form_row label r))
          = ap (λ ts. ranks (map least ts)) (form_row-graft r f.2 h) ∙ ranks-grafted (form_row label r) k in
          let i : turns_row label twist (graft_row r s) ≡ turns_row label twist r + sum_row r (λ i. turns label twist (s i)) = turns_row-graft r f.2 h in
          rw (e, i) (omega arith)

      turns_row-graft : (r : Row ℕ) → FitsRow arity r → AllRow r P → turns_row label twist (graft_row r s) ≡ turns_row label twist r + sum_row r (λ i. turns label twist (s i))
      turns_row-graft none f h = omega arith
      turns_row-graft (more t r) f h = omega (arith, turns-graft t f.0 h.0, turns_row-graft r f.1 h.1)
