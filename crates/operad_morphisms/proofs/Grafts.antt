-- Trees with a sum on each leaf: a choice of a term at each leaf. Composition chooses a term for each input; where each input
-- belongs to one leaf, the two are the same sum.
use Rattle.std.proofs.Common.{◌≡◌, ◌≢◌, ℕ, zero, suc, ◌+◌, ◌-◌, ◌<◌, ◌≤◌, List, [], ◌∷◌, length, refl, sym, ap, ◌∙◌, arith}
use native.Mathlib.Decide.{ℕ_discrete, dec_lt}
use Rattle.modular_sums.specs.Sums.{moved}
use Rattle.modular_sums.proofs.Replacements.{sum_over, sum_over_ext, sum_over_swap}
use Rattle.labelled_trees.specs.Trees.{Tree, Row, leaf, node, none, more, graft, graft_row}
use Rattle.labelled_trees.specs.Leaves.{occurs, occurs_row, AllLeaves, AllRow}
use Rattle.labelled_trees.specs.Insertions.{item}
use Rattle.labelled_trees.specs.Labelled.{IsNumbered}
use Rattle.labelled_trees.proofs.Leaves.{holds_if_one, by_leaf, by_row}
use Rattle.operad_morphisms.specs.Compositions.{product, choices}
use Rattle.modular_sums.proofs.Counted.{CountAlike, count-one, count-moved}
use Rattle.operad_morphisms.proofs.Products.{count-product}
use Rattle.modular_sums.specs.Lists.{choose}
use Rattle.modular_sums.proofs.Choices.{choose-yes, choose-no}

abbrev pub Sum : Type 0
Sum = List (ℕ × Tree ℕ)

-- one term for each choice of a term of the sum at each leaf
abbrev mutual
  pub grafts : Tree ℕ → (ℕ → List (ℕ × Tree ℕ)) → List (ℕ × Tree ℕ)
  grafts (leaf i) s = s i
  grafts (node g r) s = moved (node g) (grafts_row r s)

  pub grafts_row : Row ℕ → (ℕ → List (ℕ × Tree ℕ)) → List (ℕ × Row ℕ)
  grafts_row none s = (1, none) ∷ []
  grafts_row (more t r) s = product more (grafts t s) (grafts_row r s)

-- sums at the leaves that count alike
mutual
  pub grafts_eq : (t : Tree ℕ) (s u : ℕ → Sum) → AllLeaves t (λ i. CountAlike (s i) (u i)) → CountAlike (grafts t s) (grafts t u)
  grafts_eq (leaf i) s u a h = a h
  grafts_eq (node g r) s u a h = count-moved (node g) (grafts_row r s) h ∙ grafts_row_eq r s u a (λ x. h (node g x)) ∙ sym (count-moved (node g) (grafts_row r u) h)

  grafts_row_eq : (r : Row ℕ) (s u : ℕ → Sum) → AllRow r (λ i. CountAlike (s i) (u i)) → CountAlike (grafts_row r s) (grafts_row r u)
  grafts_row_eq none s u a h = refl
  grafts_row_eq (more t r) s u a h =
      count-product more (grafts t s) (grafts_row r s) h
      ∙ grafts_eq t s u a.0 (λ x. sum_over (grafts_row r s) (λ y. h (more x y)))
      ∙ sum_over_ext (grafts t u) (λ x. sum_over (grafts_row r s) (λ y. h (more x y))) (λ x. sum_over (grafts_row r u) (λ y. h (more x y))) (λ x. grafts_row_eq r s u a.1 (λ y. h (more x y)))
      ∙ sym (count-product more (grafts t u) (grafts_row r u) h)

-- one tree at each leaf
mutual
  pub grafts_one : (t : Tree ℕ) (s : ℕ → Sum) (u : ℕ → Tree ℕ) → ((i : ℕ) → CountAlike (s i) ((1, u i) ∷ [])) → CountAlike (grafts t s) ((1, graft t u) ∷ [])
  grafts_one (leaf i) s u a h = a i h
  grafts_one (node g r) s u a h = count-moved (node g) (grafts_row r s) h ∙ grafts_row_one r s u a (λ x. h (node g x))

  grafts_row_one : (r : Row ℕ) (s : ℕ → Sum) (u : ℕ → Tree ℕ) → ((i : ℕ) → CountAlike (s i) ((1, u i) ∷ [])) → CountAlike (grafts_row r s) ((1, graft_row r u) ∷ [])
  grafts_row_one none s u a h = refl
  grafts_row_one (more t r) s u a h =
      count-product more (grafts t s) (grafts_row r s) h
      ∙ grafts_one t s u a (λ x. sum_over (grafts_row r s) (λ y. h (more x y)))
      ∙ count-one (graft t u) (λ x. sum_over (grafts_row r s) (λ y. h (more x y)))
      ∙ grafts_row_one r s u a (λ y. h (more (graft t u) y))

-- choices at the leaves, and then at the leaves of what was chosen
mutual
  pub grafts_twice : (t : Tree ℕ) (whole first second : ℕ → Sum) → AllLeaves t (λ i. (h : Tree ℕ → ℕ) → sum_over (whole i) h ≡ sum_over (first i) (λ y. sum_over (grafts y second) h))
      → (h : Tree ℕ → ℕ) → sum_over (grafts t whole) h ≡ sum_over (grafts t first) (λ y. sum_over (grafts y second) h)
  grafts_twice (leaf i) whole first second a h = a h
  grafts_twice (node g r) whole first second a h =
      count-moved (node g) (grafts_row r whole) h
      ∙ grafts_row_twice r whole first second a (λ x. h (node g x))
      ∙ sum_over_ext (grafts_row r first) (λ y. sum_over (grafts_row y second) (λ x. h (node g x))) (λ y. sum_over (grafts (node g y) second) h) (λ y. sym (count-moved (node g) (grafts_row y second) h))
      ∙ sym (count-moved (node g) (grafts_row r first) (λ y. sum_over (grafts y second) h))

  grafts_row_twice : (r : Row ℕ) (whole first second : ℕ → Sum) → AllRow r (λ i. (h : Tree ℕ → ℕ) → sum_over (whole i) h ≡ sum_over (first i) (λ y. sum_over (grafts y second) h))
      → (h : Row ℕ → ℕ) → sum_over (grafts_row r whole) h ≡ sum_over (grafts_row r first) (λ y. sum_over (grafts_row y second) h)
  grafts_row_twice none whole first second a h = sym (count-one none (λ y. sum_over (grafts_row y second) h))
  grafts_row_twice (more t r) whole first second a h =
      count-product more (grafts t whole) (grafts_row r whole) h
      ∙ grafts_twice t whole first second a.0 (λ x. sum_over (grafts_row r whole) (λ y. h (more x y)))
      ∙ sum_over_ext (grafts t first) (λ u. sum_over (grafts u second) (λ x. sum_over (grafts_row r whole) (λ y. h (more x y)))) (λ u. sum_over (grafts_row r first) (λ v. sum_over (grafts_row (more u v) second) h)) (both (λ k. grafts_row_twice r whole first second a.1 k))
      ∙ sym (count-product more (grafts t first) (grafts_row r first) (λ y. sum_over (grafts_row y second) h))
    where
      both : ((k : Row ℕ → ℕ) → sum_over (grafts_row r whole) k ≡ sum_over (grafts_row r first) (λ v. sum_over (grafts_row v second) k))
          → (u : Tree ℕ) → sum_over (grafts u second) (λ x. sum_over (grafts_row r whole) (λ y. h (more x y))) ≡ sum_over (grafts_row r first) (λ v. sum_over (grafts_row (more u v) second) h)
      both ih u =
          sum_over_ext (grafts u second) (λ x. sum_over (grafts_row r whole) (λ y. h (more x y))) (λ x. sum_over (grafts_row r first) (λ v. sum_over (grafts_row v second) (λ y. h (more x y))))
          (λ x. ih (λ y. h (more x y)))
          ∙ sum_over_swap (grafts u second) (grafts_row r first) (λ x v. sum_over (grafts_row v second) (λ y. h (more x y)))
          ∙ sum_over_ext (grafts_row r first) (λ v. sum_over (grafts u second) (λ x. sum_over (grafts_row v second) (λ y. h (more x y)))) (λ v. sum_over (grafts_row (more u v) second) h)
          (λ v. sym (count-product more (grafts u second) (grafts_row v second) h))

-- ---- one leaf

-- s with v for i
abbrev pub instead : {X : Type 0} → (ℕ → X) → ℕ → X → ℕ → X
instead s i v j = choose (ℕ_discrete j i) v (s j)

pub instead_same : {X : Type 0} (s : ℕ → X) (i : ℕ) (v : X) → instead s i v i ≡ v
instead_same s i v = choose-yes (ℕ_discrete i i) v (s i) refl

pub instead_other : {X : Type 0} (s : ℕ → X) (i : ℕ) (v : X) (j : ℕ) → j ≢ i → instead s i v j ≡ s j
instead_other s i v j f = choose-no (ℕ_discrete j i) v (s j) f

absent : (i : ℕ) (s : ℕ → Sum) (v : Sum) (j : ℕ) → j ≢ i → CountAlike (s j) (instead s i v j)
absent i s v j f h = ap (λ e. sum_over e h) (sym (instead_other s i v j f))

grafts_absent : (i : ℕ) (t : Tree ℕ) (s : ℕ → Sum) (v : Sum) → occurs i t ≡ 0 → CountAlike (grafts t s) (grafts t (instead s i v))
grafts_absent i t s v z = grafts_eq t s (instead s i v) (by_leaf t (λ j. CountAlike (s j) (instead s i v j)) (λ j o. absent i s v j (λ e. let k : occurs j t ≡ 0 = ap (λ m. occurs m t) e ∙ z in omega (arith, k, o))))

grafts_row_absent : (i : ℕ) (r : Row ℕ) (s : ℕ → Sum) (v : Sum) → occurs_row i r ≡ 0 → CountAlike (grafts_row r s) (grafts_row r (instead s i v))
grafts_row_absent i r s v z = grafts_row_eq r s (instead s i v) (by_row r (λ j. CountAlike (s j) (instead s i v j)) (λ j o. absent i s v j (λ e. let k : occurs_row j r ≡ 0 = ap (λ m. occurs_row m r) e ∙ z in omega (arith, k, o))))

leaf_at : (i n : ℕ) (s : ℕ → Sum) (h : Tree ℕ → ℕ) → n ≡ i → sum_over (s n) h ≡ sum_over (s i) (λ u. sum_over (instead s i ((1, u) ∷ []) n) h)
leaf_at i n s h e =
    ap (λ m. sum_over (s m) h) e
    ∙ sum_over_ext (s i) h (λ u. sum_over (instead s i ((1, u) ∷ []) n) h) (λ u. sym (ap (λ d. sum_over d h) (choose-yes (ℕ_discrete n i) ((1, u) ∷ []) (s n) e) ∙ count-one u h))

more_at : (i : ℕ) (t : Tree ℕ) (r : Row ℕ) (s : ℕ → Sum) → Dec (0 < occurs i t) → occurs i t + occurs_row i r ≡ 1
    → (occurs i t ≡ 1 → (k : Tree ℕ → ℕ) → sum_over (grafts t s) k ≡ sum_over (s i) (λ u. sum_over (grafts t (instead s i ((1, u) ∷ []))) k))
    → (occurs_row i r ≡ 1 → (k : Row ℕ → ℕ) → sum_over (grafts_row r s) k ≡ sum_over (s i) (λ u. sum_over (grafts_row r (instead s i ((1, u) ∷ []))) k))
    → (h : Row ℕ → ℕ) → sum_over (grafts_row (more t r) s) h ≡ sum_over (s i) (λ u. sum_over (grafts_row (more t r) (instead s i ((1, u) ∷ []))) h)
more_at i t r s (yes o) e f g h =
    let none_there : occurs_row i r ≡ 0 = omega (arith, e, o) in
    count-product more (grafts t s) (grafts_row r s) h
    ∙ f (omega (arith, e, o)) (λ x. sum_over (grafts_row r s) (λ y. h (more x y)))
    ∙ sum_over_ext (s i) (λ u. sum_over (grafts t (instead s i ((1, u) ∷ []))) (λ x. sum_over (grafts_row r s) (λ y. h (more x y)))) (λ u. sum_over (grafts_row (more t r) (instead s i ((1, u) ∷ []))) h)
    (λ u.
    sum_over_ext (grafts t (instead s i ((1, u) ∷ []))) (λ x. sum_over (grafts_row r s) (λ y. h (more x y))) (λ x. sum_over (grafts_row r (instead s i ((1, u) ∷ []))) (λ y. h (more x y)))
    (λ x. grafts_row_absent i r s ((1, u) ∷ []) none_there (λ y. h (more x y)))
    ∙ sym (count-product more (grafts t (instead s i ((1, u) ∷ []))) (grafts_row r (instead s i ((1, u) ∷ []))) h))
more_at i t r s (no z) e f g h =
    let none_here : occurs i t ≡ 0 = omega (arith, z) in
    count-product more (grafts t s) (grafts_row r s) h
    ∙ sum_over_ext (grafts t s) (λ x. sum_over (grafts_row r s) (λ y. h (more x y))) (λ x. sum_over (s i) (λ u. sum_over (grafts_row r (instead s i ((1, u) ∷ []))) (λ y. h (more x y))))
    (λ x. g (omega (arith, e, z)) (λ y. h (more x y)))
    ∙ sum_over_swap (grafts t s) (s i) (λ x u. sum_over (grafts_row r (instead s i ((1, u) ∷ []))) (λ y. h (more x y)))
    ∙ sum_over_ext (s i) (λ u. sum_over (grafts t s) (λ x. sum_over (grafts_row r (instead s i ((1, u) ∷ []))) (λ y. h (more x y)))) (λ u. sum_over (grafts_row (more t r) (instead s i ((1, u) ∷ []))) h)
    (λ u.
    grafts_absent i t s ((1, u) ∷ []) none_here (λ x. sum_over (grafts_row r (instead s i ((1, u) ∷ []))) (λ y. h (more x y)))
    ∙ sym (count-product more (grafts t (instead s i ((1, u) ∷ []))) (grafts_row r (instead s i ((1, u) ∷ []))) h))

-- where a number stands at one leaf, the choice for that leaf may be made first
mutual
  pub grafts_at : (i : ℕ) (t : Tree ℕ) (s : ℕ → Sum) → occurs i t ≡ 1 → (h : Tree ℕ → ℕ) → sum_over (grafts t s) h ≡ sum_over (s i) (λ u. sum_over (grafts t (instead s i ((1, u) ∷ []))) h)
  grafts_at i (leaf n) s o h = leaf_at i n s h (holds_if_one (ℕ_discrete n i) (omega (arith, o)))
  grafts_at i (node g r) s o h =
      count-moved (node g) (grafts_row r s) h
      ∙ grafts_row_at i r s o (λ x. h (node g x))
      ∙ sum_over_ext (s i) (λ u. sum_over (grafts_row r (instead s i ((1, u) ∷ []))) (λ x. h (node g x))) (λ u. sum_over (grafts (node g r) (instead s i ((1, u) ∷ []))) h)
      (λ u. sym (count-moved (node g) (grafts_row r (instead s i ((1, u) ∷ []))) h))

  grafts_row_at : (i : ℕ) (r : Row ℕ) (s : ℕ → Sum) → occurs_row i r ≡ 1 → (h : Row ℕ → ℕ) → sum_over (grafts_row r s) h ≡ sum_over (s i) (λ u. sum_over (grafts_row r (instead s i ((1, u) ∷ []))) h)
  grafts_row_at i none s o h = absurd (omega (arith, o))
  grafts_row_at i (more t r) s o h = more_at i t r s (dec_lt 0 (occurs i t)) o (λ a k. grafts_at i t s a k) (λ a k. grafts_row_at i r s a k) h

-- ---- each leaf in turn

-- the i-th sum of a list, counted from 1; leaf 0 where there is none
abbrev pub items : List (List (ℕ × Tree ℕ)) → ℕ → List (ℕ × Tree ℕ)
items [] i = (1, leaf 0) ∷ []
items (e ∷ es) zero = (1, leaf 0) ∷ []
items (e ∷ es) (suc zero) = e
items (e ∷ es) (suc (suc i)) = items es (suc i)

items_zero : (es : List Sum) → items es 0 ≡ (1, leaf 0) ∷ []
items_zero [] = refl
items_zero (e ∷ es) = refl

item_zero : (ts : List (Tree ℕ)) → item ts 0 ≡ leaf 0
item_zero [] = refl
item_zero (t ∷ ts) = refl

-- the leaves up to a have their trees, and the leaves after them stand for the sums of a list
record Assigned (a : ℕ) (es : List Sum) (s : ℕ → Sum) (u : List (Tree ℕ) → ℕ → Tree ℕ) : Type 0 where
  low : (i : ℕ) → i ≤ a → (ts : List (Tree ℕ)) → CountAlike (s i) ((1, u ts i) ∷ [])
  high : (j : ℕ) → s (suc (a + j)) ≡ items es (suc j)
  tree : (ts : List (Tree ℕ)) (j : ℕ) → u ts (suc (a + j)) ≡ item ts (suc j)

assigned_all : (a : ℕ) (s : ℕ → Sum) (u : List (Tree ℕ) → ℕ → Tree ℕ) → Assigned a [] s u → (i : ℕ) → Dec (a < i) → CountAlike (s i) ((1, u [] i) ∷ [])
assigned_all a s u k i (yes l) h =
    let e : suc (a + (i - suc a)) ≡ i = omega (arith, l) in
    ap (λ d. sum_over d h) (sym (ap s e) ∙ k.high (i - suc a)) ∙ ap (λ x. sum_over ((1, x) ∷ []) h) (sym (k.tree [] (i - suc a)) ∙ ap (u []) e)
assigned_all a s u k i (no f) h = k.low i (omega (arith, f)) [] h

assigned_low : (a : ℕ) (e : Sum) (es : List Sum) (s : ℕ → Sum) (u : List (Tree ℕ) → ℕ → Tree ℕ) → Assigned a (e ∷ es) s u → (v : Tree ℕ) (i : ℕ) → i ≤ suc a → (ts : List (Tree ℕ)) (d : Dec (i ≡ suc a))
    → CountAlike (choose d ((1, v) ∷ []) (s i)) ((1, u (v ∷ ts) i) ∷ [])
assigned_low a e es s u k v i l ts (yes p) h =
    let z : suc (a + 0) ≡ i = omega (arith, p) in
    ap (λ x. sum_over ((1, x) ∷ []) h) (sym (k.tree (v ∷ ts) 0) ∙ ap (u (v ∷ ts)) z)
assigned_low a e es s u k v i l ts (no f) h = k.low i (omega (arith, l, f)) (v ∷ ts) h

assigned_next : (a : ℕ) (e : Sum) (es : List Sum) (s : ℕ → Sum) (u : List (Tree ℕ) → ℕ → Tree ℕ) → Assigned a (e ∷ es) s u → (v : Tree ℕ) → Assigned (suc a) es (instead s (suc a) ((1, v) ∷ [])) (λ ts. u (v ∷ ts))
assigned_next a e es s u k v = record {
  low = λ i l ts. assigned_low a e es s u k v i l ts (ℕ_discrete i (suc a));
  high = λ j. let p : suc (suc a + j) ≡ suc (a + suc j) = omega arith in
      instead_other s (suc a) ((1, v) ∷ []) (suc (suc a + j)) (λ c. omega (arith, c)) ∙ ap s p ∙ k.high (suc j);
  tree = λ ts j. let p : suc (suc a + j) ≡ suc (a + suc j) = omega arith in ap (u (v ∷ ts)) p ∙ k.tree (v ∷ ts) (suc j);
}

chosen : (x : Tree ℕ) (a : ℕ) (es : List Sum) (s : ℕ → Sum) (u : List (Tree ℕ) → ℕ → Tree ℕ) → Assigned a es s u → ((j : ℕ) → j < length es → occurs (suc (a + j)) x ≡ 1)
    → (h : Tree ℕ → ℕ) → sum_over (choices es) (λ ts. h (graft x (u ts))) ≡ sum_over (grafts x s) h
chosen x a [] s u k once h =
    count-one [] (λ ts. h (graft x (u ts)))
    ∙ sym (grafts_one x s (u []) (λ i. assigned_all a s u k i (dec_lt a i)) h ∙ count-one (graft x (u [])) h)
chosen x a (e ∷ es) s u k once h =
    let z : suc (a + 0) ≡ suc a = omega arith in
    let here : s (suc a) ≡ e = sym (ap s z) ∙ k.high 0 in
    let there : occurs (suc a) x ≡ 1 = ap (λ i. occurs i x) (sym z) ∙ once 0 (omega arith) in
    count-product (λ v vs. v ∷ vs) e (choices es) (λ ts. h (graft x (u ts)))
    ∙ sum_over_ext e (λ v. sum_over (choices es) (λ vs. h (graft x (u (v ∷ vs))))) (λ v. sum_over (grafts x (instead s (suc a) ((1, v) ∷ []))) h)
    (λ v. chosen x (suc a) es (instead s (suc a) ((1, v) ∷ [])) (λ vs. u (v ∷ vs)) (assigned_next a e es s u k v)
    (λ j l. let p : suc (suc a + j) ≡ suc (a + suc j) = omega arith in ap (λ i. occurs i x) p ∙ once (suc j) (omega (arith, l))) h)
    ∙ ap (λ d. sum_over d (λ v. sum_over (grafts x (instead s (suc a) ((1, v) ∷ []))) h)) (sym here)
    ∙ sym (grafts_at (suc a) x s there h)

assigned_first : (es : List Sum) → Assigned 0 es (items es) item
assigned_first es = record {
  low = λ i l ts h. let z : i ≡ 0 = omega (arith, l) in
      ap (λ d. sum_over d h) (ap (items es) z ∙ items_zero es) ∙ ap (λ x. sum_over ((1, x) ∷ []) h) (sym (ap (item ts) z ∙ item_zero ts));
  high = λ j. let p : suc (0 + j) ≡ suc j = omega arith in ap (items es) p;
  tree = λ ts j. let p : suc (0 + j) ≡ suc j = omega arith in ap (item ts) p;
}

-- a tree numbered by 1 to the number of sums, with a choice for each sum, is that tree with a choice at each leaf
pub choices-grafts : (x : Tree ℕ) (es : List (List (ℕ × Tree ℕ))) → IsNumbered (length es) x → (h : Tree ℕ → ℕ) → sum_over (choices es) (λ ts. h (graft x (item ts))) ≡ sum_over (grafts x (items es)) h
choices-grafts x es n h = chosen x 0 es (items es) item (assigned_first es) (λ j l. let p : suc (0 + j) ≡ suc j = omega arith in ap (λ i. occurs i x) p ∙ n.each (suc j) (omega arith) (omega (arith, l))) h
