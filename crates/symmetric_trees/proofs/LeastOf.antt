-- The least of some numbers, and the least leaf of a vertex.
use Rattle.std.proofs.Common.{◌≡◌, ℕ, ◌<◌, ◌≤◌, List, [], ◌∷◌, ◌++◌, length, map, min, refl, ap, sym, ◌∙◌, subst, arith}
use Rattle.std.specs.List.{AllByRecursion}
use Rattle.labelled_trees.specs.Trees.{Tree, row}
use Rattle.operad_ideals.specs.Spelling.{least_leaf, least_leaf_row}

-- the least of a number and those of a list
abbrev pub least_from : ℕ → List ℕ → ℕ
least_from m [] = m
least_from m (k ∷ ks) = least_from (min m k) ks

pub least_from-push : (m : ℕ) (ks : List ℕ) (k : ℕ) → least_from m (ks ++ k ∷ []) ≡ min (least_from m ks) k
least_from-push m [] k = refl
least_from-push m (x ∷ ks) k = least_from-push (min m x) ks k

least_from-min : (m n : ℕ) (ks : List ℕ) → least_from (min m n) ks ≡ min m (least_from n ks)
least_from-min m n [] = refl
least_from-min m n (k ∷ ks) = let e : min (min m n) k ≡ min m (min n k) = omega arith in ap (λ x. least_from x ks) e ∙ least_from-min m (min n k) ks

least_from-≤ : (m : ℕ) (ks : List ℕ) → least_from m ks ≤ m
least_from-≤ m [] = omega arith
least_from-≤ m (k ∷ ks) = omega (arith, least_from-≤ (min m k) ks)

pub least_from-low : (m : ℕ) (ks : List ℕ) (n : ℕ) → n ≡ least_from m ks → n ≤ m
least_from-low m ks n e = omega (arith, e, least_from-≤ m ks)

-- the least leaf of a row of inputs
pub least_leaf_row-least : (t : Tree ℕ) (ts : List (Tree ℕ)) → least_leaf_row (row (t ∷ ts)) ≡ least_from (least_leaf t) (map least_leaf ts)
least_leaf_row-least t [] = refl
least_leaf_row-least t (u ∷ ts) = ap (min (least_leaf t)) (least_leaf_row-least u ts) ∙ sym (least_from-min (least_leaf t) (least_leaf u) (map least_leaf ts))

-- with a bound in front, the least of the keys of inputs is the least leaf of their row
pub least_from-bound : (m : ℕ) (ks : List ℕ) (ts : List (Tree ℕ)) → ks ≡ map least_leaf ts → AllByRecursion (λ k. k ≤ m) ks → 0 < length ts → least_from m ks ≡ least_leaf_row (row ts)
least_from-bound m ks [] e low l = absurd (omega arith)
least_from-bound m ks (t ∷ ts) e low l =
    let first : least_leaf t ≤ m = (subst (AllByRecursion (λ k. k ≤ m)) e low).0 in
    let here : min m (least_leaf t) ≡ least_leaf t = omega (arith, first) in
    ap (least_from m) e ∙ ap (λ x. least_from x (map least_leaf ts)) here ∙ sym (least_leaf_row-least t ts)
