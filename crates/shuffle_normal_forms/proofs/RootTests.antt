-- The test at the root, and places with the root.
use Rattle.std.proofs.Common.{◌≡◌, ℕ, suc, ◌+◌, ◌≤◌, List, [], ◌∷◌, true, false, cond, map, refl, sym, ◌∙◌, ap, arith, subst, ◌⊎◌, inl, inr}
use mathlib.Core.List.{◌++◌}
use native.Mathlib.Decide.{ℕ_discrete}
use Rattle.modular_sums.specs.Lists.{Mem, choose}
use Rattle.modular_sums.proofs.Lists.{mem_left, mem_either, mem_of_map, both_true}
use Rattle.labelled_trees.specs.Trees.{Tree, Row, leaf, node, none, more, graft, vertices, IsNode}
use Rattle.labelled_trees.specs.Equality.{tree_discrete}
use Rattle.shuffle_places.specs.Cuts.{numbers, numbers_row}
use Rattle.shuffle_places.specs.Places.{divisor_of, IsPlace}
use Rattle.shuffle_places.specs.AllPlaces.{lay, lay_row, with_divisor, places, places_row}
use Rattle.shuffle_places.proofs.Laws.{places_listed}
use Rattle.shuffle_bases.specs.Elements.{Element}
use Rattle.shuffle_normal_forms.specs.FreeTrees.{is_empty}
use Rattle.shuffle_normal_forms.specs.FreeTreeLists.{undivided, RootIsTested}

-- ---- the numbers of places

mutual
  numbers_above : (k : ℕ) (q : Tree (Tree ℕ)) (v : ℕ) → Mem v (numbers (λ u. u) k q) → k ≤ v
  numbers_above k (leaf x) v h = absurd h
  numbers_above k (node l r) v (inl e) = omega (arith, e)
  numbers_above k (node l r) v (inr h) = let rest = row_above (suc k) r v h in omega (arith, rest)

  row_above : (k : ℕ) (r : Row (Tree ℕ)) (v : ℕ) → Mem v (numbers_row (λ u. u) k r) → k ≤ v
  row_above k none v h = absurd h
  row_above k (more t r) v h = either (mem_either v (numbers (λ u. u) k t) (numbers_row (λ u. u) (k + vertices (graft t (λ u. u))) r) h) (numbers_above k t v) (row_above (k + vertices (graft t (λ u. u))) r v)
    where
      either : Mem v (numbers (λ u. u) k t) ⊎ Mem v (numbers_row (λ u. u) (k + vertices (graft t (λ u. u))) r) → (Mem v (numbers (λ u. u) k t) → k ≤ v)
          → (Mem v (numbers_row (λ u. u) (k + vertices (graft t (λ u. u))) r) → k + vertices (graft t (λ u. u)) ≤ v) → k ≤ v
      either (inl m) f g = f m
      either (inr m) f g = let rest = g m in omega (arith, rest)

-- a set of a place that is laid at the root, as a pattern
record IsLaid (k : ℕ) (l : List (Tree (Tree ℕ))) (set : List ℕ) : Type 0 where
  pattern_at : Tree (Tree ℕ)
  laid : Mem pattern_at l
  set_is : set ≡ numbers (λ v. v) k pattern_at

from_where : {A X : Type 0} (d : Dec A) (x : X) (l : List X) → Mem x (choose d l []) → Mem x l
from_where (yes a) x l h = h
from_where (no _) x l h = absurd h

laid_of : (a : Tree ℕ) (k : ℕ) (l : List (Tree (Tree ℕ))) (set : List ℕ) → Mem set (with_divisor a k l) → IsLaid k l set
laid_of a k [] set h = absurd h
laid_of a k (q ∷ l) set h = go (mem_either set (choose (tree_discrete (divisor_of q) a) (numbers (λ v. v) k q ∷ []) []) (with_divisor a k l) h) (laid_of a k l set)
  where
    one : Mem set (numbers (λ v. v) k q ∷ []) → set ≡ numbers (λ v. v) k q
    one (inl e) = e
    one (inr n) = absurd n

    go : Mem set (choose (tree_discrete (divisor_of q) a) (numbers (λ v. v) k q ∷ []) []) ⊎ Mem set (with_divisor a k l) → (Mem set (with_divisor a k l) → IsLaid k l set) → IsLaid k (q ∷ l) set
    go (inl m) f = record { pattern_at = q; laid = inl refl; set_is = one (from_where (tree_discrete (divisor_of q) a) set (numbers (λ v. v) k q ∷ []) m) }
    go (inr m) f = let r = f m in record { pattern_at = r.pattern_at; laid = inr r.laid; set_is = r.set_is }

-- what is laid for a tree with a vertex has a vertex
laid_node : (a t : Tree ℕ) (q : Tree (Tree ℕ)) → IsNode a → Mem q (lay a t) → IsNode q
laid_node (leaf x) t q n h = absurd n
laid_node (node l r) (leaf i) q n h = absurd h
laid_node (node l r) (node m s) q n h =
    let k = mem_of_map (λ p. node m p) q (lay_row r s) (from_where (ℕ_discrete l m) q (map (λ p. node m p) (lay_row r s)) h) in
    subst IsNode (sym k.2) tt

root_in : (q : Tree (Tree ℕ)) → IsNode q → Mem 1 (numbers (λ v. v) 1 q)
root_in (leaf x) n = absurd n
root_in (node l r) n = inl refl

two : (k : ℕ) (set : List ℕ) (v : ℕ) (j l : List (List ℕ)) → Mem set (j ++ l) → (Mem set j → k ≤ v) → (Mem set l → k ≤ v) → k ≤ v
two k set v j l h f g = pick (mem_either set j l h)
  where
    pick : Mem set j ⊎ Mem set l → k ≤ v
    pick (inl m) = f m
    pick (inr m) = g m

mutual
  places_above : (a : Tree ℕ) (k : ℕ) (t : Tree ℕ) (set : List ℕ) (v : ℕ) → Mem set (places a k t) → Mem v set → k ≤ v
  places_above a k (leaf n) set v h m = absurd h
  places_above a k (node l r) set v h m =
      two k set v (with_divisor a k (lay a (node l r))) (places_row a (suc k) r) h
      (λ w. let i = laid_of a k (lay a (node l r)) set w in numbers_above k i.pattern_at v (subst (Mem v) i.set_is m))
      (λ w. let rest = row_places_above a (suc k) r set v w m in omega (arith, rest))

  row_places_above : (a : Tree ℕ) (k : ℕ) (r : Row ℕ) (set : List ℕ) (v : ℕ) → Mem set (places_row a k r) → Mem v set → k ≤ v
  row_places_above a k none set v h m = absurd h
  row_places_above a k (more t r) set v h m =
      two k set v (places a k t) (places_row a (k + vertices t) r) h (λ w. places_above a k t set v w m)
      (λ w. let rest = row_places_above a (k + vertices t) r set v w m in omega (arith, rest))

-- ---- one element

member_of_empty : {X : Type 0} (l : List X) (x : X) → Mem x l → is_empty l ≡ true → ⊥
member_of_empty [] x m e = absurd m
member_of_empty (y ∷ l) x m e = absurd (cc e)

empty_of_none : {X : Type 0} (l : List X) → ((x : X) → Mem x l → ⊥) → is_empty l ≡ true
empty_of_none [] f = refl
empty_of_none (x ∷ l) f = absurd (f x (inl refl))

abbrev AtRoot : Tree ℕ → ℕ → Row ℕ → Type 0
AtRoot a g r = (set : List ℕ) → IsPlace (node g r) set a → Mem 1 set → ⊥

none_at_root : (a : Tree ℕ) (g : ℕ) (r : Row ℕ) → IsNode a → is_empty (with_divisor a 1 (lay a (node g r))) ≡ true → AtRoot a g r
none_at_root a g r n e set p m = go (mem_either set (with_divisor a 1 (lay a (node g r))) (places_row a 2 r) (((places_listed a (node g r) n).0 set).1 p))
  where
    go : Mem set (with_divisor a 1 (lay a (node g r))) ⊎ Mem set (places_row a 2 r) → ⊥
    go (inl w) = member_of_empty (with_divisor a 1 (lay a (node g r))) set w e
    go (inr w) = let above = row_places_above a 2 r set 1 w m in omega (arith, above)

empty_at_root : (a : Tree ℕ) (g : ℕ) (r : Row ℕ) → IsNode a → AtRoot a g r → is_empty (with_divisor a 1 (lay a (node g r))) ≡ true
empty_at_root a g r n f = empty_of_none (with_divisor a 1 (lay a (node g r))) (λ set w.
    let i = laid_of a 1 (lay a (node g r)) set w in
    f set (((places_listed a (node g r) n).0 set).0 (mem_left set (with_divisor a 1 (lay a (node g r))) (places_row a 2 r) w))
    (subst (Mem 1) (sym i.set_is) (root_in i.pattern_at (laid_node a (node g r) i.pattern_at n i.laid))))

-- ---- all elements

abbrev AreNodes : List Element → Type 0
AreNodes l = (x : Element) → Mem x l → IsNode x.lead

abbrev NoneAtRoot : List Element → ℕ → Row ℕ → Type 0
NoneAtRoot l g r = (x : Element) → Mem x l → AtRoot x.lead g r

none_of_test : (l : List Element) (g : ℕ) (r : Row ℕ) → AreNodes l → undivided l (node g r) ≡ true → NoneAtRoot l g r
none_of_test [] g r nodes h x m = absurd m
none_of_test (y ∷ l) g r nodes h x (inl e) =
    subst (λ z. AtRoot z.lead g r) (sym e)
    (none_at_root y.lead g r (nodes y (inl refl)) (both_true (is_empty (with_divisor y.lead 1 (lay y.lead (node g r)))) (undivided l (node g r)) h).0)
none_of_test (y ∷ l) g r nodes h x (inr m) =
    none_of_test l g r (λ z n. nodes z (inr n)) (both_true (is_empty (with_divisor y.lead 1 (lay y.lead (node g r)))) (undivided l (node g r)) h).1 x m

test_of_none : (l : List Element) (g : ℕ) (r : Row ℕ) → AreNodes l → NoneAtRoot l g r → undivided l (node g r) ≡ true
test_of_none [] g r nodes f = refl
test_of_none (y ∷ l) g r nodes f =
    ap (λ b. cond b (undivided l (node g r)) false) (empty_at_root y.lead g r (nodes y (inl refl)) (f y (inl refl)))
    ∙ test_of_none l g r (λ z n. nodes z (inr n)) (λ z n. f z (inr n))

pub root_is_tested : RootIsTested
root_is_tested l g r nodes = (none_of_test l g r nodes, test_of_none l g r nodes)
