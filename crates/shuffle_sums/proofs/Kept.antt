-- Sums over a shelf that grows.
use Rattle.std.proofs.Common.{◌≡◌, ℕ, zero, suc, ◌+◌, ◌-◌, ◌*◌, ◌%◌, ◌<◌, ◌≤◌, List, [], ◌∷◌, take, drop, refl, ap, sym, ◌∙◌, subst, arith}
use mathlib.Core.List.{◌++◌}
use mathlib.Core.Path.{ap₂}
use Rattle.std.specs.List.{AllByRecursion}
use Rattle.std.specs.declared.cmp.Ordering.{Ordering}
use Rattle.modular_sums.specs.Sums.{AllTerms, Same, scale, coef}
use Rattle.modular_sums.proofs.Sums.{coef-scale}
use Rattle.modular_sums.proofs.Laws.{sum_law}
use Rattle.labelled_trees.specs.Trees.{Tree}
use Rattle.labelled_trees.specs.Equality.{tree_discrete}
use Rattle.shuffle_insertions.specs.ShuffleTrees.{IsShuffleTree}
use Rattle.shuffle_trees.specs.LabelLists.{arity_in}
use Rattle.tree_store.specs.Stores.{tree_at}
use Rattle.tree_store.proofs.Trees.{tree_at-append}
use Rattle.modular_sums.specs.Falling.{IsFalling}
use Rattle.shuffle_sums.specs.Shelves.{Shelf, HasKey, IsShelf, IsShelved, FitsShelf, KeepsShelf}
use Rattle.shuffle_sums.specs.Sums.{pairs, over, HaveKeys, AreTrees, FallsBy, AreTerms, IsSumOf, OfOneArity}
use Rattle.shuffle_sums.specs.Merges.{Merged, unless_zero_term}
use Rattle.shuffle_sums.specs.declared.sum.Term.{Term}
use Rattle.shuffle_sums.proofs.Arities.{within_shelf}
use Rattle.modular_sums.specs.Lists.{choose}

module _ (old new : Shelf) (keeps : KeepsShelf old new) (shelf : IsShelf old) where
  -- the tree of an id with a key stays
  pub tree_kept : (id : ℕ) → HasKey old id → tree_at new.trees id ≡ tree_at old.trees id
  tree_kept id h = ap (λ ts. tree_at ts id) keeps.trees.1 ∙ tree_at-append old.trees keeps.trees.0 id (within_shelf old id shelf h)

  -- the sum of trees stays
  pub over_kept : (sum : List (ℕ × ℕ)) → HaveKeys old sum → over new sum ≡ over old sum
  over_kept [] h = refl
  over_kept (x ∷ sum) h = ap₂ (λ t l. (x.0, t) ∷ l) (tree_kept x.1 h.0) (over_kept sum h.1)

  pub stands_kept : (sum : List (ℕ × ℕ)) → HaveKeys old sum → HaveKeys new sum
  stands_kept [] h = tt
  stands_kept (x ∷ sum) h = (keeps.keys x.1 h.0, stands_kept sum h.1)

  pub trees_kept : (n : ℕ) (sum : List (ℕ × ℕ)) → HaveKeys old sum → AreTrees old n sum → AreTrees new n sum
  trees_kept n [] h t = tt
  trees_kept n (x ∷ sum) h t =
      (subst (λ ls. IsShuffleTree (arity_in ls) n (tree_at new.trees x.1)) (sym keeps.labels) (subst (IsShuffleTree (arity_in old.labels) n) (sym (tree_kept x.1 h.0)) t.0), trees_kept n sum h.1 t.1)

  -- a sum that fell falls
  pub falls_kept : (compare : Tree ℕ → Tree ℕ → Ordering) (p : ℕ) (sum : List (ℕ × ℕ)) → FallsBy compare p old sum → FallsBy compare p new sum
  falls_kept compare p sum f = record {
    stands = stands_kept sum f.stands;
    falling = subst (IsFalling compare p) (sym (over_kept sum f.stands)) f.falling;
    arity = f.arity;
    trees = trees_kept f.arity sum f.stands f.trees;
  }

  -- and is the sum of the same terms
  pub sum_kept : (compare : Tree ℕ → Tree ℕ → Ordering) (p : ℕ) (terms : List (ℕ × Tree ℕ)) (sum : List (ℕ × ℕ)) → IsSumOf compare p old terms sum → IsSumOf compare p new terms sum
  sum_kept compare p terms sum s = record {
    falls = falls_kept compare p sum s.falls;
    same = subst (λ l. Same tree_discrete (p - 1) l terms) (sym (over_kept sum s.falls.stands)) s.same;
    trees = λ n h. trees_kept n sum s.falls.stands (s.trees n (subst (λ ls. AllTerms terms (IsShuffleTree (arity_in ls) n)) keeps.labels h));
  }

-- a shelf that is kept twice is kept
pub keeps_both : (first second third : Shelf) → KeepsShelf first second → KeepsShelf second third → KeepsShelf first third
keeps_both first second third h g = record {
  labels = g.labels ∙ h.labels;
  most = g.most ∙ h.most;
  trees = (h.trees.0 ++ g.trees.0, g.trees.1 ∙ ap (λ l. l ++ g.trees.0) h.trees.1 ∙ assoc first.trees h.trees.0 g.trees.0);
  keys = λ id k. g.keys id (h.keys id k);
}
  where
    assoc : {X : Type 0} (k l m : List X) → (k ++ l) ++ m ≡ k ++ (l ++ m)
    assoc [] l m = refl
    assoc (x ∷ k) l m = ap (λ n. x ∷ n) (assoc k l m)

pub keeps_itself : (shelf : Shelf) → KeepsShelf shelf shelf
keeps_itself shelf = record { labels = refl; most = refl; trees = ([], nothing shelf.trees); keys = λ id k. k }
  where
    nothing : {X : Type 0} (k : List X) → k ≡ k ++ []
    nothing [] = refl
    nothing (x ∷ k) = ap (λ l. x ∷ l) (nothing k)

-- the terms of a shelf that is kept
pub terms_kept : (old new : Shelf) → KeepsShelf old new → (p : ℕ) (terms : List (ℕ × Tree ℕ)) → AreTerms old p terms → AreTerms new p terms
terms_kept old new keeps p terms h = (
  h.0,
  (h.1.0, subst (λ m. h.1.0 ≤ m) (sym keeps.most) h.1.1, subst (λ ls. AllTerms terms (IsShuffleTree (arity_in ls) h.1.0)) (sym keeps.labels) h.1.2),
)

-- ---- sums of terms

all_take : (P : Tree ℕ → Type 0) (n : ℕ) (terms : List (ℕ × Tree ℕ)) → AllTerms terms P → AllTerms (take n terms) P
all_take P zero terms h = tt
all_take P (suc n) [] h = tt
all_take P (suc n) (x ∷ terms) h = (h.0, all_take P n terms h.1)

all_drop : (P : Tree ℕ → Type 0) (n : ℕ) (terms : List (ℕ × Tree ℕ)) → AllTerms terms P → AllTerms (drop n terms) P
all_drop P zero terms h = h
all_drop P (suc n) [] h = tt
all_drop P (suc n) (x ∷ terms) h = all_drop P n terms h.1

small_take : (p n : ℕ) (terms : List (ℕ × Tree ℕ)) → AllByRecursion (λ x. x.0 < p) terms → AllByRecursion (λ x. x.0 < p) (take n terms)
small_take p zero terms h = tt
small_take p (suc n) [] h = tt
small_take p (suc n) (x ∷ terms) h = (h.0, small_take p n terms h.1)

small_drop : (p n : ℕ) (terms : List (ℕ × Tree ℕ)) → AllByRecursion (λ x. x.0 < p) terms → AllByRecursion (λ x. x.0 < p) (drop n terms)
small_drop p zero terms h = h
small_drop p (suc n) [] h = tt
small_drop p (suc n) (x ∷ terms) h = small_drop p n terms h.1

-- the front and the back of terms are terms
pub front_terms : (shelf : Shelf) (p n : ℕ) (terms front : List (ℕ × Tree ℕ)) → front ≡ take n terms → AreTerms shelf p terms → AreTerms shelf p front
front_terms shelf p n terms front e h = subst (AreTerms shelf p) (sym e) (small_take p n terms h.0, (h.1.0, h.1.1, all_take _ n terms h.1.2))

pub back_terms : (shelf : Shelf) (p n : ℕ) (terms back : List (ℕ × Tree ℕ)) → back ≡ drop n terms → AreTerms shelf p terms → AreTerms shelf p back
back_terms shelf p n terms back e h = subst (AreTerms shelf p) (sym e) (small_drop p n terms h.0, (h.1.0, h.1.1, all_drop _ n terms h.1.2))

join : {X : Type 0} (n : ℕ) (k : List X) → k ≡ take n k ++ drop n k
join zero k = refl
join (suc n) [] = refl
join (suc n) (x ∷ k) = ap (λ l. x ∷ l) (join n k)

-- the sums of both halves as one are the sum of the terms
pub sum_of_halves : (compare : Tree ℕ → Tree ℕ → Ordering) (p : ℕ) (shelf : Shelf) (n : ℕ) (terms front back : List (ℕ × Tree ℕ)) (ones others made : List Term)
    → front ≡ take n terms → back ≡ drop n terms → IsSumOf compare p shelf front (pairs ones) → IsSumOf compare p shelf back (pairs others) → Merged compare p 1 shelf ones others made
    → IsSumOf compare p shelf terms (pairs made)
sum_of_halves compare p shelf n terms front back ones others made e f g h m =
    let law = sum_law (Tree ℕ) tree_discrete (p - 1) in
    let A = over shelf (pairs ones) in
    let B = over shelf (pairs others) in
    let one : Same tree_discrete (p - 1) (scale 1 B) B = λ t. ap (λ k. k % suc (p - 1)) (coef-scale tree_discrete 1 B t ∙ one_times (coef tree_discrete B t)) in
    let sums : Same tree_discrete (p - 1) (A ++ scale 1 B) (front ++ back) = law.same_added A front (scale 1 B) back g.same (law.transitive (scale 1 B) B back one h.same) in
    let whole : front ++ back ≡ terms = ap₂ (λ k l. k ++ l) e f ∙ sym (join n terms) in
    record {
      falls = m.falls;
      same = law.transitive (over shelf (pairs made)) (A ++ scale 1 B) terms m.adds_up (subst (Same tree_discrete (p - 1) (A ++ scale 1 B)) whole sums);
      trees = λ k a. m.trees k (g.trees k (subst (λ l. AllTerms l (IsShuffleTree (arity_in shelf.labels) k)) (sym e) (all_take _ n terms a))) (h.trees k (subst (λ l. AllTerms l (IsShuffleTree (arity_in shelf.labels) k)) (sym f) (all_drop _ n terms a)));
    }
  where
    one_times : (k : ℕ) → 1 * k ≡ k
    one_times k = omega arith

-- the sum of one term
one_pushed : (compare : Tree ℕ → Tree ℕ → Ordering) (p : ℕ) (shelf : Shelf) (c id : ℕ) (t : Tree ℕ) → c < p → IsShelved shelf id t → FitsShelf shelf t
    → IsSumOf compare p shelf ((c, t) ∷ []) (pairs (unless_zero_term c id))
unfolding coef
one_pushed compare p shelf zero id t small found welcome = record {
  falls = record { stands = tt; falling = record { residues = tt; falls = tt }; arity = welcome.0; trees = tt };
  same = λ u. ap (λ k. k % suc (p - 1)) (sym (nothing_added (tree_discrete t u)));
  trees = λ n a. tt;
}
  where
    nothing_added : {A : Type 0} (d : Dec A) → choose {B = ℕ} d 0 0 + 0 ≡ 0
    nothing_added (yes _) = refl
    nothing_added (no _) = refl
one_pushed compare p shelf (suc c) id t small found welcome = record {
  falls = record {
    stands = (found.0, tt);
    falling = record { residues = (omega arith, small, tt); falls = (tt, tt) };
    arity = welcome.0;
    trees = (subst (IsShuffleTree (arity_in shelf.labels) welcome.0) (sym found.1) welcome.2, tt);
  };
  same = λ u. ap (λ v. coef tree_discrete ((suc c, v) ∷ []) u % suc (p - 1)) found.1;
  trees = λ n a. (subst (IsShuffleTree (arity_in shelf.labels) n) (sym found.1) a.0, tt);
}

pub sum_of_one : (compare : Tree ℕ → Tree ℕ → Ordering) (p : ℕ) (shelf : Shelf) (c id : ℕ) (t : Tree ℕ) (made : List Term) → c < p → IsShelved shelf id t → FitsShelf shelf t → made ≡ unless_zero_term c id
    → IsSumOf compare p shelf ((c, t) ∷ []) (pairs made)
sum_of_one compare p shelf c id t made small found welcome is = subst (λ l. IsSumOf compare p shelf ((c, t) ∷ []) (pairs l)) (sym is) (one_pushed compare p shelf c id t small found welcome)

-- a tree that was welcome before is
pub welcome_kept : (old new : Shelf) (t : Tree ℕ) → KeepsShelf old new → FitsShelf old t → FitsShelf new t
welcome_kept old new t keeps w = (w.0, subst (λ m. w.0 ≤ m) (sym keeps.most) w.1, subst (λ ls. IsShuffleTree (arity_in ls) w.0 t) (sym keeps.labels) w.2)

-- the sums of both halves have one arity
pub halves_arity : (compare : Tree ℕ → Tree ℕ → Ordering) (p : ℕ) (shelf : Shelf) (n : ℕ) (terms front back : List (ℕ × Tree ℕ)) (ones others : List Term) → front ≡ take n terms → back ≡ drop n terms
    → AreTerms shelf p terms → IsSumOf compare p shelf front (pairs ones) → IsSumOf compare p shelf back (pairs others) → OfOneArity shelf ones others
halves_arity compare p shelf n terms front back ones others e f h g k = (
  h.1.0,
  g.trees h.1.0 (subst (λ l. AllTerms l (IsShuffleTree (arity_in shelf.labels) h.1.0)) (sym e) (all_take _ n terms h.1.2)),
  k.trees h.1.0 (subst (λ l. AllTerms l (IsShuffleTree (arity_in shelf.labels) h.1.0)) (sym f) (all_drop _ n terms h.1.2)),
)
