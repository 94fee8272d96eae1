-- The steps of a merge of sums of ids.
use Rattle.std.proofs.Common.{◌≡◌, ℕ, zero, suc, ◌+◌, ◌-◌, ◌*◌, ◌<◌, ◌≤◌, List, [], ◌∷◌, length, take, drop, get_or, refl, ap, sym, ◌∙◌, subst, arith}
use mathlib.Core.List.{◌++◌}
use mathlib.Core.Path.{ap₂}
use Rattle.std.specs.declared.cmp.Ordering.{Ordering}
use Rattle.std.specs.declared.cmp.Ordering.TheVariants.{Less, Equal, Greater}
use Rattle.std.specs.Ordering.{ordering_reverse}
use Rattle.std.proofs.lemmas.List.{drop_more, take_more}
use Rattle.modular_sums.specs.Residues.{IsCongruent}
use Rattle.modular_sums.specs.Sums.{AllTerms}
use Rattle.modular_sums.proofs.Sums.{AllTerms-append}
use Rattle.labelled_trees.specs.Trees.{Tree}
use Rattle.labelled_trees.specs.Equality.{tree_discrete}
use Rattle.shuffle_insertions.specs.Orders.{IsTreeOrder}
use Rattle.shuffle_trees.specs.LabelLists.{arity_in}
use Rattle.tree_store.specs.Stores.{tree_at}
use Rattle.modular_sums.specs.Falling.{IsAbove}
use Rattle.modular_sums.specs.Merging.{unless_zero, IsMerging}
use Rattle.modular_sums.proofs.Merging.{left_step, right_step, both_step, merge_start, merge_end}
use Rattle.shuffle_sums.specs.Shelves.{Shelf, HasKey}
use Rattle.shuffle_sums.specs.Sums.{pairs, over, AreTrees, HaveKeys, FallsOver, OfOneArity}
use Rattle.shuffle_sums.specs.Merges.{unless_zero_term, Merges, Merged}
use Rattle.shuffle_sums.specs.declared.sum.Term.{Term}

-- ---- sums of terms

pairs_append : (k l : List Term) → pairs (k ++ l) ≡ pairs k ++ pairs l
pairs_append [] l = refl
pairs_append (x ∷ k) l = ap (λ m. (x.coef, x.tree) ∷ m) (pairs_append k l)

over_append : (shelf : Shelf) (k l : List (ℕ × ℕ)) → over shelf (k ++ l) ≡ over shelf k ++ over shelf l
over_append shelf [] l = refl
over_append shelf (x ∷ k) l = ap (λ m. (x.0, tree_at shelf.trees x.1) ∷ m) (over_append shelf k l)

over_both : (shelf : Shelf) (k l : List Term) → over shelf (pairs (k ++ l)) ≡ over shelf (pairs k) ++ over shelf (pairs l)
over_both shelf k l = ap (over shelf) (pairs_append k l) ∙ over_append shelf (pairs k) (pairs l)

over_unless : (shelf : Shelf) (c id : ℕ) → over shelf (pairs (unless_zero_term c id)) ≡ unless_zero c (tree_at shelf.trees id)
over_unless shelf zero id = refl
over_unless shelf (suc c) id = refl

-- the next term and what is left behind it
over_next : (shelf : Shelf) (terms : List Term) (at : ℕ) (x : Term) → at < length terms → x ≡ get_or terms at x
    → over shelf (pairs (drop at terms)) ≡ (x.coef, tree_at shelf.trees x.tree) ∷ over shelf (pairs (drop (at + 1) terms))
over_next shelf terms at x h e =
    ap (λ l. over shelf (pairs l)) (drop_more terms at x h) ∙ ap (λ y. (y.coef, tree_at shelf.trees y.tree) ∷ over shelf (pairs (drop (at + 1) terms))) (sym e)

drop_none : {X : Type 0} (xs : List X) (n : ℕ) → length xs ≤ n → drop n xs ≡ []
drop_none [] zero h = refl
drop_none [] (suc n) h = refl
drop_none (x ∷ xs) zero h = absurd (omega arith)
drop_none (x ∷ xs) (suc n) h = drop_none xs n (omega arith)

-- what holds of all ids holds of the next
pub of_next : (P : ℕ → Type 0) (terms : List Term) (at : ℕ) (x : Term) → AllTerms (pairs terms) P → at < length terms → x ≡ get_or terms at x → P x.tree
of_next P [] at x h l e = absurd (omega arith)
of_next P (y ∷ terms) zero x h l e = subst (λ z. P z.tree) (sym e) h.0
of_next P (y ∷ terms) (suc at) x h l e = of_next P terms at x h.1 (omega arith) e

all_pushed : (P : ℕ → Type 0) (made : List Term) (c id : ℕ) → AllTerms (pairs made) P → P id → AllTerms (pairs (made ++ unless_zero_term c id)) P
all_pushed P made zero id h k = subst (λ l. AllTerms l P) (sym (pairs_append made [])) (AllTerms-append (pairs made) [] P h tt)
all_pushed P made (suc c) id h k = subst (λ l. AllTerms l P) (sym (pairs_append made (unless_zero_term (suc c) id))) (AllTerms-append (pairs made) ((suc c, id) ∷ []) P h (k, tt))

all_one : (P : ℕ → Type 0) (made : List Term) (x : Term) → AllTerms (pairs made) P → P x.tree → AllTerms (pairs (made ++ (x ∷ []))) P
all_one P made x h k = subst (λ l. AllTerms l P) (sym (pairs_append made (x ∷ []))) (AllTerms-append (pairs made) ((x.coef, x.tree) ∷ []) P h (k, tt))

-- ---- the order

pub turned_less : (a b : Ordering) → a ≡ ordering_reverse b → a ≡ Greater → b ≡ Less
turned_less Less b e h = absurd (cc h)
turned_less Equal b e h = absurd (cc h)
turned_less Greater Less e h = refl
turned_less Greater Equal e h = absurd (cc e)
turned_less Greater Greater e h = absurd (cc e)

module _ (compare : Tree ℕ → Tree ℕ → Ordering) (p c : ℕ) (shelf : Shelf) (ones others : List Term) (order : IsTreeOrder (arity_in shelf.labels) compare) where
  -- nothing is left of the first sum, or of the other
  pub above_none : (m : Tree ℕ) (terms : List Term) (at : ℕ) → length terms ≤ at → IsAbove compare m (over shelf (pairs (drop at terms)))
  above_none m terms at h = subst (λ l. IsAbove compare m (over shelf (pairs l))) (sym (drop_none terms at h)) tt

  pub above_next : (m : Tree ℕ) (terms : List Term) (at : ℕ) (x : Term) → at < length terms → x ≡ get_or terms at x → compare (tree_at shelf.trees x.tree) m ≡ Less
      → IsAbove compare m (over shelf (pairs (drop at terms)))
  above_next m terms at x h e l = subst (IsAbove compare m) (sym (over_next shelf terms at x h e)) l

  module _ (made new : List Term) (left right : ℕ) (h : Merges compare p c shelf ones others made left right) where
    -- the next term of the first sum comes next
    pub take_left : (x : Term) → left < length ones → x ≡ get_or ones left x → IsAbove compare (tree_at shelf.trees x.tree) (over shelf (pairs (drop right others)))
        → new ≡ made ++ (x ∷ []) → Merges compare p c shelf ones others new (left + 1) right
    take_left x lt e above is =
        let t = tree_at shelf.trees x.tree in
        let now = subst (λ l. IsMerging compare tree_discrete p c (over shelf (pairs ones)) (over shelf (pairs others)) (over shelf (pairs made)) l (over shelf (pairs (drop right others))))
        (over_next shelf ones left x lt e) h.merging in
        let next = left_step compare tree_discrete p c (over shelf (pairs ones)) (over shelf (pairs others)) order.transitive (over shelf (pairs made))
        (over shelf (pairs (drop (left + 1) ones))) (over shelf (pairs (drop right others))) (x.coef, t) now above in
        let made_is : over shelf (pairs made) ++ ((x.coef, t) ∷ []) ≡ over shelf (pairs new) = sym (over_both shelf made (x ∷ [])) ∙ ap (λ l. over shelf (pairs l)) (sym is) in
        record {
          merging = subst (λ l. IsMerging compare tree_discrete p c (over shelf (pairs ones)) (over shelf (pairs others)) l (over shelf (pairs (drop (left + 1) ones))) (over shelf (pairs (drop right others)))) made_is next;
          made_stands = subst (λ l. HaveKeys shelf (pairs l)) (sym is) (all_one (HasKey shelf) made x h.made_stands (of_next (HasKey shelf) ones left x h.ones_stand lt e));
          ones_stand = h.ones_stand;
          others_stand = h.others_stand;
          trees = λ n f g. subst (λ l. AreTrees shelf n (pairs l)) (sym is) (all_one _ made x (h.trees n f g) (of_next _ ones left x f lt e));
        }

    -- the next term of the other sum comes next
    pub take_right : (y : Term) (r : ℕ) → right < length others → y ≡ get_or others right y → IsAbove compare (tree_at shelf.trees y.tree) (over shelf (pairs (drop left ones)))
        → r < p → IsCongruent (p - 1) r (c * y.coef) → new ≡ made ++ unless_zero_term r y.tree → Merges compare p c shelf ones others new left (right + 1)
    take_right y r lt e above small alike is =
        let t = tree_at shelf.trees y.tree in
        let now = subst (λ l. IsMerging compare tree_discrete p c (over shelf (pairs ones)) (over shelf (pairs others)) (over shelf (pairs made)) (over shelf (pairs (drop left ones))) l)
        (over_next shelf others right y lt e) h.merging in
        let next = right_step compare tree_discrete p c (over shelf (pairs ones)) (over shelf (pairs others)) order.transitive (over shelf (pairs made))
        (over shelf (pairs (drop left ones))) (over shelf (pairs (drop (right + 1) others))) (y.coef, t) r now above small alike in
        let made_is : over shelf (pairs made) ++ unless_zero r t ≡ over shelf (pairs new) =
        ap (λ l. over shelf (pairs made) ++ l) (sym (over_unless shelf r y.tree)) ∙ sym (over_both shelf made (unless_zero_term r y.tree)) ∙ ap (λ l. over shelf (pairs l)) (sym is) in
        record {
          merging = subst (λ l. IsMerging compare tree_discrete p c (over shelf (pairs ones)) (over shelf (pairs others)) l (over shelf (pairs (drop left ones))) (over shelf (pairs (drop (right + 1) others)))) made_is next;
          made_stands = subst (λ l. HaveKeys shelf (pairs l)) (sym is) (all_pushed (HasKey shelf) made r y.tree h.made_stands (of_next (HasKey shelf) others right y h.others_stand lt e));
          ones_stand = h.ones_stand;
          others_stand = h.others_stand;
          trees = λ n f g. subst (λ l. AreTrees shelf n (pairs l)) (sym is) (all_pushed _ made r y.tree (h.trees n f g) (of_next _ others right y g lt e));
        }

    -- the next terms of both have one tree
    pub take_both : (x y : Term) (r : ℕ) → left < length ones → x ≡ get_or ones left x → right < length others → y ≡ get_or others right y
        → OfOneArity shelf ones others → compare (tree_at shelf.trees x.tree) (tree_at shelf.trees y.tree) ≡ Equal
        → r < p → IsCongruent (p - 1) r (x.coef + c * y.coef) → new ≡ made ++ unless_zero_term r x.tree → Merges compare p c shelf ones others new (left + 1) (right + 1)
    take_both x y r lt e rt f arity equal small alike is =
        let t = tree_at shelf.trees x.tree in
        let u = tree_at shelf.trees y.tree in
        let same : t ≡ u = order.equal_only arity.0 t u (of_next _ ones left x arity.1 lt e) (of_next _ others right y arity.2 rt f) equal in
        let at_left = subst (λ l. IsMerging compare tree_discrete p c (over shelf (pairs ones)) (over shelf (pairs others)) (over shelf (pairs made)) l (over shelf (pairs (drop right others))))
        (over_next shelf ones left x lt e) h.merging in
        let now = subst (λ l. IsMerging compare tree_discrete p c (over shelf (pairs ones)) (over shelf (pairs others)) (over shelf (pairs made)) ((x.coef, t) ∷ over shelf (pairs (drop (left + 1) ones))) l)
        (over_next shelf others right y rt f) at_left in
        let next = both_step compare tree_discrete p c (over shelf (pairs ones)) (over shelf (pairs others)) order.transitive (over shelf (pairs made))
        (over shelf (pairs (drop (left + 1) ones))) (over shelf (pairs (drop (right + 1) others))) (x.coef, t) (y.coef, u) r now (sym same) small alike in
        let made_is : over shelf (pairs made) ++ unless_zero r t ≡ over shelf (pairs new) =
        ap (λ l. over shelf (pairs made) ++ l) (sym (over_unless shelf r x.tree)) ∙ sym (over_both shelf made (unless_zero_term r x.tree)) ∙ ap (λ l. over shelf (pairs l)) (sym is) in
        record {
          merging = subst (λ l. IsMerging compare tree_discrete p c (over shelf (pairs ones)) (over shelf (pairs others)) l (over shelf (pairs (drop (left + 1) ones))) (over shelf (pairs (drop (right + 1) others)))) made_is next;
          made_stands = subst (λ l. HaveKeys shelf (pairs l)) (sym is) (all_pushed (HasKey shelf) made r x.tree h.made_stands (of_next (HasKey shelf) ones left x h.ones_stand lt e));
          ones_stand = h.ones_stand;
          others_stand = h.others_stand;
          trees = λ n a b. subst (λ l. AreTrees shelf n (pairs l)) (sym is) (all_pushed _ made r x.tree (h.trees n a b) (of_next _ ones left x a lt e));
        }

  -- a merge at its start
  pub merges_start : FallsOver compare p shelf ones → FallsOver compare p shelf others → Merges compare p c shelf ones others [] 0 0
  merges_start f g = record {
    merging = merge_start compare tree_discrete p c (over shelf (pairs ones)) (over shelf (pairs others)) order.transitive f.falling g.falling;
    made_stands = tt;
    ones_stand = f.stands;
    others_stand = g.stands;
    trees = λ n h k. tt;
  }

  -- and at its end
  pub merges_end : (made : List Term) (left right : ℕ) → length ones ≤ left → length others ≤ right → OfOneArity shelf ones others → Merges compare p c shelf ones others made left right
      → Merged compare p c shelf ones others made
  merges_end made left right l m arity h =
      let now = subst (λ k. IsMerging compare tree_discrete p c (over shelf (pairs ones)) (over shelf (pairs others)) (over shelf (pairs made)) (over shelf (pairs k)) (over shelf (pairs (drop right others)))) (drop_none ones left l) h.merging in
      let done = merge_end compare tree_discrete p c (over shelf (pairs ones)) (over shelf (pairs others)) order.transitive (over shelf (pairs made))
      (subst (λ k. IsMerging compare tree_discrete p c (over shelf (pairs ones)) (over shelf (pairs others)) (over shelf (pairs made)) [] (over shelf (pairs k))) (drop_none others right m) now) in
      record {
        falls = record { stands = h.made_stands; falling = done.0; arity = arity.0; trees = h.trees arity.0 arity.1 arity.2 };
        adds_up = done.1;
        trees = h.trees;
      }

-- the terms so far and the next, with its tree
pub over_taken : (shelf : Shelf) (terms : List Term) (at : ℕ) (x : Term) (made : List (ℕ × Tree ℕ)) (t : Tree ℕ) → at < length terms → x ≡ get_or terms at x
    → made ≡ over shelf (pairs (take at terms)) → t ≡ tree_at shelf.trees x.tree → made ++ ((x.coef, t) ∷ []) ≡ over shelf (pairs (take (at + 1) terms))
over_taken shelf terms at x made t h e is tree =
    ap₂ (λ l u. l ++ ((x.coef, u) ∷ [])) is tree
    ∙ sym (ap (λ l. over shelf (pairs l)) (take_more terms at x h) ∙ over_both shelf (take at terms) (get_or terms at x ∷ []) ∙ ap (λ y. over shelf (pairs (take at terms)) ++ ((y.coef, tree_at shelf.trees y.tree) ∷ [])) (sym e))
