-- Lists of trees in the spelling order.
use Rattle.std.proofs.Common.{◌≡◌, ◌↔◌, ℕ, List, [], ◌∷◌, refl, sym, ◌∙◌, ap, ap₂, subst, inl, inr, ◌⊎◌}
use Rattle.std.specs.List.{AllByRecursion}
use Rattle.std.specs.declared.cmp.Ordering.{Ordering}
use Rattle.std.specs.declared.cmp.Ordering.TheVariants.{Less, Equal, Greater}
use Rattle.std.specs.Ordering.{ordering_reverse}
use Rattle.modular_sums.specs.Lists.{Mem, Distinct}
use Rattle.labelled_trees.specs.Trees.{Tree}
use Rattle.operad_ideals.specs.SpellingOrder.{order}
use Rattle.operad_ideals.proofs.TreeOrder.{order_is_total}
use Rattle.operad_ideals.specs.Pairs.{Pairs}
use Rattle.operad_ideals.proofs.Forms.{not_itself}

abbrev pub Trees : Type 0
Trees = List (Tree ℕ)

-- the tree is before each of the list
abbrev pub Before : Tree ℕ → Trees → Type 0
Before t l = AllByRecursion (λ u. order t u ≡ Less) l

abbrev pub Ascending : Trees → Type 0
Ascending l = Pairs (λ t u. order t u ≡ Less) l

pub each_member : {X : Type 0} (P : X → Type 0) (l : List X) (x : X) → AllByRecursion P l → Mem x l → P x
each_member P [] x h m = absurd m
each_member P (y ∷ l) x h (inl e) = subst P (sym e) h.0
each_member P (y ∷ l) x h (inr m) = each_member P l x h.1 m

pub all_members : {X : Type 0} (P : X → Type 0) (l : List X) → ((x : X) → Mem x l → P x) → AllByRecursion P l
all_members P [] h = tt
all_members P (y ∷ l) h = (h y (inl refl), all_members P l (λ x m. h x (inr m)))

turn : (t u : Tree ℕ) → order t u ≡ Greater → order u t ≡ Less
turn t u e = order_is_total.turned t u ∙ ap ordering_reverse e

-- ---- one ascending list

-- the first of an ascending list isn't before a member
not_before : (x y : Tree ℕ) (l : Trees) → order x y ≡ Less → Before y l → Mem x (y ∷ l) → ⊥
not_before x y l e b (inl k) = not_itself x y e (sym k)
not_before x y l e b (inr m) =
    let back : order y x ≡ Less = each_member (λ u. order y u ≡ Less) l x b m in
    not_itself x x (order_is_total.transitive x y x e back) refl

drop_first : (x y u : Tree ℕ) (k l : Trees) → x ≡ y → Before x k → Mem u k → Mem u (y ∷ l) → Mem u l
drop_first x y u k l e b m (inl i) = absurd (not_itself x u (each_member (λ v. order x v ≡ Less) k u b m) (i ∙ sym e))
drop_first x y u k l e b m (inr i) = i

pub one_ascending : (k l : Trees) → Ascending k → Ascending l → ((u : Tree ℕ) → Mem u k → Mem u l) → ((u : Tree ℕ) → Mem u l → Mem u k) → k ≡ l
one_ascending [] [] a b f g = refl
one_ascending [] (y ∷ l) a b f g = absurd (g y (inl refl))
one_ascending (x ∷ k) [] a b f g = absurd (f x (inl refl))
one_ascending (x ∷ k) (y ∷ l) a b f g = go (order x y) refl (λ s t. one_ascending k l a.1 b.1 s t)
  where
    go : (o : Ordering) → order x y ≡ o → (((u : Tree ℕ) → Mem u k → Mem u l) → ((u : Tree ℕ) → Mem u l → Mem u k) → k ≡ l) → x ∷ k ≡ y ∷ l
    go Less e ih = absurd (not_before x y l e b.0 (f x (inl refl)))
    go Greater e ih = absurd (not_before y x k (turn x y e) a.0 (g y (inl refl)))
    go Equal e ih =
        let same : x ≡ y = (order_is_total.equal x y).0 e in
        ap₂ (λ z zs. z ∷ zs) same (ih (λ u m. drop_first x y u k l same a.0 m (f u (inr m))) (λ u m. drop_first y x u l k (sym same) b.0 m (g u (inr m))))

pub ascending_once : (l : Trees) → Ascending l → Distinct l
ascending_once [] a = tt
ascending_once (x ∷ l) a = (λ m. not_itself x x (each_member (λ u. order x u ≡ Less) l x a.0 m) refl, ascending_once l a.1)

-- ---- sorting

placed : Ordering → Tree ℕ → Tree ℕ → Trees → Trees → Trees
placed Less t u l rest = t ∷ (u ∷ l)
placed Equal t u l rest = u ∷ l
placed Greater t u l rest = u ∷ rest

put : Tree ℕ → Trees → Trees
put t [] = t ∷ []
put t (u ∷ l) = placed (order t u) t u l (put t l)

pub sorted : Trees → Trees
sorted [] = []
sorted (t ∷ l) = put t (sorted l)

put_has : (t : Tree ℕ) (l : Trees) (v : Tree ℕ) → Mem v (put t l) → (v ≡ t) ⊎ Mem v l
unfolding put placed
put_has t [] v (inl e) = inl e
put_has t [] v (inr m) = absurd m
put_has t (u ∷ l) v m = go (order t u) m (put_has t l v)
  where
    go : (o : Ordering) → Mem v (placed o t u l (put t l)) → (Mem v (put t l) → (v ≡ t) ⊎ Mem v l) → (v ≡ t) ⊎ Mem v (u ∷ l)
    go Less (inl e) r = inl e
    go Less (inr k) r = inr k
    go Equal k r = inr k
    go Greater (inl e) r = inr (inl e)
    go Greater (inr k) r = later (r k)
      where
        later : (v ≡ t) ⊎ Mem v l → (v ≡ t) ⊎ Mem v (u ∷ l)
        later (inl e) = inl e
        later (inr i) = inr (inr i)

has_put : (t : Tree ℕ) (l : Trees) (v : Tree ℕ) → (v ≡ t) ⊎ Mem v l → Mem v (put t l)
unfolding put placed
has_put t [] v h = h
has_put t (u ∷ l) v h = go (order t u) refl h (has_put t l v)
  where
    go : (o : Ordering) → order t u ≡ o → (v ≡ t) ⊎ Mem v (u ∷ l) → ((v ≡ t) ⊎ Mem v l → Mem v (put t l)) → Mem v (placed o t u l (put t l))
    go Less e (inl k) r = inl k
    go Less e (inr k) r = inr k
    go Equal e (inl k) r = inl (k ∙ (order_is_total.equal t u).0 e)
    go Equal e (inr k) r = k
    go Greater e (inl k) r = inr (r (inl k))
    go Greater e (inr (inl k)) r = inl k
    go Greater e (inr (inr k)) r = inr (r (inr k))

before_all : (t u : Tree ℕ) (l : Trees) → order t u ≡ Less → Before u l → Before t l
before_all t u l e b = all_members (λ v. order t v ≡ Less) l (λ v m. order_is_total.transitive t u v e (each_member (λ v. order u v ≡ Less) l v b m))

put_ascending : (t : Tree ℕ) (l : Trees) → Ascending l → Ascending (put t l)
unfolding put placed
put_ascending t [] a = (tt, tt)
put_ascending t (u ∷ l) a = go (order t u) refl (put_ascending t l a.1)
  where
    go : (o : Ordering) → order t u ≡ o → Ascending (put t l) → Ascending (placed o t u l (put t l))
    go Less e r = ((e, before_all t u l e a.0), a)
    go Equal e r = a
    go Greater e r = (all_members (λ v. order u v ≡ Less) (put t l) (λ v m. low v (put_has t l v m)), r)
      where
        low : (v : Tree ℕ) → (v ≡ t) ⊎ Mem v l → order u v ≡ Less
        low v (inl k) = subst (λ w. order u w ≡ Less) (sym k) (turn t u e)
        low v (inr m) = each_member (λ w. order u w ≡ Less) l v a.0 m

pub sorted_ascending : (l : Trees) → Ascending (sorted l)
unfolding sorted
sorted_ascending [] = tt
sorted_ascending (t ∷ l) = put_ascending t (sorted l) (sorted_ascending l)

pub sorted_has : (l : Trees) (v : Tree ℕ) → Mem v (sorted l) ↔ Mem v l
unfolding sorted
sorted_has [] v = (λ m. m, λ m. m)
sorted_has (t ∷ l) v = (λ m. forth (put_has t (sorted l) v m) (sorted_has l v).0, λ m. has_put t (sorted l) v (back m (sorted_has l v).1))
  where
    forth : (v ≡ t) ⊎ Mem v (sorted l) → (Mem v (sorted l) → Mem v l) → Mem v (t ∷ l)
    forth (inl e) r = inl e
    forth (inr m) r = inr (r m)

    back : Mem v (t ∷ l) → (Mem v l → Mem v (sorted l)) → (v ≡ t) ⊎ Mem v (sorted l)
    back (inl e) r = inl e
    back (inr m) r = inr (r m)
