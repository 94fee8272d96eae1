-- The list of multiples has exactly the small common multiples.
use Rattle.std.proofs.Common.{◌≡◌, ℕ, ◌<◌, ◌≤◌, List, [], ◌∷◌, Bool, true, false, cond, refl, sym, ◌∙◌, ap, ap₂, arith, subst, inl, inr, ◌⊎◌}
use native.Mathlib.Decide.{dec_lt}
use Rattle.std.specs.declared.cmp.Ordering.TheVariants.{Less}
use Rattle.std.specs.Ordering.{nat_cmp, is_lt}
use Rattle.std.specs.Cmp.Lexicographic.{slice_cmp}
use Rattle.labelled_trees.specs.Trees.{Tree, IsNode, vertices}
use Rattle.labelled_trees.specs.Equality.{tree_discrete}
use Rattle.shuffle_insertions.specs.ShuffleTrees.{IsShuffle}
use Rattle.shuffle_places.proofs.Places.{place_of_cut, cut_of_place}
use Rattle.shuffle_places.specs.Cuts.{IsCut}
use Rattle.modular_sums.specs.Lists.{has_by, Mem, Distinct, has, choose}
use Rattle.shuffle_insertions.specs.Listing.{upto}
use Rattle.shuffle_places.specs.Overlays.{shape_discrete, shape, shapes_of}
use Rattle.shuffle_places.specs.Numberings.{numberings}
use Rattle.shuffle_places.specs.AllPlaces.{places}
use Rattle.shuffle_places.specs.Multiples.{IsMultiple}
use Rattle.shuffle_places.specs.PlaceOrder.{IsInOrder, Precedes, ComesFirst}
use Rattle.shuffle_places.specs.AllMultiples.{meet, cover, in_order, test, joined, different, multiples}
use Rattle.modular_sums.proofs.Lists.{both_true, true_both, mem_has_by, has_by_mem, has_mem, mem_has, mem_flat, mem_of_flat}
use Rattle.shuffle_places.proofs.Overlays.{multiple_shape}
use Rattle.shuffle_places.proofs.Numberings.{all_numbered}
use Rattle.shuffle_places.proofs.AllPlaces.{listed_place, place_listed}
use Rattle.shuffle_places.proofs.PlaceOrder.{in_order-joined, distinct_in_order, in_order_distinct, not_before_itself, places_in_order}
use Rattle.shuffle_insertions.proofs.Counted.{mem_times, times_mem, distinct_times}
use Rattle.shuffle_insertions.proofs.Upto.{in_upto, upto_mem}
use Rattle.labelled_trees.specs.Leaves.{times}
use Rattle.shuffle_insertions.proofs.Comparing.{is_less}

when_true : (b c : Bool) → b ≡ true → cond b true c ≡ true
when_true true c e = refl
when_true false c e = absurd (cc e)

when_second : (b c : Bool) → c ≡ true → cond b true c ≡ true
when_second true c e = refl
when_second false c e = e

one_true : (b c : Bool) → cond b true c ≡ true → (b ≡ true) ⊎ (c ≡ true)
one_true true c e = inl refl
one_true false c e = inr e

meet_shared : (k l : List ℕ) → meet k l ≡ true → (v : ℕ) × Mem v k × Mem v l
meet_shared [] l e = absurd (cc e)
meet_shared (v ∷ k) l e = go (one_true (has l v) (meet k l) e) (λ h. meet_shared k l h)
  where
    go : (has l v ≡ true) ⊎ (meet k l ≡ true) → (meet k l ≡ true → (u : ℕ) × Mem u k × Mem u l) → (u : ℕ) × Mem u (v ∷ k) × Mem u l
    go (inl h) f = (v, inl refl, has_mem l v h)
    go (inr h) f = let r = f h in (r.0, inr r.1, r.2)

shared_meet : (k l : List ℕ) (v : ℕ) → Mem v k → Mem v l → meet k l ≡ true
shared_meet [] l v h m = absurd h
shared_meet (x ∷ k) l v (inl e) m = when_true (has l x) (meet k l) (mem_has l x (subst (λ u. Mem u l) e m))
shared_meet (x ∷ k) l v (inr h) m = when_second (has l x) (meet k l) (shared_meet k l v h m)

cover_step : (b c d : Bool) → cond b d (cond c d false) ≡ true → ((b ≡ true) ⊎ (c ≡ true)) × (d ≡ true)
cover_step true c d e = (inl refl, e)
cover_step false true d e = (inr refl, e)
cover_step false false d e = absurd (cc e)

step_cover : (b c d : Bool) → (b ≡ true) ⊎ (c ≡ true) → d ≡ true → cond b d (cond c d false) ≡ true
step_cover true c d h e = e
step_cover false true d h e = e
step_cover false false d (inl h) e = absurd (cc h)
step_cover false false d (inr h) e = absurd (cc h)

covered : (m k l : List ℕ) → cover m k l ≡ true → (v : ℕ) → Mem v m → Mem v k ⊎ Mem v l
covered [] k l e v h = absurd h
covered (x ∷ m) k l e v (inr h) = covered m k l (cover_step (has k x) (has l x) (cover m k l) e).1 v h
covered (x ∷ m) k l e v (inl h) = go (cover_step (has k x) (has l x) (cover m k l) e).0
  where
    go : (has k x ≡ true) ⊎ (has l x ≡ true) → Mem v k ⊎ Mem v l
    go (inl a) = inl (subst (λ u. Mem u k) (sym h) (has_mem k x a))
    go (inr a) = inr (subst (λ u. Mem u l) (sym h) (has_mem l x a))

is_cover : (m k l : List ℕ) → ((v : ℕ) → Mem v m → Mem v k ⊎ Mem v l) → cover m k l ≡ true
is_cover [] k l h = refl
is_cover (x ∷ m) k l h = step_cover (has k x) (has l x) (cover m k l) (go (h x (inl refl))) (is_cover m k l (λ v p. h v (inr p)))
  where
    go : Mem x k ⊎ Mem x l → (has k x ≡ true) ⊎ (has l x ≡ true)
    go (inl p) = inl (mem_has k x p)
    go (inr p) = inr (mem_has l x p)

ordered_of : (a b : Tree ℕ) (k l : List ℕ) → in_order a b k l ≡ true → a ≡ b → slice_cmp nat_cmp k l ≡ Less
ordered_of a b k l e q = go (tree_discrete a b) e
  where
    go : (d : Dec (a ≡ b)) → choose d (is_lt (slice_cmp nat_cmp k l)) true ≡ true → slice_cmp nat_cmp k l ≡ Less
    go (yes _) e = is_less (slice_cmp nat_cmp k l) e
    go (no f) e = absurd (f q)

of_ordered : (a b : Tree ℕ) (k l : List ℕ) → (a ≡ b → slice_cmp nat_cmp k l ≡ Less) → in_order a b k l ≡ true
of_ordered a b k l h = go (tree_discrete a b)
  where
    go : (d : Dec (a ≡ b)) → choose d (is_lt (slice_cmp nat_cmp k l)) true ≡ true
    go (yes q) = ap is_lt (h q)
    go (no f) = refl

from_cond : {Y : Type 0} (b : Bool) (y z : Y) → Mem y (cond b (z ∷ []) []) → (b ≡ true) × (y ≡ z)
from_cond true y z (inl e) = (refl, e)
from_cond true y z (inr h) = absurd h
from_cond false y z h = absurd h

into_cond : {Y : Type 0} (b : Bool) (z : Y) → b ≡ true → Mem z (cond b (z ∷ []) [])
into_cond true z e = inl refl
into_cond false z e = absurd (cc e)

in_different : (x : Tree (Unit {0})) (l : List (Tree (Unit {0}))) → Mem x l → Mem x (different l)
in_different x [] h = absurd h
in_different x (y ∷ l) h = go (has_by shape_discrete l y) refl (λ m. in_different x l m) h
  where
    go : (b : Bool) → has_by shape_discrete l y ≡ b → (Mem x l → Mem x (different l)) → (x ≡ y) ⊎ Mem x l → Mem x (cond b (different l) (y ∷ different l))
    go true e ih (inl q) = ih (subst (λ z. Mem z l) (sym q) (has_by_mem shape_discrete l y e))
    go true e ih (inr m) = ih m
    go false e ih (inl q) = inl q
    go false e ih (inr m) = inr (ih m)

of_different : (x : Tree (Unit {0})) (l : List (Tree (Unit {0}))) → Mem x (different l) → Mem x l
of_different x [] h = h
of_different x (y ∷ l) h = go (has_by shape_discrete l y) (λ m. of_different x l m) h
  where
    go : (b : Bool) → (Mem x (different l) → Mem x l) → Mem x (cond b (different l) (y ∷ different l)) → (x ≡ y) ⊎ Mem x l
    go true ih m = inr (ih m)
    go false ih (inl q) = inl q
    go false ih (inr m) = inr (ih m)

different_distinct : (l : List (Tree (Unit {0}))) → Distinct (different l)
different_distinct [] = tt
different_distinct (y ∷ l) = go (has_by shape_discrete l y) refl (different_distinct l)
  where
    go : (b : Bool) → has_by shape_discrete l y ≡ b → Distinct (different l) → Distinct (cond b (different l) (y ∷ different l))
    go true e ih = ih
    go false e ih = (λ m. no_false (mem_has_by shape_discrete l y (of_different y l m)) e, ih)
      where
        no_false : has_by shape_discrete l y ≡ true → has_by shape_discrete l y ≡ false → ⊥
        no_false p q = cc (p, q)

in_order_cond : {Y : Type 0} (R : Y → Y → Type 0) (b : Bool) (z : Y) → IsInOrder R (cond b (z ∷ []) [])
in_order_cond R true z = (λ y m. absurd m, tt)
in_order_cond R false z = tt

module _ (a b : Tree ℕ) (na : IsNode a) (nb : IsNode b) (n : ℕ) where
  -- a tree with two places, where they pass the test
  abbrev in_places : Tree ℕ → List ℕ → List ℕ → List (Tree ℕ × List ℕ × List ℕ)
  in_places t i j = cond (test a b t i j) ((t, i, j) ∷ []) []

  -- the multiples in a tree
  abbrev in_tree : Tree ℕ → List (Tree ℕ × List ℕ × List ℕ)
  in_tree t = joined (places a 1 t) (λ i. joined (places b 1 t) (in_places t i))

  -- each listed triple is a small common multiple
  pub listed_multiple : (tree : Tree ℕ) (k l : List ℕ) → Mem (tree, k, l) (multiples a b n) → IsMultiple n a b tree k l
  listed_multiple tree k l h =
      let f = mem_of_flat (λ form. joined (numberings form (upto n)) (λ t. joined (places a 1 t) (λ i. joined (places b 1 t) (λ j. cond (test a b t i j) ((t, i, j) ∷ []) [])))) (tree, k, l) (different (shapes_of a b)) h in
      let t = mem_of_flat (λ t. joined (places a 1 t) (λ i. joined (places b 1 t) (λ j. cond (test a b t i j) ((t, i, j) ∷ []) []))) (tree, k, l) (numberings f.0 (upto n)) f.2 in
      let i = mem_of_flat (λ i. joined (places b 1 t.0) (λ j. cond (test a b t.0 i j) ((t.0, i, j) ∷ []) [])) (tree, k, l) (places a 1 t.0) t.2 in
      let j = mem_of_flat (λ j. cond (test a b t.0 i.0 j) ((t.0, i.0, j) ∷ []) []) (tree, k, l) (places b 1 t.0) i.2 in
      let c = from_cond (test a b t.0 i.0 j.0) (tree, k, l) (t.0, i.0, j.0) j.2 in
      let et : tree ≡ t.0 = ap (λ (x : Tree ℕ × List ℕ × List ℕ). x.0) c.1 in
      let ek : k ≡ i.0 = ap (λ (x : Tree ℕ × List ℕ × List ℕ). x.1) c.1 in
      let el : l ≡ j.0 = ap (λ (x : Tree ℕ × List ℕ × List ℕ). x.2) c.1 in
      subst (λ x. IsMultiple n a b x k l) (sym et) (subst (λ x. IsMultiple n a b t.0 x l) (sym ek) (subst (λ x. IsMultiple n a b t.0 i.0 x) (sym el)
      (of_test t.0 i.0 j.0 ((all_numbered n f.0 tree_discrete).only t.0 (mem_times tree_discrete t.0 (numberings f.0 (upto n)) t.1)).0 (listed_place a na t.0 i.0 i.1) (listed_place b nb t.0 j.0 j.1) c.0)))
    where
      of_test : (t : Tree ℕ) (i j : List ℕ) → IsShuffle n t → IsCut t i a → IsCut t j b → test a b t i j ≡ true → IsMultiple n a b t i j
      of_test t i j v p q e =
          let x = both_true (meet i j) (cond (cover (upto (vertices t)) i j) (in_order a b i j) false) e in
          let y = both_true (cover (upto (vertices t)) i j) (in_order a b i j) x.1 in
          record {
            overlap = record { valid = v; first_at = place_of_cut t i a p; second_at = place_of_cut t j b q; shared = meet_shared i j x.0; covers = λ u pos le. covered (upto (vertices t)) i j y.0 u (in_upto (vertices t) u pos le) };
            ordered = ordered_of a b i j y.1;
          }

  -- and each of them is listed
  pub multiple_listed : (tree : Tree ℕ) (k l : List ℕ) → IsMultiple n a b tree k l → Mem (tree, k, l) (multiples a b n)
  multiple_listed tree k l m =
      let o = m.overlap in
      let number = (all_numbered n (shape tree) tree_discrete).each tree o.valid refl in
      let e : test a b tree k l ≡ true = true_both (meet k l) (cond (cover (upto (vertices tree)) k l) (in_order a b k l) false) (shared_meet k l o.shared.0 o.shared.1 o.shared.2)
      (true_both (cover (upto (vertices tree)) k l) (in_order a b k l) (is_cover (upto (vertices tree)) k l (λ v h. let r = upto_mem (vertices tree) v h in o.covers v r.0 r.1))
      (of_ordered a b k l m.ordered)) in
      mem_flat (λ form. joined (numberings form (upto n)) (λ t. joined (places a 1 t) (λ i. joined (places b 1 t) (λ j. cond (test a b t i j) ((t, i, j) ∷ []) [])))) (shape tree) (tree, k, l) (different (shapes_of a b))
      (in_different (shape tree) (shapes_of a b) (multiple_shape n a b tree k l o))
      (mem_flat (λ t. joined (places a 1 t) (λ i. joined (places b 1 t) (λ j. cond (test a b t i j) ((t, i, j) ∷ []) []))) tree (tree, k, l) (numberings (shape tree) (upto n))
      (times_mem tree_discrete tree (numberings (shape tree) (upto n)) (omega (arith, number)))
      (mem_flat (λ i. joined (places b 1 tree) (λ j. cond (test a b tree i j) ((tree, i, j) ∷ []) [])) k (tree, k, l) (places a 1 tree) (place_listed a na tree k (cut_of_place tree k a o.first_at))
      (mem_flat (λ j. cond (test a b tree k j) ((tree, k, j) ∷ []) []) l (tree, k, l) (places b 1 tree) (place_listed b nb tree l (cut_of_place tree l b o.second_at))
      (into_cond (test a b tree k l) (tree, k, l) e))))

  at_most_once : (form : Tree (Unit {0})) (t : Tree ℕ) → times tree_discrete t (numberings form (upto n)) ≤ 1
  at_most_once form t = go (dec_lt 0 (times tree_discrete t (numberings form (upto n))))
    where
      go : Dec (0 < times tree_discrete t (numberings form (upto n))) → times tree_discrete t (numberings form (upto n)) ≤ 1
      go (yes p) = let o = (all_numbered n form tree_discrete).only t p in let e = (all_numbered n form tree_discrete).each t o.0 o.1 in omega (arith, e)
      go (no z) = omega (arith, z)

  tree_is : (x : Tree ℕ × List ℕ × List ℕ) (t : Tree ℕ) → Mem x (joined (places a 1 t) (λ i. joined (places b 1 t) (λ j. cond (test a b t i j) ((t, i, j) ∷ []) []))) → x.0 ≡ t
  tree_is x t h =
      let i = mem_of_flat (λ i. joined (places b 1 t) (λ j. cond (test a b t i j) ((t, i, j) ∷ []) [])) x (places a 1 t) h in
      let j = mem_of_flat (λ j. cond (test a b t i.0 j) ((t, i.0, j) ∷ []) []) x (places b 1 t) i.2 in
      ap (λ (x : Tree ℕ × List ℕ × List ℕ). x.0) (from_cond (test a b t i.0 j.0) x (t, i.0, j.0) j.2).1

  first_is : (x : Tree ℕ × List ℕ × List ℕ) (t : Tree ℕ) (i : List ℕ) → Mem x (joined (places b 1 t) (λ j. cond (test a b t i j) ((t, i, j) ∷ []) [])) → x.1 ≡ i
  first_is x t i h =
      let j = mem_of_flat (λ j. cond (test a b t i j) ((t, i, j) ∷ []) []) x (places b 1 t) h in
      ap (λ (x : Tree ℕ × List ℕ × List ℕ). x.1) (from_cond (test a b t i j.0) x (t, i, j.0) j.2).1

  shape_is : (x : Tree ℕ × List ℕ × List ℕ) (form : Tree (Unit {0})) → Mem x (joined (numberings form (upto n)) in_tree) → shape x.0 ≡ form
  shape_is x form h =
      let t = mem_of_flat in_tree x (numberings form (upto n)) h in
      ap shape (tree_is x t.0 t.2) ∙ ((all_numbered n form tree_discrete).only t.0 (mem_times tree_discrete t.0 (numberings form (upto n)) t.1)).1

  -- ---- in order

  second_rise : (t : Tree ℕ) (i : List ℕ) → IsInOrder ComesFirst (joined (places b 1 t) (in_places t i))
  second_rise t i = in_order-joined ComesFirst Precedes (places b 1 t) (in_places t i) (places_in_order b t nb) (λ j m. in_order_cond ComesFirst (test a b t i j) (t, i, j))
      (λ j k x y lt h g e.
      let c = (from_cond (test a b t i j) x (t, i, j) h).1 in
      let d = (from_cond (test a b t i k) y (t, i, k) g).1 in
      inr (
        ap (λ (z : Tree ℕ × List ℕ × List ℕ). z.1) c ∙ sym (ap (λ (z : Tree ℕ × List ℕ × List ℕ). z.1) d),
        ap₂ (slice_cmp nat_cmp) (ap (λ (z : Tree ℕ × List ℕ × List ℕ). z.2) c) (ap (λ (z : Tree ℕ × List ℕ × List ℕ). z.2) d) ∙ lt,
      ))

  first_rise : (t : Tree ℕ) → IsInOrder ComesFirst (in_tree t)
  first_rise t = in_order-joined ComesFirst Precedes (places a 1 t) (λ i. joined (places b 1 t) (in_places t i)) (places_in_order a t na) (λ i m. second_rise t i)
      (λ i k x y lt h g e. inl (ap₂ (slice_cmp nat_cmp) (first_is x t i h) (first_is y t k g) ∙ lt))

  trees_apart : (form : Tree (Unit {0})) → IsInOrder ComesFirst (joined (numberings form (upto n)) in_tree)
  trees_apart form = in_order-joined ComesFirst (λ t u. t ≡ u → ⊥) (numberings form (upto n)) in_tree
      (distinct_in_order (numberings form (upto n)) (distinct_times tree_discrete (numberings form (upto n)) (at_most_once form))) (λ t m. first_rise t)
      (λ t u x y other h g e. absurd (other (sym (tree_is x t h) ∙ e ∙ tree_is y u g)))

  pub multiples_rise : IsInOrder ComesFirst (multiples a b n)
  multiples_rise = in_order-joined ComesFirst (λ form other. form ≡ other → ⊥) (different (shapes_of a b)) (λ form. joined (numberings form (upto n)) in_tree)
      (distinct_in_order (different (shapes_of a b)) (different_distinct (shapes_of a b))) (λ form m. trees_apart form)
      (λ form next x y other h g e. absurd (other (sym (shape_is x form h) ∙ ap shape e ∙ shape_is y next g)))

  not_first : (x : Tree ℕ × List ℕ × List ℕ) → Precedes x.1 x.1 ⊎ ((x.1 ≡ x.1) × Precedes x.2 x.2) → ⊥
  not_first x (inl h) = not_before_itself x.1 h
  not_first x (inr h) = not_before_itself x.2 h.1

  -- so each stands once
  pub multiples_once : Distinct (multiples a b n)
  multiples_once = in_order_distinct ComesFirst (λ x h. not_first x (h refl)) (multiples a b n) multiples_rise
