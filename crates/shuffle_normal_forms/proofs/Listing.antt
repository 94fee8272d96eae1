-- The list of the free trees, and the trees that aren't free.
use Rattle.modular_sums.proofs.Lists.{both_true}
use Rattle.std.proofs.Common.{◌≡◌, ℕ, List, [], ◌∷◌, Bool, true, false, cond, refl, sym, ◌∙◌, ap, subst, inl, inr, ◌⊎◌}
use Rattle.std.specs.List.{filter}
use Rattle.modular_sums.specs.Lists.{Mem, Distinct}
use Rattle.labelled_trees.specs.Trees.{Tree, IsNode}
use Rattle.shuffle_insertions.specs.ShuffleTrees.{IsShuffleTree}
use Rattle.shuffle_insertions.specs.Labels.{AreLabels}
use Rattle.shuffle_insertions.specs.Listing.{IsListing, all_trees}
use Rattle.shuffle_insertions.proofs.Laws.{listed}
use Rattle.shuffle_places.specs.Places.{IsPlace}
use Rattle.shuffle_places.specs.AllPlaces.{places}
use Rattle.shuffle_places.proofs.Laws.{places_listed}
use Rattle.shuffle_bases.specs.Elements.{Element, Setting, AreMonic, Insertion}
use Rattle.shuffle_normal_forms.specs.FreeTrees.{IsFree, IsFreeTree, is_empty, has_no_place, free_trees}

-- ---- filtered lists

module _ {X : Type 0} (test : X → Bool) where
  pub mem_of_filter : (l : List X) (x : X) → Mem x (filter test l) → Mem x l × (test x ≡ true)
  mem_of_filter [] x m = absurd m
  mem_of_filter (y ∷ l) x m = go (test y) refl m (mem_of_filter l x)
    where
      go : (b : Bool) → test y ≡ b → Mem x (cond b (y ∷ filter test l) (filter test l)) → (Mem x (filter test l) → Mem x l × (test x ≡ true)) → Mem x (y ∷ l) × (test x ≡ true)
      go true e (inl s) ih = (inl s, ap test s ∙ e)
      go true e (inr n) ih = let k = ih n in (inr k.0, k.1)
      go false e n ih = let k = ih n in (inr k.0, k.1)

  pub mem_filter : (l : List X) (x : X) → Mem x l → test x ≡ true → Mem x (filter test l)
  mem_filter [] x m h = absurd m
  mem_filter (y ∷ l) x m h = go (test y) refl m (λ n. mem_filter l x n h)
    where
      go : (b : Bool) → test y ≡ b → Mem x (y ∷ l) → (Mem x l → Mem x (filter test l)) → Mem x (cond b (y ∷ filter test l) (filter test l))
      go true e (inl s) ih = inl s
      go true e (inr n) ih = inr (ih n)
      go false e (inl s) ih = let k : test x ≡ test y = ap test s in absurd (cc (h, e, k))
      go false e (inr n) ih = ih n

  pub Distinct-filter : (l : List X) → Distinct l → Distinct (filter test l)
  Distinct-filter [] h = tt
  Distinct-filter (y ∷ l) h = go (test y) (Distinct-filter l h.1)
    where
      go : (b : Bool) → Distinct (filter test l) → Distinct (cond b (y ∷ filter test l) (filter test l))
      go true d = (λ m. h.0 (mem_of_filter l y m).0, d)
      go false d = d

-- ---- the test

member_of_empty : {X : Type 0} (l : List X) (x : X) → Mem x l → is_empty l ≡ true → ⊥
member_of_empty [] x m e = absurd m
member_of_empty (y ∷ l) x m e = absurd (cc e)

empty_of_none : {X : Type 0} (l : List X) → ((x : X) → Mem x l → ⊥) → is_empty l ≡ true
empty_of_none [] f = refl
empty_of_none (x ∷ l) f = absurd (f x (inl refl))

-- no element of the list has a place in the tree
abbrev NonePlaced : List Element → Tree ℕ → Type 0
NonePlaced l t = (g : Element) → Mem g l → (set : List ℕ) → IsPlace t set g.lead → ⊥

abbrev AreNodes : List Element → Type 0
AreNodes l = (g : Element) → Mem g l → IsNode g.lead

none_of_test : (l : List Element) (t : Tree ℕ) → AreNodes l → has_no_place l t ≡ true → NonePlaced l t
none_of_test [] t nodes h g m set p = absurd m
none_of_test (x ∷ l) t nodes h g (inl e) set p =
    member_of_empty (places x.lead 1 t) set (((places_listed x.lead t (nodes x (inl refl))).0 set).1 (subst (λ k. IsPlace t set k.lead) e p))
    (both_true (is_empty (places x.lead 1 t)) (has_no_place l t) h).0
none_of_test (x ∷ l) t nodes h g (inr m) set p =
    none_of_test l t (λ k n. nodes k (inr n)) (both_true (is_empty (places x.lead 1 t)) (has_no_place l t) h).1 g m set p

test_of_none : (l : List Element) (t : Tree ℕ) → AreNodes l → NonePlaced l t → has_no_place l t ≡ true
test_of_none [] t nodes f = refl
test_of_none (x ∷ l) t nodes f =
    ap (λ b. cond b (has_no_place l t) false)
    (empty_of_none (places x.lead 1 t) (λ set m. f x (inl refl) set (((places_listed x.lead t (nodes x (inl refl))).0 set).0 m)))
    ∙ test_of_none l t (λ k n. nodes k (inr n)) (λ g m. f g (inr m))

-- ---- the list

module _ (labels : ℕ) (s : Setting) (are : AreLabels labels s.arity) (monic : AreMonic s) (n : ℕ) where
  listing : IsListing s.arity n (all_trees labels s.arity n)
  listing = (listed labels s.arity are n).0

  nodes : AreNodes s.elements
  nodes g m = (monic.each g m).lead_node

  pub free_of_mem : (t : Tree ℕ) → Mem t (free_trees labels s n) → IsFreeTree s n t
  free_of_mem t m =
      let k = mem_of_filter (has_no_place s.elements) (all_trees labels s.arity n) t m in
      record { valid = listing.only t k.0; free = none_of_test s.elements t nodes k.1 }

  pub mem_of_free : (t : Tree ℕ) → IsFreeTree s n t → Mem t (free_trees labels s n)
  mem_of_free t h = mem_filter (has_no_place s.elements) (all_trees labels s.arity n) t (listing.each t h.valid) (test_of_none s.elements t nodes h.free)

  pub distinct_free : Distinct (free_trees labels s n)
  distinct_free = Distinct-filter (has_no_place s.elements) (all_trees labels s.arity n) listing.distinct

-- ---- a tree that isn't free

member_or_none : {X : Type 0} (l : List X) → ((x : X) × Mem x l) ⊎ ((x : X) → Mem x l → ⊥)
member_or_none [] = inr (λ x m. m)
member_or_none (x ∷ l) = inl (x, inl refl)

-- an element of the list and a place of it in the tree
record PlacedOne (l : List Element) (t : Tree ℕ) : Type 0 where
  of : Element
  member : Mem of l
  set : List ℕ
  place : IsPlace t set of.lead

placed_or_none : (l : List Element) (t : Tree ℕ) → AreNodes l → PlacedOne l t ⊎ NonePlaced l t
placed_or_none [] t are = inr (λ g m. absurd m)
placed_or_none (x ∷ l) t are = go (member_or_none (places x.lead 1 t)) (placed_or_none l t (λ k n. are k (inr n)))
  where
    go : ((set : List ℕ) × Mem set (places x.lead 1 t)) ⊎ ((set : List ℕ) → Mem set (places x.lead 1 t) → ⊥) → PlacedOne l t ⊎ NonePlaced l t
        → PlacedOne (x ∷ l) t ⊎ NonePlaced (x ∷ l) t
    go (inl p) r = inl record { of = x; member = inl refl; set = p.0; place = ((places_listed x.lead t (are x (inl refl))).0 p.0).0 p.1 }
    go (inr f) (inl p) = inl record { of = p.of; member = inr p.member; set = p.set; place = p.place }
    go (inr f) (inr k) = inr none
      where
        none : NonePlaced (x ∷ l) t
        none g (inl e) set p = f set (((places_listed x.lead t (are x (inl refl))).0 set).1 (subst (λ h. IsPlace t set h.lead) e p))
        none g (inr m) set p = k g m set p

module _ (s : Setting) (monic : AreMonic s) (n : ℕ) where
  -- a shuffle tree is the tree of an insertion, or free
  pub inserted_or_free : (t : Tree ℕ) → IsShuffleTree s.arity n t → ((i : Insertion s n) × (i.tree ≡ t)) ⊎ IsFree s t
  inserted_or_free t h = go (placed_or_none s.elements t (λ g m. (monic.each g m).lead_node))
    where
      go : PlacedOne s.elements t ⊎ NonePlaced s.elements t → ((i : Insertion s n) × (i.tree ≡ t)) ⊎ IsFree s t
      go (inl p) = inl (record { of = p.of; member = p.member; tree = t; set = p.set; valid = h; place = p.place }, refl)
      go (inr f) = inr f

  -- the tree of an insertion isn't free
  pub not_free : (i : Insertion s n) (t : Tree ℕ) → t ≡ i.tree → IsFree s t → ⊥
  not_free i t e f = f i.of i.member i.set (subst (λ u. IsPlace u i.set i.of.lead) (sym e) i.place)
