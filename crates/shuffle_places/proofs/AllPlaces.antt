-- The list of places has exactly the places of the pattern.
use Rattle.std.proofs.Common.{◌≡◌, ℕ, suc, ◌+◌, List, [], ◌∷◌, map, refl, sym, ◌∙◌, ap, arith, subst, inl, inr, ◌⊎◌}
use mathlib.Core.List.{◌++◌}
use mathlib.Core.Path.{ap₂}
use native.Mathlib.Decide.{ℕ_discrete}
use Rattle.labelled_trees.specs.Trees.{Tree, Row, leaf, node, none, more, graft_row, join, IsNode, vertices, vertices_row}
use Rattle.labelled_trees.specs.Contexts.{Ctx, RowCtx, hole, inside, here, past, fill, fill_row}
use Rattle.labelled_trees.specs.Equality.{tree_discrete}
use Rattle.shuffle_places.specs.Cuts.{numbers, start, start_row, IsCut}
use Rattle.modular_sums.specs.Lists.{Mem, Rises, Distinct, choose}
use Rattle.shuffle_places.specs.Overlays.{shape, shape_row}
use Rattle.shuffle_places.specs.AllPlaces.{lay, lay_row, with_divisor, places, places_row}
use Rattle.shuffle_places.specs.Places.{divisor_of}
use Rattle.shuffle_insertions.specs.Listing.{each_with_each}
use Rattle.labelled_trees.proofs.Contexts.{node-eq, more-eq}
use Rattle.shuffle_places.proofs.Vertices.{In}
use Rattle.modular_sums.proofs.Lists.{mem_of_map, mem_either, Rises-append, mem_left, mem_right}
use Rattle.shuffle_places.proofs.Overlays.{standard_shape}

abbrev self : Tree ℕ → Tree ℕ
self v = v

pub where_yes : {A X : Type 0} (d : Dec A) (l : List X) → A → choose d l [] ≡ l
where_yes (yes _) l a = refl
where_yes (no f) l a = absurd (f a)

mutual
  -- a pattern of the shape is what is laid
  pub lay_own : {X : Type 0} (p : Tree X) (q : Tree (Tree ℕ)) → shape q ≡ shape p → lay p (join q) ≡ q ∷ []
  lay_own (leaf x) (leaf t) e = refl
  lay_own (leaf x) (node m s) e = absurd (cc e)
  lay_own (node l r) (leaf t) e = absurd (cc e)
  lay_own (node l r) (node m s) e =
      let d = node-eq m l (shape_row s) (shape_row r) e in
      where_yes (ℕ_discrete l m) (map (λ q. node m q) (lay_row r (graft_row s self))) (sym d.0) ∙ ap (map (λ q. node m q)) (lay_own_row r s d.1)

  pub lay_own_row : {X : Type 0} (r : Row X) (s : Row (Tree ℕ)) → shape_row s ≡ shape_row r → lay_row r (graft_row s self) ≡ s ∷ []
  lay_own_row none none e = refl
  lay_own_row none (more u s) e = absurd (cc e)
  lay_own_row (more t r) none e = absurd (cc e)
  lay_own_row (more t r) (more u s) e =
      let d = more-eq (shape u) (shape t) (shape_row s) (shape_row r) e in
      ap₂ each_with_each (lay_own t u d.0) (lay_own_row r s d.1)

from_pairs : {X : Type 0} (y : Row X) (ts : List (Tree X)) (rs : List (Row X)) → Mem y (each_with_each ts rs) → (t : Tree X) × (r : Row X) × Mem t ts × Mem r rs × (y ≡ more t r)
from_pairs y [] rs h = absurd h
from_pairs {X = X} y (t ∷ ts) rs h = go (mem_either y (map (λ r. more t r) rs) (each_with_each ts rs) h) (λ m. from_pairs y ts rs m)
  where
    go : Mem y (map (λ r. more t r) rs) ⊎ Mem y (each_with_each ts rs) → (Mem y (each_with_each ts rs) → (t' : Tree X) × (r : Row X) × Mem t' ts × Mem r rs × (y ≡ more t' r))
        → (t' : Tree X) × (r : Row X) × Mem t' (t ∷ ts) × Mem r rs × (y ≡ more t' r)
    go (inl m) f = let k = mem_of_map (λ r. more t r) y rs m in (t, k.0, inl refl, k.1, k.2)
    go (inr m) f = let k = f m in (k.0, k.1, inr k.2, k.3, k.4)

from_where : {A X : Type 0} (d : Dec A) (x : X) (l : List X) → Mem x (choose d l []) → A × Mem x l
from_where (yes a) x l h = (a, h)
from_where (no _) x l h = absurd h

mutual
  -- what is laid makes up the tree
  pub lay_joins : {X : Type 0} (p : Tree X) (t : Tree ℕ) (q : Tree (Tree ℕ)) → Mem q (lay p t) → (join q ≡ t) × (IsNode p → IsNode q)
  lay_joins (leaf x) t q (inl e) = (ap join e, λ n. absurd n)
  lay_joins (leaf x) t q (inr h) = absurd h
  lay_joins (node l r) (leaf n) q h = absurd h
  lay_joins (node l r) (node m s) q h =
      let w = from_where (ℕ_discrete l m) q (map (λ q. node m q) (lay_row r s)) h in
      let k = mem_of_map (λ q. node m q) q (lay_row r s) w.1 in
      (ap join k.2 ∙ ap (node m) (lay_joins_row r s k.0 k.1), λ n. subst IsNode (sym k.2) tt)

  pub lay_joins_row : {X : Type 0} (r : Row X) (s : Row ℕ) (q : Row (Tree ℕ)) → Mem q (lay_row r s) → graft_row q self ≡ s
  lay_joins_row none none q (inl e) = ap (λ x. graft_row x self) e
  lay_joins_row none none q (inr h) = absurd h
  lay_joins_row none (more u s) q h = absurd h
  lay_joins_row (more t r) none q h = absurd h
  lay_joins_row (more t r) (more u s) q h =
      let k = from_pairs q (lay t u) (lay_row r s) h in
      ap (λ x. graft_row x self) k.4 ∙ ap₂ more (lay_joins t u k.0 k.2).0 (lay_joins_row r s k.1 k.3)

-- a place in a tree whose root has number k
pub record At (a : Tree ℕ) (k : ℕ) (t : Tree ℕ) (set : List ℕ) : Type 0 where
  pub context : Ctx ℕ
  pub pattern_at : Tree (Tree ℕ)
  pub is_node : IsNode pattern_at
  pub is : t ≡ fill context (join pattern_at)
  pub set_is : set ≡ numbers self (start k context) pattern_at
  pub divisor_is : a ≡ divisor_of pattern_at

pub record AtRow (a : Tree ℕ) (k : ℕ) (r : Row ℕ) (set : List ℕ) : Type 0 where
  pub context : RowCtx ℕ
  pub pattern_at : Tree (Tree ℕ)
  pub is_node : IsNode pattern_at
  pub is : r ≡ fill_row context (join pattern_at)
  pub set_is : set ≡ numbers self (start_row k context) pattern_at
  pub divisor_is : a ≡ divisor_of pattern_at

from_divisor : (a : Tree ℕ) (k : ℕ) (l : List (Tree (Tree ℕ))) (set : List ℕ) → Mem set (with_divisor a k l) → (q : Tree (Tree ℕ)) × Mem q l × (divisor_of q ≡ a) × (set ≡ numbers self k q)
from_divisor a k [] set h = absurd h
from_divisor a k (q ∷ l) set h = go (mem_either set (choose (tree_discrete (divisor_of q) a) (numbers self k q ∷ []) []) (with_divisor a k l) h) (λ m. from_divisor a k l set m)
  where
    one : Mem set (numbers self k q ∷ []) → set ≡ numbers self k q
    one (inl e) = e
    one (inr h) = absurd h

    go : Mem set (choose (tree_discrete (divisor_of q) a) (numbers self k q ∷ []) []) ⊎ Mem set (with_divisor a k l)
        → (Mem set (with_divisor a k l) → (p : Tree (Tree ℕ)) × Mem p l × (divisor_of p ≡ a) × (set ≡ numbers self k p)) → (p : Tree (Tree ℕ)) × Mem p (q ∷ l) × (divisor_of p ≡ a) × (set ≡ numbers self k p)
    go (inl m) f = let w = from_where (tree_discrete (divisor_of q) a) set (numbers self k q ∷ []) m in (q, inl refl, w.0, one w.1)
    go (inr m) f = let r = f m in (r.0, inr r.1, r.2, r.3)

module _ (a : Tree ℕ) (a_node : IsNode a) where
  at_root : (k l : ℕ) (r : Row ℕ) (set : List ℕ) → Mem set (with_divisor a k (lay a (node l r))) → At a k (node l r) set
  at_root k l r set h =
      let d = from_divisor a k (lay a (node l r)) set h in
      let j = lay_joins a (node l r) d.0 d.1 in
      record { context = hole; pattern_at = d.0; is_node = j.1 a_node; is = sym j.0; set_is = d.3; divisor_is = sym d.2 }

  below_root : (k l : ℕ) (r : Row ℕ) (set : List ℕ) → AtRow a (suc k) r set → At a k (node l r) set
  below_root k l r set h = record { context = inside l h.context; pattern_at = h.pattern_at; is_node = h.is_node; is = ap (node l) h.is; set_is = h.set_is; divisor_is = h.divisor_is }

  in_first : (k : ℕ) (t : Tree ℕ) (r : Row ℕ) (set : List ℕ) → At a k t set → AtRow a k (more t r) set
  in_first k t r set h = record { context = here h.context r; pattern_at = h.pattern_at; is_node = h.is_node; is = ap (λ x. more x r) h.is; set_is = h.set_is; divisor_is = h.divisor_is }

  in_rest : (k : ℕ) (t : Tree ℕ) (r : Row ℕ) (set : List ℕ) → AtRow a (k + vertices t) r set → AtRow a k (more t r) set
  in_rest k t r set h = record { context = past t h.context; pattern_at = h.pattern_at; is_node = h.is_node; is = ap (more t) h.is; set_is = h.set_is; divisor_is = h.divisor_is }

  either_of : (P : Type 0) (set : List ℕ) (k l : List (List ℕ)) → (Mem set k → P) → (Mem set l → P) → Mem set (k ++ l) → P
  either_of P set k l f g h = go (mem_either set k l h)
    where
      go : Mem set k ⊎ Mem set l → P
      go (inl m) = f m
      go (inr m) = g m

  mutual
    only_places : (k : ℕ) (t : Tree ℕ) (set : List ℕ) → Mem set (places a k t) → At a k t set
    only_places k (leaf n) set h = absurd h
    only_places k (node l r) set h = either_of (At a k (node l r) set) set (with_divisor a k (lay a (node l r))) (places_row a (suc k) r)
        (λ m. at_root k l r set m) (λ m. below_root k l r set (only_places_row (suc k) r set m)) h

    only_places_row : (k : ℕ) (r : Row ℕ) (set : List ℕ) → Mem set (places_row a k r) → AtRow a k r set
    only_places_row k none set h = absurd h
    only_places_row k (more t r) set h = either_of (AtRow a k (more t r) set) set (places a k t) (places_row a (k + vertices t) r)
        (λ m. in_first k t r set (only_places k t set m)) (λ m. in_rest k t r set (only_places_row (k + vertices t) r set m)) h

  own_divisor : (k : ℕ) (q : Tree (Tree ℕ)) → a ≡ divisor_of q → Mem (numbers self k q) (with_divisor a k (q ∷ []))
  own_divisor k q e = mem_left (numbers self k q) (choose (tree_discrete (divisor_of q) a) (numbers self k q ∷ []) []) []
      (subst (Mem (numbers self k q)) (sym (where_yes (tree_discrete (divisor_of q) a) (numbers self k q ∷ []) (sym e))) (inl refl))

  own_place : (k : ℕ) (q : Tree (Tree ℕ)) → IsNode q → a ≡ divisor_of q → Mem (numbers self k q) (places a k (join q))
  own_place k (leaf t) n e = absurd n
  own_place k (node l r) n e = mem_left (numbers self k (node l r)) (with_divisor a k (lay a (join (node l r)))) (places_row a (suc k) (graft_row r self))
      (subst (λ x. Mem (numbers self k (node l r)) (with_divisor a k x)) (sym (lay_own a (node l r) (sym (ap shape e ∙ standard_shape (node l r))))) (own_divisor k (node l r) e))

  mutual
    each_place : (k : ℕ) (c : Ctx ℕ) (q : Tree (Tree ℕ)) → IsNode q → a ≡ divisor_of q → Mem (numbers self (start k c) q) (places a k (fill c (join q)))
    each_place k hole q n e = own_place k q n e
    each_place k (inside l c) q n e = mem_right (numbers self (start_row (suc k) c) q) (with_divisor a k (lay a (node l (fill_row c (join q))))) (places_row a (suc k) (fill_row c (join q)))
        (each_place_row (suc k) c q n e)

    each_place_row : (k : ℕ) (c : RowCtx ℕ) (q : Tree (Tree ℕ)) → IsNode q → a ≡ divisor_of q → Mem (numbers self (start_row k c) q) (places_row a k (fill_row c (join q)))
    each_place_row k (here c r) q n e = mem_left (numbers self (start k c) q) (places a k (fill c (join q))) (places_row a (k + vertices (fill c (join q))) r) (each_place k c q n e)
    each_place_row k (past t c) q n e = mem_right (numbers self (start_row (k + vertices t) c) q) (places a k t) (places_row a (k + vertices t) (fill_row c (join q))) (each_place_row (k + vertices t) c q n e)

  -- the list has the places of the pattern and no others
  pub listed_place : (host : Tree ℕ) (set : List ℕ) → Mem set (places a 1 host) → IsCut host set a
  listed_place host set h =
      let p = only_places 1 host set h in
      record { context = p.context; pattern_at = p.pattern_at; is_node = p.is_node; host_is = p.is; set_is = p.set_is; divisor_is = p.divisor_is }

  pub place_listed : (host : Tree ℕ) (set : List ℕ) → IsCut host set a → Mem set (places a 1 host)
  place_listed host set p =
      subst (λ x. Mem set (places a 1 x)) (sym p.host_is)
      (subst (λ l. Mem l (places a 1 (fill p.context (join p.pattern_at)))) (sym p.set_is) (each_place 1 p.context p.pattern_at p.is_node p.divisor_is))

-- the top vertex of a place
unfoldable pub head_of : List ℕ → ℕ
head_of [] = 0
head_of (v ∷ l) = v

-- the top vertices of a list of places
unfoldable pub tops : List (List ℕ) → List ℕ
tops [] = []
tops (s ∷ l) = head_of s ∷ tops l

tops-append : (k l : List (List ℕ)) → tops (k ++ l) ≡ tops k ++ tops l
unfolding tops
tops-append [] l = refl
tops-append (s ∷ k) l = ap (λ m. head_of s ∷ m) (tops-append k l)

pub among_tops : (s : List ℕ) (l : List (List ℕ)) → Mem s l → Mem (head_of s) (tops l)
unfolding tops
among_tops s [] h = absurd h
among_tops s (x ∷ l) (inl e) = inl (ap head_of e)
among_tops s (x ∷ l) (inr h) = inr (among_tops s l h)

distinct_tops : (l : List (List ℕ)) → Rises (tops l) → Distinct l
unfolding tops
distinct_tops [] h = tt
distinct_tops (s ∷ l) h = (λ m. let lt = h.0 (head_of s) (among_tops s l m) in absurd (omega arith), distinct_tops l h.1)

abbrev pub AtMostOne : {X : Type 0} → List X → Type 0
AtMostOne [] = Unit {0}
AtMostOne (x ∷ []) = Unit {0}
AtMostOne (x ∷ (y ∷ l)) = ⊥

one_where : {A X : Type 0} (d : Dec A) (l : List X) → AtMostOne l → AtMostOne (choose d l [])
one_where (yes _) l h = h
one_where (no _) l h = tt

one_map : {X Y : Type 0} (f : X → Y) (l : List X) → AtMostOne l → AtMostOne (map f l)
one_map f [] h = tt
one_map f (x ∷ []) h = tt
one_map f (x ∷ (y ∷ l)) h = absurd h

one_pairs : {X : Type 0} (ts : List (Tree X)) (rs : List (Row X)) → AtMostOne ts → AtMostOne rs → AtMostOne (each_with_each ts rs)
one_pairs [] rs h g = tt
one_pairs (t ∷ []) [] h g = tt
one_pairs (t ∷ []) (r ∷ []) h g = tt
one_pairs (t ∷ []) (r ∷ (s ∷ rs)) h g = absurd g
one_pairs (t ∷ (u ∷ ts)) rs h g = absurd h

mutual
  pub lay_once : {X : Type 0} (p : Tree X) (t : Tree ℕ) → AtMostOne (lay p t)
  lay_once (leaf x) t = tt
  lay_once (node l r) (leaf n) = tt
  lay_once (node l r) (node m s) = one_where (ℕ_discrete l m) (map (λ q. node m q) (lay_row r s)) (one_map (λ q. node m q) (lay_row r s) (lay_once_row r s))

  pub lay_once_row : {X : Type 0} (r : Row X) (s : Row ℕ) → AtMostOne (lay_row r s)
  lay_once_row none none = tt
  lay_once_row none (more u s) = tt
  lay_once_row (more t r) none = tt
  lay_once_row (more t r) (more u s) = one_pairs (lay t u) (lay_row r s) (lay_once t u) (lay_once_row r s)

join_tops : (k m n s j : ℕ) (a b : List (List ℕ)) → Rises (tops a) → Rises (tops b) → ((v : ℕ) → Mem v (tops a) → In v k m) → ((v : ℕ) → Mem v (tops b) → In v j n) → j ≡ k + m → s ≡ m + n
    → Rises (tops (a ++ b)) × ((v : ℕ) → Mem v (tops (a ++ b)) → In v k s)
join_tops k m n s j a b ra rb ia ib e f =
    rw (tops-append a b) (
      Rises-append (tops a) (tops b) ra rb (λ u v x y. let p = ia u x in let q = ib v y in omega (arith, p.1, q.0, e)),
      λ v x. go v (mem_either v (tops a) (tops b) x),
    )
  where
    go : (v : ℕ) → Mem v (tops a) ⊎ Mem v (tops b) → In v k s
    go v (inl x) = let p = ia v x in omega (arith, p.0, p.1, f)
    go v (inr x) = let p = ib v x in omega (arith, p.0, p.1, e, f)

-- the tops of what is laid at one vertex
module _ (a : Tree ℕ) (a_node : IsNode a) where
  top_at : (k : ℕ) (q : Tree (Tree ℕ)) → IsNode q → head_of (numbers self k q) ≡ k
  unfolding head_of
  top_at k (leaf t) n = absurd n
  top_at k (node l r) n = refl

  laid_tops : (k : ℕ) (l : List (Tree (Tree ℕ))) → AtMostOne l → ((q : Tree (Tree ℕ)) → Mem q l → IsNode q) → Rises (tops (with_divisor a k l)) × ((v : ℕ) → Mem v (tops (with_divisor a k l)) → v ≡ k)
  unfolding tops
  laid_tops k [] h n = (tt, λ v m. absurd m)
  laid_tops k (q ∷ []) h n = go (tree_discrete (divisor_of q) a)
    where
      go : (d : Dec (divisor_of q ≡ a)) → Rises (tops (choose d (numbers self k q ∷ []) [] ++ [])) × ((v : ℕ) → Mem v (tops (choose d (numbers self k q ∷ []) [] ++ [])) → v ≡ k)
      go (yes _) = ((λ u m. absurd m, tt), λ v m. one v m)
        where
          one : (v : ℕ) → (v ≡ head_of (numbers self k q)) ⊎ ⊥ → v ≡ k
          one v (inl e) = e ∙ top_at k q (n q (inl refl))
          one v (inr e) = absurd e
      go (no _) = (tt, λ v m. absurd m)
  laid_tops k (q ∷ (p ∷ l)) h n = absurd h

  mutual
    unfolding tops

    pub places_rise : (k : ℕ) (t : Tree ℕ) → Rises (tops (places a k t)) × ((v : ℕ) → Mem v (tops (places a k t)) → In v k (vertices t))
    places_rise k (leaf n) = (tt, λ v m. absurd m)
    places_rise k (node l r) =
        let x = laid_tops k (lay a (node l r)) (lay_once a (node l r)) (λ q m. (lay_joins a (node l r) q m).1 a_node) in
        let y = places_row_rise (suc k) r in
        join_tops k 1 (vertices_row r) (suc (vertices_row r)) (suc k) (with_divisor a k (lay a (node l r))) (places_row a (suc k) r) x.0 y.0 (λ v m. let e = x.1 v m in omega (arith, e)) y.1 (omega arith) (omega arith)

    places_row_rise : (k : ℕ) (r : Row ℕ) → Rises (tops (places_row a k r)) × ((v : ℕ) → Mem v (tops (places_row a k r)) → In v k (vertices_row r))
    places_row_rise k none = (tt, λ v m. absurd m)
    places_row_rise k (more t r) =
        let x = places_rise k t in
        let y = places_row_rise (k + vertices t) r in
        join_tops k (vertices t) (vertices_row r) (vertices t + vertices_row r) (k + vertices t) (places a k t) (places_row a (k + vertices t) r) x.0 y.0 x.1 y.1 refl refl

  -- the places by their tops, which rise; so none stands twice
  pub places_distinct : (k : ℕ) (t : Tree ℕ) → Distinct (places a k t)
  places_distinct k t = distinct_tops (places a k t) (places_rise k t).0
