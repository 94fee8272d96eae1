-- The vertices of what a set cuts, and the numbers of a pattern.
use Rattle.std.proofs.Common.{◌≡◌, ℕ, suc, ◌+◌, ◌<◌, ◌≤◌, List, [], ◌∷◌, Bool, true, false, refl, ap, arith, inl, inr, ◌⊎◌}
use mathlib.Core.List.{◌++◌}
use mathlib.Core.Path.{ap₂}
use Rattle.labelled_trees.specs.Trees.{Tree, Row, leaf, node, none, more, graft, graft_row, join, vertices, vertices_row}
use Rattle.modular_sums.specs.Lists.{Mem}
use Rattle.shuffle_places.specs.Cuts.{numbers, numbers_row}
use Rattle.modular_sums.proofs.Lists.{mem_left, mem_right, mem_either}
use Rattle.shuffle_places.specs.Places.{cut, cut_row}

cut_here : {A : Type 0} (b : ℕ → Bool) (k l : ℕ) (r : Row A) (d : Bool) → graft_row (cut_row b (suc k) r) (λ v. v) ≡ r
    → join (elim d as (λ _. Tree (Tree A)) [ true ↦ node l (cut_row b (suc k) r) | false ↦ leaf (node l r) ]) ≡ node l r
cut_here b k l r true h = ap (node l) h
cut_here b k l r false h = refl

mutual
  -- what is cut is the tree
  pub join-cut : {A : Type 0} (b : ℕ → Bool) (k : ℕ) (t : Tree A) → join (cut b k t) ≡ t
  join-cut b k (leaf a) = refl
  join-cut b k (node l r) = cut_here b k l r (b k) (join-cut_row b (suc k) r)

  pub join-cut_row : {A : Type 0} (b : ℕ → Bool) (k : ℕ) (r : Row A) → graft_row (cut_row b k r) (λ v. v) ≡ r
  join-cut_row b k none = refl
  join-cut_row b k (more t r) = ap₂ more (join-cut b k t) (join-cut_row b (k + vertices t) r)

abbrev pub In : ℕ → ℕ → ℕ → Type 0
In v k n = (k ≤ v) × (v < k + n)

in_either : (v k m n : ℕ) (P Q : Type 0) → (P → In v k m) → (Q → In v (k + m) n) → P ⊎ Q → In v k (m + n)
in_either v k m n P Q f g (inl p) = let h = f p in omega (arith, h.0, h.1)
in_either v k m n P Q f g (inr r) = let h = g r in omega (arith, h.0, h.1)

mutual
  pub numbers_in : {X A : Type 0} (s : X → Tree A) (k : ℕ) (p : Tree X) (v : ℕ) → Mem v (numbers s k p) → In v k (vertices (graft p s))
  numbers_in s k (leaf x) v h = absurd h
  numbers_in s k (node l r) v (inl e) = omega arith
  numbers_in s k (node l r) v (inr h) = let i = numbers_row_in s (suc k) r v h in omega (arith, i.0, i.1)

  pub numbers_row_in : {X A : Type 0} (s : X → Tree A) (k : ℕ) (r : Row X) (v : ℕ) → Mem v (numbers_row s k r) → In v k (vertices_row (graft_row r s))
  numbers_row_in s k none v h = absurd h
  numbers_row_in s k (more t r) v h =
      in_either v k (vertices (graft t s)) (vertices_row (graft_row r s)) (Mem v (numbers s k t)) (Mem v (numbers_row s (k + vertices (graft t s)) r))
      (λ m. numbers_in s k t v m) (λ m. numbers_row_in s (k + vertices (graft t s)) r v m) (mem_either v (numbers s k t) (numbers_row s (k + vertices (graft t s)) r) h)

-- the test b tells the list's members among the n numbers from k
abbrev pub Tells : (ℕ → Bool) → ℕ → ℕ → List ℕ → Type 0
Tells b k n l = (v : ℕ) → In v k n → (b v ≡ true → Mem v l) × (Mem v l → b v ≡ true)

tells_first : (b : ℕ → Bool) (k m n : ℕ) (l l' : List ℕ) → ((v : ℕ) → Mem v l' → In v (k + m) n) → Tells b k (m + n) (l ++ l') → Tells b k m l
tells_first b k m n l l' f h v i =
    let t = h v (i.0, omega (arith, i.1)) in
    (λ e. first (mem_either v l l' (t.0 e)), λ p. t.1 (mem_left v l l' p))
  where
    first : Mem v l ⊎ Mem v l' → Mem v l
    first (inl p) = p
    first (inr p) = let j = f v p in absurd (omega (arith, i.1, j.0))

tells_second : (b : ℕ → Bool) (k m n : ℕ) (l l' : List ℕ) → ((v : ℕ) → Mem v l → In v k m) → Tells b k (m + n) (l ++ l') → Tells b (k + m) n l'
tells_second b k m n l l' f h v i =
    let t = h v (omega (arith, i.0, i.1)) in
    (λ e. second (mem_either v l l' (t.0 e)), λ p. t.1 (mem_right v l l' p))
  where
    second : Mem v l ⊎ Mem v l' → Mem v l'
    second (inl p) = let j = f v p in absurd (omega (arith, i.0, j.1))
    second (inr p) = p

cut_off : (A : Type 0) (b : ℕ → Bool) (k : ℕ) (t : Tree A) → Tells b k (vertices t) [] → cut b k t ≡ leaf t
cut_off A b k (leaf a) h = refl
cut_off A b k (node l r) h = go (b k) (λ e. (h k (omega arith)).0 e)
  where
    go : (d : Bool) → (d ≡ true → ⊥) → (elim d as (λ _. Tree (Tree A)) [ true ↦ node l (cut_row b (suc k) r) | false ↦ leaf (node l r) ]) ≡ leaf (node l r)
    go true f = absurd (f refl)
    go false f = refl

cut_on : (A : Type 0) (b : ℕ → Bool) (k l : ℕ) (r : Row A) (q : Row (Tree A)) → b k ≡ true → cut_row b (suc k) r ≡ q → cut b k (node l r) ≡ node l q
cut_on A b k l r q e h = go (b k) e
  where
    go : (d : Bool) → d ≡ true → (elim d as (λ _. Tree (Tree A)) [ true ↦ node l (cut_row b (suc k) r) | false ↦ leaf (node l r) ]) ≡ node l q
    go true f = ap (node l) h
    go false f = absurd (cc f)

-- the root's number is no number of an input's vertex
inner : {X A : Type 0} (s : X → Tree A) (b : ℕ → Bool) (k : ℕ) (r : Row X) → Tells b k (suc (vertices_row (graft_row r s))) (k ∷ numbers_row s (suc k) r)
    → Tells b (suc k) (vertices_row (graft_row r s)) (numbers_row s (suc k) r)
inner s b k r h v i =
    let t = h v (omega (arith, i.0, i.1)) in
    (λ e. other (t.0 e), λ m. t.1 (inr m))
  where
    other : (v ≡ k) ⊎ Mem v (numbers_row s (suc k) r) → Mem v (numbers_row s (suc k) r)
    other (inl e) = absurd (omega (arith, e, i.0))
    other (inr m) = m

mutual
  -- the set of a pattern's numbers cuts out that pattern
  pub cut-numbers : {X A : Type 0} (s : X → Tree A) (b : ℕ → Bool) (k : ℕ) (p : Tree X) → Tells b k (vertices (graft p s)) (numbers s k p) → cut b k (graft p s) ≡ graft p (λ x. leaf (s x))
  cut-numbers {A = A} s b k (leaf x) h = cut_off A b k (s x) h
  cut-numbers {A = A} s b k (node l r) h =
      cut_on A b k l (graft_row r s) (graft_row r (λ x. leaf (s x))) ((h k (omega arith)).1 (inl refl))
      (cut_row-numbers s b (suc k) r (inner s b k r h))

  pub cut_row-numbers : {X A : Type 0} (s : X → Tree A) (b : ℕ → Bool) (k : ℕ) (r : Row X) → Tells b k (vertices_row (graft_row r s)) (numbers_row s k r)
      → cut_row b k (graft_row r s) ≡ graft_row r (λ x. leaf (s x))
  cut_row-numbers s b k none h = refl
  cut_row-numbers s b k (more t r) h = ap₂ more
      (cut-numbers s b k t (tells_first b k (vertices (graft t s)) (vertices_row (graft_row r s)) (numbers s k t) (numbers_row s (k + vertices (graft t s)) r) (numbers_row_in s (k + vertices (graft t s)) r) h))
      (cut_row-numbers s b (k + vertices (graft t s)) r (tells_second b k (vertices (graft t s)) (vertices_row (graft_row r s)) (numbers s k t) (numbers_row s (k + vertices (graft t s)) r) (numbers_in s k t) h))
