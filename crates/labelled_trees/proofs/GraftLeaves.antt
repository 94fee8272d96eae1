-- The leaves of a graft.
use mathlib.Core.Path.{ap₂}
use Rattle.std.proofs.Common.{List, [], ◌∷◌, map, ◌≡◌, ℕ, ◌+◌, refl, sym, ◌∙◌, ap}
use mathlib.Core.List.{◌++◌}
use Rattle.labelled_trees.specs.Trees.{leaves, leaves_row, Tree, Row, leaf, node, none, more, graft, graft_row}
use Rattle.labelled_trees.specs.Leaves.{sum_leaves, sum_row, AllLeaves, AllRow}
use Rattle.labelled_trees.proofs.Contexts.{node-eq, more-eq}

mutual
  pub sum_leaves-graft : {A B : Type 0} (t : Tree A) (s : A → Tree B) (f : B → ℕ) → sum_leaves (graft t s) f ≡ sum_leaves t (λ a. sum_leaves (s a) f)
  sum_leaves-graft (leaf a) s f = refl
  sum_leaves-graft (node l r) s f = sum_row-graft r s f

  pub sum_row-graft : {A B : Type 0} (r : Row A) (s : A → Tree B) (f : B → ℕ) → sum_row (graft_row r s) f ≡ sum_row r (λ a. sum_leaves (s a) f)
  sum_row-graft none s f = refl
  sum_row-graft (more t r) s f = ap₂ (λ m n. m + n) (sum_leaves-graft t s f) (sum_row-graft r s f)

mutual
  pub graft_ext : {A B : Type 0} (t : Tree A) (s u : A → Tree B) → AllLeaves t (λ a. s a ≡ u a) → graft t s ≡ graft t u
  graft_ext (leaf a) s u h = h
  graft_ext (node l r) s u h = ap (node l) (graft_row_ext r s u h)

  pub graft_row_ext : {A B : Type 0} (r : Row A) (s u : A → Tree B) → AllRow r (λ a. s a ≡ u a) → graft_row r s ≡ graft_row r u
  graft_row_ext none s u h = refl
  graft_row_ext (more t r) s u h = ap₂ more (graft_ext t s u h.0) (graft_row_ext r s u h.1)

leaf-eq : {A : Type 0} (a b : A) → leaf a ≡ leaf b → a ≡ b
leaf-eq a b e = cc

mutual
  -- two changes of the leaves with one outcome agree at each leaf
  pub agree : {A B : Type 0} (t : Tree A) (f g : A → B) → graft t (λ a. leaf (f a)) ≡ graft t (λ a. leaf (g a)) → AllLeaves t (λ a. f a ≡ g a)
  agree (leaf a) f g h = leaf-eq (f a) (g a) h
  agree (node l r) f g h = agree_row r f g (node-eq l l (graft_row r (λ a. leaf (f a))) (graft_row r (λ a. leaf (g a))) h).1

  pub agree_row : {A B : Type 0} (r : Row A) (f g : A → B) → graft_row r (λ a. leaf (f a)) ≡ graft_row r (λ a. leaf (g a)) → AllRow r (λ a. f a ≡ g a)
  agree_row none f g h = tt
  agree_row (more t r) f g h =
      let e = more-eq (graft t (λ a. leaf (f a))) (graft t (λ a. leaf (g a))) (graft_row r (λ a. leaf (f a))) (graft_row r (λ a. leaf (g a))) h in
      (agree t f g e.0, agree_row r f g e.1)

mutual
  pub AllLeaves-graft : {A B : Type 0} (t : Tree A) (s : A → Tree B) (P : B → Type 0) → AllLeaves t (λ a. AllLeaves (s a) P) → AllLeaves (graft t s) P
  AllLeaves-graft (leaf a) s P h = h
  AllLeaves-graft (node l r) s P h = AllRow-graft r s P h

  pub AllRow-graft : {A B : Type 0} (r : Row A) (s : A → Tree B) (P : B → Type 0) → AllRow r (λ a. AllLeaves (s a) P) → AllRow (graft_row r s) P
  AllRow-graft none s P h = tt
  AllRow-graft (more t r) s P h = (AllLeaves-graft t s P h.0, AllRow-graft r s P h.1)

mutual
  pub AllLeaves_of_graft : {A B : Type 0} (t : Tree A) (s : A → Tree B) (P : B → Type 0) → AllLeaves (graft t s) P → AllLeaves t (λ a. AllLeaves (s a) P)
  AllLeaves_of_graft (leaf a) s P h = h
  AllLeaves_of_graft (node l r) s P h = AllRow_of_graft r s P h

  pub AllRow_of_graft : {A B : Type 0} (r : Row A) (s : A → Tree B) (P : B → Type 0) → AllRow (graft_row r s) P → AllRow r (λ a. AllLeaves (s a) P)
  AllRow_of_graft none s P h = tt
  AllRow_of_graft (more t r) s P h = (AllLeaves_of_graft t s P h.0, AllRow_of_graft r s P h.1)

mutual
  -- two grafts of one tree with one outcome agree at each leaf
  pub agree_graft : {A B : Type 0} (t : Tree A) (s u : A → Tree B) → graft t s ≡ graft t u → AllLeaves t (λ a. s a ≡ u a)
  agree_graft (leaf a) s u h = h
  agree_graft (node l r) s u h = agree_graft_row r s u (node-eq l l (graft_row r s) (graft_row r u) h).1

  pub agree_graft_row : {A B : Type 0} (r : Row A) (s u : A → Tree B) → graft_row r s ≡ graft_row r u → AllRow r (λ a. s a ≡ u a)
  agree_graft_row none s u h = tt
  agree_graft_row (more t r) s u h =
      let e = more-eq (graft t s) (graft t u) (graft_row r s) (graft_row r u) h in
      (agree_graft t s u e.0, agree_graft_row r s u e.1)

map-append : {A B : Type 0} (f : A → B) (k l : List A) → map f (k ++ l) ≡ map f k ++ map f l
map-append f [] l = refl
map-append f (x ∷ k) l = ap (λ m. f x ∷ m) (map-append f k l)

mutual
  -- the leaves of a tree whose leaves are changed
  pub leaves-changed : {A B : Type 0} (t : Tree A) (f : A → B) → leaves (graft t (λ a. leaf (f a))) ≡ map f (leaves t)
  leaves-changed (leaf a) f = refl
  leaves-changed (node l r) f = leaves_row-changed r f

  leaves_row-changed : {A B : Type 0} (r : Row A) (f : A → B) → leaves_row (graft_row r (λ a. leaf (f a))) ≡ map f (leaves_row r)
  leaves_row-changed none f = refl
  leaves_row-changed (more t r) f = ap₂ (λ k l. k ++ l) (leaves-changed t f) (leaves_row-changed r f) ∙ sym (map-append f (leaves t) (leaves_row r))
