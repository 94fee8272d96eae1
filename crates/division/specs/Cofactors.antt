-- The cofactors of a chain of reductions.
use Rattle.std.specs.Prelude.{ℕ, ◌≡◌, List, [], ◌∷◌, slice_get, Some}
use Rattle.tree_store.specs.Stores.{tree_at}
use Rattle.shuffle_bases.specs.Elements.{Setting, Insertion}
use Rattle.shuffle_sums.specs.Shelves.{Shelf, HasKey}
use Rattle.division.specs.declared.cofactor.Cofactor.{Cofactor}

-- The cofactor is that of the step: its residue, its element by its position, its host, which stands in the shelf, and its place.
pub record IsOf (s : Setting) (n : ℕ) (shelf : Shelf) (x : ℕ × Insertion s n) (c : Cofactor) : Type 0 where
  pub number : c.coef ≡ x.0
  pub element : slice_get s.elements c.element ≡ Some x.1.of
  pub host : tree_at shelf.trees c.host ≡ x.1.tree
  pub key : HasKey shelf c.host
  pub place : c.place ≡ x.1.set

-- the cofactors are those of the steps, in order
abbrev pub AreOf : (s : Setting) (n : ℕ) → Shelf → List (ℕ × Insertion s n) → List Cofactor → Type 0
AreOf s n shelf [] [] = Unit {0}
AreOf s n shelf [] (c ∷ cofactors) = ⊥
AreOf s n shelf (x ∷ steps) [] = ⊥
AreOf s n shelf (x ∷ steps) (c ∷ cofactors) = IsOf s n shelf x c × AreOf s n shelf steps cofactors
