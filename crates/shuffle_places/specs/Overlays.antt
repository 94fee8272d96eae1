-- The shapes that a small common multiple can have.
use Rattle.std.specs.Prelude.{ℕ, ◌≡◌, List, [], ◌∷◌, ◌++◌, map}
use Rattle.std.proofs.Common.{refl}
use Rattle.labelled_trees.specs.Equality.{tree_discrete_by}
use Rattle.labelled_trees.specs.Trees.{Tree, Row, leaf, node, none, more, graft, graft_row}
use Rattle.labelled_trees.specs.Unions.{union}

-- the tree without its leaf numbers
abbrev pub shape : {A : Type 0} → Tree A → Tree (Unit {0})
shape t = graft t (λ a. leaf tt)

-- the same for a row
abbrev pub shape_row : {A : Type 0} → Row A → Row (Unit {0})
shape_row r = graft_row r (λ a. leaf tt)

-- b laid over a at each vertex of a
abbrev mutual
  pub overlays : {X : Type 0} → Tree X → Tree X → List (Tree X)
  overlays (leaf x) b = []
  overlays (node l r) b = union (node l r) b ∷ map (node l) (overlays_row r b)

  pub overlays_row : {X : Type 0} → Row X → Tree X → List (Row X)
  overlays_row none b = []
  overlays_row (more t r) b = map (λ x. more x r) (overlays t b) ++ map (more t) (overlays_row r b)

-- candidates for the shapes of the small common multiples of a and b; which of their numberings are, is tested
abbrev pub shapes_of : Tree ℕ → Tree ℕ → List (Tree (Unit {0}))
shapes_of a b = overlays (shape a) (shape b) ++ overlays (shape b) (shape a)

-- any two units are one
unfoldable pub one_unit : (a b : Unit {0}) → Dec (a ≡ b)
one_unit a b = yes refl

-- whether two shapes are one
unfoldable pub shape_discrete : (t u : Tree (Unit {0})) → Dec (t ≡ u)
unfolding one_unit
shape_discrete = tree_discrete_by one_unit
