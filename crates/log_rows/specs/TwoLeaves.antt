-- Two leaves, and what there is on their sets.
use Rattle.std.specs.Prelude.{ℕ, ◌≡◌, ◌<◌, List, [], ◌∷◌, length}
use Rattle.labelled_trees.specs.Trees.{Tree, leaf, node, row}
use Rattle.tree_store.specs.Stores.{tree_at, IsStore}
use Rattle.normal_listing.specs.declared.parts.Part.{Part}
use Rattle.normal_listing.specs.declared.labels.Label.{Label}
use Rattle.log_rows.specs.declared.vertices.Corolla.{Corolla}
use Rattle.log_rows.specs.declared.vertices.TwoLeaves.{TwoLeaves}

-- nothing, and then each of two things alone
abbrev pub each_of : {X : Type 0} → X → X → List (List X)
each_of x y = [] ∷ (x ∷ []) ∷ (y ∷ []) ∷ []

-- the sets of two leaves, of which that of both is parted
abbrev pub both_parts : List (List Part)
both_parts = [] ∷ [] ∷ [] ∷ (record { own = 1; others = 2 } ∷ []) ∷ []

-- the labels of a generator with two inputs of no symmetry
abbrev pub both_labels : ℕ → List Label
both_labels generator = record { generator = generator; order = 1 ∷ 2 ∷ [] } ∷ record { generator = generator; order = 2 ∷ 1 ∷ [] } ∷ []

-- the tree with this id is this vertex, whose inputs are two leaves
pub record IsCorolla (trees : List (Tree ℕ)) (id : ℕ) (corolla : Corolla) : Type 0 where
  pub is : tree_at trees id ≡ node corolla.label (row (leaf corolla.first_leaf ∷ leaf corolla.second_leaf ∷ []))
  pub held : (corolla.first < length trees) × (corolla.second < length trees)
  pub first : tree_at trees corolla.first ≡ leaf corolla.first_leaf
  pub second : tree_at trees corolla.second ≡ leaf corolla.second_leaf
  pub some : (0 < corolla.first_leaf) × (0 < corolla.second_leaf)
  pub small : (corolla.first_leaf < 10) × (corolla.second_leaf < 10)

-- what there is on the sets of the leaves of this vertex
pub record AreTwoLeaves (corolla : Corolla) (held : TwoLeaves) : Type 0 where
  pub ids : held.ids.items ≡ each_of corolla.first corolla.second
  pub words : held.words.items ≡ each_of (corolla.first_leaf ∷ []) (corolla.second_leaf ∷ [])
  pub parted : held.parted.items ≡ both_parts

-- these are the leaves of a vertex of the store
pub record HasCorolla (trees : List (Tree ℕ)) (held : TwoLeaves) : Type 0 where
  pub id : ℕ
  pub within : id < length trees
  pub store : IsStore trees
  pub corolla : Corolla
  pub is : IsCorolla trees id corolla
  pub leaves : AreTwoLeaves corolla held
