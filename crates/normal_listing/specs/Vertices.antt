-- Vertices that are made of the ids of their inputs, and what is asked of them.
use Rattle.std.specs.Prelude.{ℕ, ◌-◌, ◌<◌, ◌≤◌, Bool, List, [], length, map, slice_index_or}
use Rattle.std.specs.List.{All}
use Rattle.labelled_trees.specs.Trees.{Tree, node, row, IsNode}
use Rattle.shuffle_insertions.specs.ShuffleTrees.{IsShuffle}
use Rattle.shuffle_places.specs.RootPlaces.{IsShuffleAmong}
use Rattle.shuffle_bases.specs.Elements.{Element}
use Rattle.shuffle_normal_forms.specs.FreeTreeLists.{undivided}
use Rattle.shuffle_transfer.specs.ShuffleForms.{to_symmetric}
use Rattle.normal_listing.specs.Words.{symbols}
use Rattle.tree_store.specs.Stores.{tree_at}
use Rattle.normal_listing.specs.declared.labels.Label.{Label}
use Rattle.normal_listing.specs.declared.labels.Lead.{Lead}

-- the generator of a label, and its word; none for other numbers
abbrev pub generator_of : List Label → ℕ → ℕ
generator_of labels l = slice_index_or (map (λ x. x.generator) labels) l 0

abbrev pub word_of : List Label → ℕ → List ℕ
word_of labels l = slice_index_or (map (λ x. x.order) labels) l []

-- the word of the symmetric tree of a shuffle tree over the labels
abbrev pub spelling : List Label → Tree ℕ → List ℕ
spelling labels t = symbols (to_symmetric (generator_of labels) (word_of labels) t)

-- the vertex with this label and these inputs
abbrev pub vertex : List (Tree ℕ) → ℕ → List ℕ → Tree ℕ
vertex trees l ids = node l (row (map (tree_at trees) ids))

-- the element with this leading tree; its tail doesn't matter here
abbrev pub element : List (Tree ℕ) → Lead → Element
element trees lead = record { arity = lead.arity; lead = tree_at trees lead.id; tail = [] }

-- whether none of these leads divides the vertex at its root
abbrev pub passes : List (Tree ℕ) → List Lead → ℕ → List ℕ → Bool
passes trees leads l ids = undivided (map (element trees) leads) (vertex trees l ids)

-- the leads are shuffle trees of their arities with a vertex, held by the store
pub record IsShuffleLead (trees : List (Tree ℕ)) (lead : Lead) : Type 0 where
  pub held : lead.id < length trees
  pub valid : IsShuffle lead.arity (tree_at trees lead.id)
  pub vertex : IsNode (tree_at trees lead.id)

-- The inputs are held, the vertex is a shuffle tree, its word isn't too long, and the word of the label has only numbers of inputs.
pub record IsVertex (trees : List (Tree ℕ)) (labels : List Label) (l : ℕ) (ids : List ℕ) : Type 0 where
  pub held : All (λ id. id < length trees) ids
  pub among : IsShuffleAmong 255 (vertex trees l ids)
  pub short : length (spelling labels (vertex trees l ids)) ≤ 25
  pub numbers : All (λ i. (0 < i) × (i ≤ length ids)) (word_of labels l)

-- the list with this number, counted from 1
abbrev pub numbered : List (List ℕ) → ℕ → List ℕ
numbered lists i = slice_index_or lists (i - 1) []
