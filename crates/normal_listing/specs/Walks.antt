-- What the choice of inputs reads and finds.
use Rattle.std.specs.Prelude.{ℕ, ◌≡◌, ◌<◌, ◌≤◌, List, length, map}
use Rattle.std.specs.List.{All, filter}
use Rattle.labelled_trees.specs.Trees.{Tree}
use Rattle.tree_store.specs.Stores.{tree_at}
use Rattle.normal_listing.specs.declared.labels.Label.{Label}
use Rattle.normal_listing.specs.declared.labels.Lead.{Lead}
use Rattle.normal_listing.specs.declared.found.Found.{Found}
use Rattle.normal_listing.specs.declared.choosing.Tables.{Tables}
use Rattle.normal_listing.specs.declared.choosing.Root.{Root}
use Rattle.normal_listing.specs.Choices.{ArePartsBelow, choices, entry}
use Rattle.normal_listing.specs.Vertices.{generator_of, passes, spelling, vertex, word_of, IsShuffleLead}
use Rattle.normal_listing.specs.Found.{AddsChosen}

-- the words are those of the trees with these ids
abbrev pub AreWordsOf : List (Tree ℕ) → List Label → List ℕ → List (List ℕ) → Type 0
AreWordsOf trees labels ids words = words ≡ map (λ id. spelling labels (tree_at trees id)) ids

-- each set has the words of its trees, and its parts are sets with trees
pub record AreTables (trees : List (Tree ℕ)) (labels : List Label) (tables : Tables) : Type 0 where
  pub same : length tables.words.now ≡ length tables.ids.now
  pub more : length tables.ids.now ≤ length tables.parted.now
  pub some : 0 < length tables.ids.now
  pub words : (n : ℕ) → AreWordsOf trees labels (entry tables.ids.now n) (entry tables.words.now n)
  pub parts : ArePartsBelow (length tables.ids.now) tables.parted.now

-- the label is one of the labels, and the leads are shuffle trees
pub record IsRoot (root : Root) : Type 0 where
  pub label : root.label < length root.labels.now
  pub generator : generator_of root.labels.now root.label < 22
  pub leads : All (IsShuffleLead root.store.now) root.leads.now

-- the vertices with these inputs, as far as no lead divides them at the root, were put behind what was found
abbrev pub Offers : Root → List (List ℕ) → Found → Found → Type 0
Offers root choices old new = AddsChosen (passes root.store.now root.leads.now root.label) (λ ids. spelling root.labels.now (vertex root.store.now root.label ids)) choices old new

-- the words of the vertices with this label over a set, with inputs from the tables, that no lead of the label divides at the root
abbrev pub words_with : List (Tree ℕ) → List Label → List (List Lead) → Tables → ℕ → ℕ → List (List ℕ)
words_with trees labels leads tables set l =
    map (λ ids. spelling labels (vertex trees l ids)) (filter (passes trees (entry leads l) l) (choices tables.ids.now tables.parted.now (length (word_of labels l)) set))
