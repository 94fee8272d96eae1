-- What is found label by label.
use Rattle.std.proofs.Common.{◌≡◌, ℕ, List, [], length}
use mathlib.Core.List.{◌++◌}
use Rattle.labelled_trees.specs.Trees.{Tree}
use Rattle.shuffle_insertions.specs.Listing.{joined_below}
use Rattle.normal_listing.specs.declared.labels.Label.{Label}
use Rattle.normal_listing.specs.declared.labels.Lead.{Lead}
use Rattle.normal_listing.specs.declared.choosing.Chosen.{Chosen}
use Rattle.normal_listing.specs.declared.choosing.Tables.{Tables}
use Rattle.normal_listing.specs.declared.found.Found.{Found}
use Rattle.normal_listing.specs.Walks.{words_with}

-- The words of the labels below this one were found, and nothing is chosen.
pub record IsFinding (trees : List (Tree ℕ)) (labels : List Label) (leads : List (List Lead)) (tables : Tables) (set : ℕ) (chosen : Chosen) (old parts : List ℕ) (first found : Found) (label : ℕ) : Type 0 where
  pub words : found.words ≡ first.words ++ joined_below label (words_with trees labels leads tables set)
  pub no_ids : chosen.ids ≡ []
  pub no_words : chosen.words ≡ []
  pub room : length parts ≡ length old
