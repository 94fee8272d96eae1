-- What holds while inputs are chosen.
use Rattle.std.proofs.Common.{◌≡◌, ℕ, List, length, map}
use mathlib.Core.List.{◌++◌}
use Rattle.normal_listing.specs.declared.choosing.Chosen.{Chosen}
use Rattle.normal_listing.specs.declared.choosing.Root.{Root}
use Rattle.normal_listing.specs.declared.found.Found.{Found}
use Rattle.normal_listing.specs.Walks.{Offers}

-- These choices were offered, and the chosen inputs are as before.
pub record IsWalking (root : Root) (choices : List (List ℕ)) (before chosen : Chosen) (old parts : List ℕ) (first found : Found) : Type 0 where
  pub added : Offers root (map (λ l. before.ids ++ l) choices) first found
  pub same : chosen ≡ before
  pub room : length parts ≡ length old
