-- What is found among choices.
use Rattle.std.specs.Prelude.{ℕ, ◌≡◌, Bool, List, ◌++◌, map}
use Rattle.std.specs.List.{concat, filter}
use Rattle.normal_listing.specs.declared.found.Found.{Found}

-- Those of the choices that pass the test were put behind what was found before, with what the word is for each.
pub record AddsChosen (test : List ℕ → Bool) (word : List ℕ → List ℕ) (choices : List (List ℕ)) (old new : Found) : Type 0 where
  pub inputs : new.inputs ≡ old.inputs ++ concat (filter test choices)
  pub words : new.words ≡ old.words ++ map word (filter test choices)
