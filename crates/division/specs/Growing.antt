-- A cone when an element is found.
use Rattle.std.specs.Prelude.{ℕ, List, [], ◌∷◌, ◌++◌}
use Rattle.labelled_trees.specs.Trees.{Tree}
use Rattle.shuffle_bases.specs.Elements.{Element, Setting, AreMonic}
use Rattle.shuffle_reductions.specs.Extensions.{with_elements as with_elements}
use Rattle.shuffle_reductions.specs.TableGrowth.{IsElementAtPosition}
use Rattle.division.specs.Cones.{trees_of, IsConeOver}
use Rattle.division.specs.declared.cones.Cone.{Cone}

-- the setting with one element more
abbrev pub with_one : Setting → Element → Setting
with_one s g = with_elements s (s.elements ++ (g ∷ []))

-- Over each setting for which the cone was, it is one for the setting with an element more, whose lead is the tree of the position and whose tail this is.
abbrev pub GrowsByElement : Cone → Cone → ℕ → List (ℕ × ℕ) → Type 0
GrowsByElement old new at tail = (s : Setting) (n : ℕ) (trees : List (Tree ℕ)) → IsConeOver s n trees old → AreMonic s
    → (g : Element) → AreMonic (with_one s g) → IsElementAtPosition s n (trees_of trees old) at tail g → IsConeOver (with_one s g) n trees new
