-- Tables when an element is found on the way, or another takes its place.
use Rattle.std.specs.Prelude.{ℕ, ◌≡◌, ◌≢◌, ◌<◌, List, [], ◌∷◌, ◌++◌, Option, Some, length, slice_get, slice_set}
use Rattle.std.proofs.Common.{◌⊎◌}
use Rattle.modular_sums.specs.Lists.{Mem}
use Rattle.modular_sums.specs.Sums.{AllTerms, Same}
use Rattle.labelled_trees.specs.Trees.{Tree}
use Rattle.labelled_trees.specs.Equality.{tree_discrete}
use Rattle.shuffle_insertions.specs.ShuffleTrees.{IsShuffleTree}
use Rattle.shuffle_insertions.specs.Orders.{IsTreeOrder}
use Rattle.shuffle_bases.specs.Elements.{Element, Setting, AreMonic, Insertion}
use Rattle.shuffle_reductions.specs.Extensions.{with_elements as with_elements}
use Rattle.modular_sums.specs.RuleTables.{Table}
use Rattle.shuffle_reductions.specs.Swept.{tree_in, on_trees, IsTableOver}

-- the two insertions are of one element at one place of one tree
pub record AreOneInsertion {s t : Setting} {n : ℕ} (i : Insertion s n) (j : Insertion t n) : Type 0 where
  pub of : i.of ≡ j.of
  pub tree : i.tree ≡ j.tree
  pub set : i.set ≡ j.set

-- The element is of arity n, its leading tree is that of the position, and its tail is this one.
pub record IsElementAtPosition (s : Setting) (n : ℕ) (trees : List (Tree ℕ)) (at : ℕ) (tail : List (ℕ × ℕ)) (g : Element) : Type 0 where
  pub arity : g.arity ≡ n
  pub lead : g.lead ≡ tree_in trees at
  pub tail_there : Same tree_discrete s.q g.tail (on_trees trees tail)
  pub lower : AllTerms tail (λ t. t < at)

-- What becomes of a table over trees when its elements become those of a list, where the element g gives the position this tail:
-- the table with the tail is one over the trees, with the insertions as before at the other positions, and one of g.
pub record IsChanged (s : Setting) (l : List Element) (n : ℕ) (trees : List (Tree ℕ)) (insertions : List (Option (Insertion s n))) (table : Table) (g : Element) (at : ℕ) (tail : List (ℕ × ℕ)) : Type 0 where
  pub insertions_now : List (Option (Insertion (with_elements s l) n))
  pub over_trees : IsTableOver (with_elements s l) n trees insertions_now (slice_set table at (Some tail))
  pub kept : (k : ℕ) (i : Insertion s n) → k ≢ at → k < length trees → i.tree ≡ tree_in trees k → slice_get insertions k ≡ Some (Some i)
      → (j : Insertion (with_elements s l) n) × (slice_get insertions_now k ≡ Some (Some j)) × AreOneInsertion i j
  pub added : (j : Insertion (with_elements s l) n) × (slice_get insertions_now at ≡ Some (Some j)) × (j.of ≡ g)

-- each tree is a shuffle tree of arity n over the labels
abbrev pub AreValid : Setting → ℕ → List (Tree ℕ) → Type 0
AreValid s n trees = (k : ℕ) → k < length trees → IsShuffleTree s.arity n (tree_in trees k)

-- A table over trees changes with the elements: the list has g, all elements but such of arity n with the leading tree of g, and no others.
abbrev pub TablesChange : Type 0
TablesChange = (s : Setting) → IsTreeOrder s.arity s.compare → AreMonic s
    → (n : ℕ) (trees : List (Tree ℕ)) (insertions : List (Option (Insertion s n))) (table : Table) → IsTableOver s n trees insertions table → AreValid s n trees
    → (l : List Element) → AreMonic (with_elements s l)
    → (at : ℕ) → at < length trees → (g : Element) → Mem g l → (tail : List (ℕ × ℕ)) → IsElementAtPosition s n trees at tail g
    → ((h : Element) → Mem h s.elements → Mem h l ⊎ ((h.arity ≡ n) × (h.lead ≡ tree_in trees at))) → ((h : Element) → Mem h l → Mem h s.elements ⊎ (h ≡ g))
    → IsChanged s l n trees insertions table g at tail

-- A table over trees grows with each element that is found.
abbrev pub TablesGrow : Type 0
TablesGrow = (s : Setting) → IsTreeOrder s.arity s.compare → AreMonic s
    → (n : ℕ) (trees : List (Tree ℕ)) (insertions : List (Option (Insertion s n))) (table : Table) → IsTableOver s n trees insertions table → AreValid s n trees
    → (g : Element) → AreMonic (with_elements s (s.elements ++ (g ∷ [])))
    → (at : ℕ) → at < length trees → (tail : List (ℕ × ℕ)) → IsElementAtPosition s n trees at tail g
    → IsChanged s (s.elements ++ (g ∷ [])) n trees insertions table g at tail
