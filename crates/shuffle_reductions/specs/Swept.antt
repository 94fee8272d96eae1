-- Tables of rules over positions of shuffle trees that were sorted by a setting's comparison.
use Rattle.std.specs.Prelude.{ℕ, ◌≡◌, ◌<◌, List, [], ◌∷◌, Option, Some, length, slice_get, slice_index_or}
use Rattle.modular_sums.specs.Sums.{AllTerms, Same, moved}
use Rattle.labelled_trees.specs.Trees.{Tree, leaf}
use Rattle.labelled_trees.specs.Equality.{tree_discrete}
use Rattle.shuffle_bases.specs.Elements.{Setting, IsLess, Insertion, value_of}
use Rattle.shuffle_normal_forms.specs.FreeTrees.{IsFree}
use Rattle.modular_sums.specs.RuleTables.{Table, HasRule, IsUnruled}

-- the tree at a position
abbrev pub tree_in : List (Tree ℕ) → ℕ → Tree ℕ
tree_in trees at = slice_index_or trees at (leaf 0)

-- the sum of trees that a sum over positions stands for
abbrev pub on_trees : List (Tree ℕ) → List (ℕ × ℕ) → List (ℕ × Tree ℕ)
on_trees trees e = moved (tree_in trees) e

-- each tree is less than those after it
abbrev pub RisesBy : Setting → List (Tree ℕ) → Type 0
RisesBy s trees = (j k : ℕ) → j < k → k < length trees → IsLess s (tree_in trees j) (tree_in trees k)

-- the positions of the sum are those of trees
abbrev pub IsOnPositions : List (Tree ℕ) → List (ℕ × ℕ) → Type 0
IsOnPositions trees e = AllTerms e (λ t. t < length trees)

-- The rule with this tail says of the position what the insertion is: the insertion is in the tree there, and is the same sum as this tree and the tail.
pub record IsRuleOf (s : Setting) (n : ℕ) (trees : List (Tree ℕ)) (at : ℕ) (tail : List (ℕ × ℕ)) (i : Insertion s n) : Type 0 where
  pub tree : i.tree ≡ tree_in trees at
  pub value : Same tree_discrete s.q (value_of i) (on_trees trees ((1, at) ∷ tail))

-- The table belongs to rising trees, with an insertion for each position that has a rule: the rule is that of the insertion,
-- its tail is on lower positions, and the tree of a position without a rule is free.
pub record IsTableOver (s : Setting) (n : ℕ) (trees : List (Tree ℕ)) (insertions : List (Option (Insertion s n))) (table : Table) : Type 0 where
  pub rises : RisesBy s trees
  pub sized : length table ≡ length trees
  pub aligned : length insertions ≡ length trees
  pub lower : (at : ℕ) (tail : List (ℕ × ℕ)) → HasRule table at tail → AllTerms tail (λ t. t < at)
  pub ruled : (at : ℕ) (tail : List (ℕ × ℕ)) → HasRule table at tail → (i : Insertion s n) × (slice_get insertions at ≡ Some (Some i)) × IsRuleOf s n trees at tail i
  pub free : (at : ℕ) → IsUnruled table at → IsFree s (tree_in trees at)

-- the uses are the numbers of the steps with the insertions of their positions
abbrev pub AreUses : {s : Setting} {n : ℕ} → List (Option (Insertion s n)) → List (ℕ × ℕ) → List (ℕ × Insertion s n) → Type 0
AreUses insertions [] [] = Unit {0}
AreUses insertions [] (u ∷ uses) = ⊥
AreUses insertions (x ∷ steps) [] = ⊥
AreUses insertions (x ∷ steps) (u ∷ uses) = (u.0 ≡ x.0) × (slice_get insertions x.1 ≡ Some (Some u.1)) × AreUses insertions steps uses
