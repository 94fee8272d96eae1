-- Rows of a cone: sums over the ids of its trees, and over its positions.
use Rattle.std.specs.Prelude.{ℕ, ◌≡◌, ◌<◌, ◌+◌, Bool, List, ◌++◌, length, slice_get, slice_index, Some, Option, Result, Ok, Err}
use Rattle.std.proofs.Common.{suc}
use Rattle.std.specs.Ordering.{nat_cmp}
use Rattle.modular_sums.specs.Sums.{AllTerms, moved}
use Rattle.labelled_trees.specs.Trees.{Tree}
use Rattle.shuffle_bases.specs.Elements.{Setting, Insertion}
use Rattle.shuffle_reductions.specs.Chains.{HasNoZeros, IsChain, IsFinished, IsStopped}
use Rattle.modular_sums.specs.Falling.{IsFalling}
use Rattle.tree_store.specs.Stores.{tree_at}
use Rattle.shuffle_sums.specs.Sums.{pairs as ids_of}
use Rattle.shuffle_sums.specs.declared.sum.Term.{Term as IdTerm}
use Rattle.row_sweeps.specs.Counts.{Count}
use Rattle.row_sweeps.specs.Visits.{kept}
use Rattle.shuffle_reductions.specs.Swept.{AreUses}
use Rattle.division.specs.Cones.{IsConeOver}
use Rattle.division.specs.declared.cones.Cone.{Cone}
use Rattle.division.specs.declared.rows.RowFail.{RowFail}
use Rattle.division.specs.declared.rows.RowFail.TheVariants.{Spent, NoMemory}

-- the id of a position
abbrev pub id_at : Cone → ℕ → ℕ
id_at cone p = slice_index cone.ids (slice_index cone.order.items p)

-- the id has a place in the cone
abbrev pub IsInCone : Cone → ℕ → Type 0
IsInCone cone id = (k : ℕ) × (slice_get cone.ids k ≡ Some id)

-- The sum over positions is the sum over ids.
pub record IsSumAtPlaces (cone : Cone) (sum placed : List (ℕ × ℕ)) : Type 0 where
  pub same : moved (id_at cone) placed ≡ sum
  pub within : AllTerms placed (λ t. t < length cone.ids)

-- A chain leads from the sum of ids to another, which falls and has no zeros; its steps, at positions of the cone, were counted,
-- and logged where `keep` is true.
pub record LeadsTo (s : Setting) (n : ℕ) (trees : List (Tree ℕ)) (insertions : List (Option (Insertion s n))) (sum row : List (ℕ × ℕ)) (before after : ℕ) (keep : Bool) (log now : List (ℕ × ℕ)) : Type 0 where
  pub steps : List (ℕ × ℕ)
  pub uses : List (ℕ × Insertion s n)
  pub are_uses : AreUses insertions steps uses
  pub chain : IsChain s n (moved (tree_at trees) sum) uses (moved (tree_at trees) row)
  pub counted : after ≡ before + length steps
  pub logged : now ≡ log ++ kept keep steps
  pub falls : IsFalling s.compare (suc s.q) (moved (tree_at trees) row)
  pub no_zeros : HasNoZeros s.q (moved (tree_at trees) row)

-- the chain led to the rest and is finished
abbrev pub IsRest : List (ℕ × ℕ) → Cone → Count → Count → Bool → List (ℕ × ℕ) → List (ℕ × ℕ) → List IdTerm → Type 0
IsRest sum cone before after keep log now rest = (s : Setting) (n : ℕ) (trees : List (Tree ℕ)) (h : IsConeOver s n trees cone)
    → LeadsTo s n trees h.insertions sum (ids_of rest) before.count after.count keep log now × IsFinished s (moved (tree_at trees) (ids_of rest))

-- The chain led to what stands for these terms at positions, which fall, and is finished.
pub record IsRestAt (sum : List (ℕ × ℕ)) (cone : Cone) (before after : Count) (keep : Bool) (log now placed : List (ℕ × ℕ)) : Type 0 where
  pub falls : IsFalling nat_cmp (suc cone.table.q) placed
  pub within : AllTerms placed (λ t. t < length cone.ids)
  pub leads : (s : Setting) (n : ℕ) (trees : List (Tree ℕ)) (h : IsConeOver s n trees cone)
      → LeadsTo s n trees h.insertions sum (moved (id_at cone) placed) before.count after.count keep log now × IsFinished s (moved (tree_at trees) (moved (id_at cone) placed))

-- the chain led to the row and is stopped, with the count at the bound; want of memory says nothing
abbrev pub IsRowRefusal : List (ℕ × ℕ) → Cone → Count → Count → Bool → List (ℕ × ℕ) → List (ℕ × ℕ) → RowFail → Type 0
IsRowRefusal sum cone before after keep log now (Spent row) = (after.count ≡ after.bound) × ((s : Setting) (n : ℕ) (trees : List (Tree ℕ)) (h : IsConeOver s n trees cone)
    → LeadsTo s n trees h.insertions sum (ids_of row) before.count after.count keep log now × IsStopped s (moved (tree_at trees) (ids_of row)))
IsRowRefusal sum cone before after keep log now NoMemory = Unit {0}

-- the row is 0, unless memory ran out
abbrev pub IsRowCleared : {T : Type 0} → Result T RowFail → List ℕ → Type 0
IsRowCleared (Ok rest) row = (t : ℕ) → slice_index row t ≡ 0
IsRowCleared (Err (Spent left)) row = (t : ℕ) → slice_index row t ≡ 0
IsRowCleared (Err NoMemory) row = Unit {0}
