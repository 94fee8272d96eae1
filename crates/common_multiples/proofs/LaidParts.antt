-- The parts of a tree on which a pattern lies.
use Rattle.std.proofs.Common.{◌≡◌, ℕ, suc, ◌+◌, ◌<◌, ◌≤◌, List, [], ◌∷◌, sym, ◌∙◌, ap, arith, subst, refl, inl}
use Rattle.std.specs.Prelude.{slice_index}
use mathlib.Core.Path.{ap₂}
use mathlib.Core.List.{◌++◌}
use Rattle.modular_sums.specs.Lists.{Mem}
use Rattle.labelled_trees.specs.Trees.{Tree, Row, leaf, node, none, more, graft, join, vertices}
use Rattle.labelled_trees.specs.Leaves.{AllLeaves}
use Rattle.labelled_trees.proofs.Factors.{factor}
use Rattle.labelled_trees.proofs.Grafts.{graft_assoc}
use Rattle.labelled_trees.proofs.GraftLeaves.{agree}
use Rattle.labelled_trees.proofs.Leaves.{at_leaf}
use Rattle.shuffle_insertions.specs.ShuffleTrees.{least, IsShuffle}
use Rattle.shuffle_insertions.proofs.LabelSums.{once_of}
use Rattle.shuffle_places.specs.AllPlaces.{lay}
use Rattle.shuffle_places.specs.Cuts.{numbers, numbers_row}
use Rattle.shuffle_places.proofs.AllPlaces.{lay_joins}
use Rattle.shuffle_places.proofs.Frames.{numbers-graft}
use Rattle.shuffle_places.proofs.Overlays.{vertices-named}
use Rattle.tree_divisors.specs.Laying.{IsLaid, numbers_at}

-- The pattern a with parts at its leaves is the tree; the table has the least leaf of each part.
pub record HasParts (m : ℕ) (table : List ℕ) (a tree : Tree ℕ) : Type 0 where
  pub parts : ℕ → Tree ℕ
  pub laid : lay a tree ≡ graft a (λ i. leaf (parts i)) ∷ []
  pub tree_is : tree ≡ graft a parts
  pub leasts : (i : ℕ) → 0 < i → i ≤ m → slice_index table i ≡ least (parts i)
  pub numbers_are : (k : ℕ) → numbers_at k (lay a tree) ≡ numbers parts k a

pub parts_laid : (m : ℕ) (before table : List ℕ) (a tree : Tree ℕ) → IsShuffle m a → IsLaid before table a tree → HasParts m table a tree
parts_laid m before table a tree valid laid = record {
  parts = found.0;
  laid = laid_is;
  tree_is = sym (lay_joins a tree laid.pattern_at (subst (Mem laid.pattern_at) (sym laid.laid) (inl refl))).0 ∙ ap join found.1 ∙ graft_assoc a (λ i. leaf (found.0 i)) (λ v. v);
  leasts = λ i p le. sym (at_leaf a (λ j. least (found.0 j) ≡ slice_index table j) i same (let e : _ ≡ 1 = valid.each i p le in omega (arith, e)));
  numbers_are = λ k. ap (numbers_at k) laid_is ∙ numbers-graft a found.0 (λ v. v) k;
}
  where
    found : (f : ℕ → Tree ℕ) × (laid.pattern_at ≡ graft a (λ i. leaf (f i)))
    found = factor a laid.pattern_at least (slice_index table) (leaf 0) (once_of m a valid) laid.reads

    laid_is : lay a tree ≡ graft a (λ i. leaf (found.0 i)) ∷ []
    laid_is = laid.laid ∙ ap (λ q. q ∷ []) found.1

    same : AllLeaves a (λ i. least (found.0 i) ≡ slice_index table i)
    same = agree a (λ i. least (found.0 i)) (slice_index table)
        (sym (graft_assoc a (λ i. leaf (found.0 i)) (λ v. leaf (least v))) ∙ ap (λ q. graft q (λ v. leaf (least v))) (sym found.1) ∙ laid.reads)

mutual
  -- the numbers of the vertices don't depend on the leaves of the parts
  pub numbers-named : {X : Type 0} (parts : X → Tree ℕ) (name : ℕ → ℕ) (k : ℕ) (a : Tree X) → numbers (λ i. graft (parts i) (λ j. leaf (name j))) k a ≡ numbers parts k a
  numbers-named parts name k (leaf i) = refl
  numbers-named parts name k (node l r) = ap (λ s. k ∷ s) (numbers_row-named parts name (suc k) r)

  pub numbers_row-named : {X : Type 0} (parts : X → Tree ℕ) (name : ℕ → ℕ) (k : ℕ) (r : Row X) → numbers_row (λ i. graft (parts i) (λ j. leaf (name j))) k r ≡ numbers_row parts k r
  numbers_row-named parts name k none = refl
  numbers_row-named parts name k (more t r) =
      ap₂ (λ s z. s ++ z) (numbers-named parts name k t)
      (ap (λ m. numbers_row (λ i. graft (parts i) (λ j. leaf (name j))) (k + m) r)
      (ap vertices (sym (graft_assoc t parts (λ j. leaf (name j)))) ∙ vertices-named (graft t parts) name)
      ∙ numbers_row-named parts name (k + vertices (graft t parts)) r)
