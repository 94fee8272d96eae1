-- The symmetric tree of a tree with other leaves.
use Rattle.std.proofs.Common.{◌≡◌, ℕ, zero, suc, List, [], ◌∷◌, map, refl, ap, sym, ◌∙◌}
use mathlib.Core.Path.{ap₂}
use Rattle.labelled_trees.specs.Trees.{Tree, Row, leaf, node, none, more, row, graft_row, map_tree}
use Rattle.labelled_trees.specs.Insertions.{item}
use Rattle.shuffle_transfer.specs.ShuffleForms.{to_symmetric, to_symmetric_row}
use Rattle.shuffle_transfer.specs.OtherLeaves.{OtherLeaves}

module _ (gen : ℕ → ℕ) (word : ℕ → List ℕ) (f : ℕ → ℕ) (keeps : f 0 ≡ 0) where
  item_renamed : (ts : List (Tree ℕ)) (i : ℕ) → item (map (map_tree f) ts) i ≡ map_tree f (item ts i)
  item_renamed [] i = ap leaf (sym keeps)
  item_renamed (t ∷ ts) zero = ap leaf (sym keeps)
  item_renamed (t ∷ ts) (suc zero) = refl
  item_renamed (t ∷ ts) (suc (suc i)) = item_renamed ts (suc i)

  row_renamed : (g h : ℕ → Tree ℕ) → ((i : ℕ) → g i ≡ map_tree f (h i)) → (w : List ℕ) → row (map g w) ≡ graft_row (row (map h w)) (λ i. leaf (f i))
  row_renamed g h e [] = refl
  row_renamed g h e (i ∷ w) = ap₂ more (e i) (row_renamed g h e w)

  mutual
    tree_renamed : (t : Tree ℕ) → to_symmetric gen word (map_tree f t) ≡ map_tree f (to_symmetric gen word t)
    tree_renamed (leaf n) = refl
    tree_renamed (node l r) =
        ap (node (gen l))
        (row_renamed (item (to_symmetric_row gen word (graft_row r (λ i. leaf (f i))))) (item (to_symmetric_row gen word r))
        (λ i. ap (λ ts. item ts i) (trees_renamed r) ∙ item_renamed (to_symmetric_row gen word r) i) (word l))

    trees_renamed : (r : Row ℕ) → to_symmetric_row gen word (graft_row r (λ i. leaf (f i))) ≡ map (map_tree f) (to_symmetric_row gen word r)
    trees_renamed none = refl
    trees_renamed (more t r) = ap₂ (λ u us. u ∷ us) (tree_renamed t) (trees_renamed r)

pub other_leaves : OtherLeaves
other_leaves = tree_renamed
