-- Terms whose residues are small and whose trees have a property.
use Rattle.std.proofs.Common.{ℕ, ◌<◌, ◌≤◌, List, [], ◌∷◌}
use Rattle.std.specs.List.{All, AllByRecursion}
use Rattle.std.proofs.lemmas.List.Elements.{All-head, All-tail}
use Rattle.modular_sums.specs.Sums.{AllTerms}
use Rattle.labelled_trees.specs.Trees.{Tree}
use Rattle.shuffle_insertions.specs.ShuffleTrees.{IsShuffleTree}
use Rattle.shuffle_sums.specs.Shelves.{Shelf}
use Rattle.shuffle_sums.specs.Sums.{AreTerms}
use Rattle.shuffle_trees.specs.LabelLists.{arity_in}

module _ {X : Type 0} (p : ℕ) (P : X → Type 0) where
  abbrev IsTerm : ℕ × X → Type 0
  IsTerm x = (x.0 < p) × P x.1

  pub small_residues : (terms : List (ℕ × X)) → All (λ x. (x.0 < p) × P x.1) terms → AllByRecursion (λ x. x.0 < p) terms
  small_residues [] h = tt
  small_residues (x ∷ terms) h = ((All-head IsTerm x terms h).0, small_residues terms (All-tail IsTerm x terms h))

  pub all_trees : (terms : List (ℕ × X)) → All (λ x. (x.0 < p) × P x.1) terms → AllTerms terms P
  all_trees [] h = tt
  all_trees (x ∷ terms) h = ((All-head IsTerm x terms h).1, all_trees terms (All-tail IsTerm x terms h))

-- small residues and trees over a shelf's labels, of an arity that fits it
pub shelf_terms : (shelf : Shelf) (p n : ℕ) (terms : List (ℕ × Tree ℕ)) → n ≤ shelf.most → All (λ x. (x.0 < p) × IsShuffleTree (arity_in shelf.labels) n x.1) terms → AreTerms shelf p terms
shelf_terms shelf p n terms le h = (small_residues p (IsShuffleTree (arity_in shelf.labels) n) terms h, (n, le, all_trees p (IsShuffleTree (arity_in shelf.labels) n) terms h))
