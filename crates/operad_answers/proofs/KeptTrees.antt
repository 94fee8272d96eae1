-- Sums with those of their terms alone that are on shuffle trees of an arity.
use Rattle.std.proofs.Common.{Bool, true, false, ◌≡◌, ℕ, List, [], ◌∷◌, refl, ◌∙◌, ap}
use Rattle.modular_sums.specs.Lists.{has_by}
use Rattle.modular_sums.specs.Sums.{AllTerms}
use Rattle.modular_sums.proofs.Lists.{has_by_mem, mem_has_by}
use Rattle.labelled_trees.specs.Trees.{Tree}
use Rattle.labelled_trees.specs.Equality.{tree_discrete}
use Rattle.shuffle_insertions.specs.ShuffleTrees.{IsShuffleTree}
use Rattle.shuffle_insertions.specs.Listing.{all_trees}
use Rattle.shuffle_insertions.proofs.Laws.{listed}
use Rattle.operad_ideals.specs.Presentations.{Presentation, IsWide}
use Rattle.shuffle_transfer.specs.Labels.{labels, inputs_of}
use Rattle.shuffle_transfer.proofs.Labels.{are_labels}

abbrev Sum : Type 0
Sum = List (ℕ × Tree ℕ)

abbrev keep_if : Bool → ℕ × Tree ℕ → Sum → Sum
keep_if true x l = x ∷ l
keep_if false x l = l

module _ (p : Presentation) (wide : IsWide p) (n : ℕ) where
  there : Tree ℕ → Bool
  there t = has_by tree_discrete (all_trees (labels p.generators) (inputs_of p.generators) n) t

  pub keep : Sum → Sum
  keep [] = []
  keep (x ∷ l) = keep_if (there x.1) x (keep l)

  pub keep_valid : (l : Sum) → AllTerms (keep l) (IsShuffleTree (inputs_of p.generators) n)
  unfolding keep there
  keep_valid [] = tt
  keep_valid (x ∷ l) = go (there x.1) refl (keep_valid l)
    where
      go : (b : Bool) → there x.1 ≡ b → AllTerms (keep l) (IsShuffleTree (inputs_of p.generators) n) → AllTerms (keep_if b x (keep l)) (IsShuffleTree (inputs_of p.generators) n)
      go true e h = ((listed (labels p.generators) (inputs_of p.generators) (are_labels p wide) n).0.only x.1 (has_by_mem tree_discrete (all_trees (labels p.generators) (inputs_of p.generators) n) x.1 e), h)
      go false e h = h

  pub keep_same : (l : Sum) → AllTerms l (IsShuffleTree (inputs_of p.generators) n) → keep l ≡ l
  unfolding keep there
  keep_same [] h = refl
  keep_same (x ∷ l) h =
      ap (λ b. keep_if b x (keep l)) (mem_has_by tree_discrete (all_trees (labels p.generators) (inputs_of p.generators) n) x.1 ((listed (labels p.generators) (inputs_of p.generators) (are_labels p wide) n).0.each x.1 h.0))
      ∙ ap (λ m. x ∷ m) (keep_same l h.1)
