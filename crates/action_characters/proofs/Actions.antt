-- Labelled trees, acted on by permutations.
use Rattle.std.proofs.Common.{◌≡◌, ℕ, ◌<◌, ◌≤◌, List, ◌∙◌}
use Rattle.labelled_trees.specs.Trees.{Tree, leaf, graft}
use Rattle.labelled_trees.specs.Labelled.{IsLabelled}
use Rattle.labelled_trees.proofs.Grafts.{graft_assoc, graft_leaf}
use Rattle.shuffle_insertions.specs.Listing.{upto}
use Rattle.shuffle_transfer.specs.Orderings.{IsOrdering, entry}
use Rattle.shuffle_transfer.proofs.TransferLaw.{labelled-renamed}
use Rattle.shuffle_transfer.proofs.RelabelledIdeals.{relabelled_ext}
use Rattle.action_characters.specs.Actions.{acted}
use Rattle.action_characters.proofs.Entries.{entry-upto}

module _ (arity : ℕ → ℕ) (n : ℕ) where
  pub labelled-acted : (w : List ℕ) → IsOrdering n w → (t : Tree ℕ) → IsLabelled arity n t → IsLabelled arity n (acted w t)
  labelled-acted w o t h = labelled-renamed arity n w o t h

  -- the identity
  pub acted-upto : (t : Tree ℕ) → IsLabelled arity n t → acted (upto n) t ≡ t
  acted-upto t h = relabelled_ext arity n (entry (upto n)) (λ i. i) (entry-upto n) t h ∙ graft_leaf t

  -- one permutation after another
  pub acted-acted : (v w : List ℕ) (f : ℕ → ℕ) → ((i : ℕ) → 0 < i → i ≤ n → entry v (entry w i) ≡ f i) → (t : Tree ℕ) → IsLabelled arity n t → acted v (acted w t) ≡ graft t (λ i. leaf (f i))
  acted-acted v w f e t h = graft_assoc t (λ i. leaf (entry w i)) (λ i. leaf (entry v i)) ∙ relabelled_ext arity n (λ i. entry v (entry w i)) f e t h
