-- Relabelling elements of arity 3 can be undone.
use Rattle.std.proofs.Common.{◌≡◌, ◌<◌, ◌≤◌, ℕ, List, [], ◌∷◌, refl}
use mathlib.Core.Path.{ap₂}
use Rattle.modular_sums.specs.Sums.{AllTerms}
use Rattle.labelled_trees.specs.Trees.{Tree}
use Rattle.labelled_trees.specs.Labelled.{IsLabelled}
use Rattle.shuffle_transfer.specs.Orderings.{entry}
use Rattle.shuffle_transfer.specs.Transfer.{relabelled}
use Rattle.quadratic_pairing.proofs.Relabelling.{renamed_back}

-- relabelling an element of arity 3 can be undone
pub relabelled_back : (arity : ℕ → ℕ) (v w : List ℕ) → ((i : ℕ) → 0 < i → i ≤ 3 → entry v (entry w i) ≡ i) → (e : List (ℕ × Tree ℕ)) → AllTerms e (IsLabelled arity 3) → relabelled v (relabelled w e) ≡ e
relabelled_back arity v w u [] h = refl
relabelled_back arity v w u (x ∷ e) h = ap₂ (λ t l. (x.0, t) ∷ l) (renamed_back arity v w u x.1 h.0) (relabelled_back arity v w u e h.1)
