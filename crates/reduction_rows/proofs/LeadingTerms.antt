-- Sums whose first term has the coefficient 1.
use Rattle.std.proofs.Common.{◌≡◌, ℕ, ◌<◌, List, [], ◌∷◌, length, get_or, Some, ap, sym, ◌∙◌, subst, arith}
use Rattle.labelled_trees.specs.Trees.{Tree}
use Rattle.shuffle_places.specs.Places.{IsPlace}
use Rattle.tree_store.specs.Stores.{tree_at}
use Rattle.shuffle_sums.specs.Shelves.{Shelf}
use Rattle.shuffle_sums.specs.Sums.{pairs}
use Rattle.shuffle_sums.specs.declared.sum.Term.{Term}
use Rattle.common_multiples.specs.SElements.{HasLeadAt}
use Rattle.common_multiples.proofs.PlacedElements.{has_lead_at}

-- such a sum has the tree of its first term as leading tree
pub first_leads : (shelf : Shelf) (t : Tree ℕ) (place : List ℕ) (sum : List (ℕ × ℕ)) (terms : List Term) (first : Term) → pairs terms ≡ sum → 0 < length terms → first ≡ get_or terms 0 first → first.coef ≡ 1
    → IsPlace t place (tree_at shelf.trees first.tree) → HasLeadAt shelf t place sum
first_leads shelf t place sum [] first terms_are some is one at = absurd (omega (arith, some))
first_leads shelf t place sum (x ∷ terms) first terms_are some is one at =
    subst (HasLeadAt shelf t place) terms_are (has_lead_at shelf t place (pairs (x ∷ terms)) first.tree (ap (λ (c : ℕ × ℕ). Some c) (ap (λ (y : Term). (y.coef, y.tree)) (sym is) ∙ ap (λ c. (c, first.tree)) one)) at)
