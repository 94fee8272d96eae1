-- Starts that leave each leaf where it is.
use Rattle.std.proofs.Common.{◌≡◌, ℕ, suc, ◌%◌, ◌-◌, ◌<◌, ◌≤◌, List, [], ◌∷◌, refl, ap, ap₂, ◌∙◌}
use Rattle.modular_sums.specs.Sums.{coef, AllTerms}
use Rattle.labelled_trees.specs.Trees.{Tree, leaf, graft}
use Rattle.labelled_trees.specs.Equality.{tree_discrete}
use Rattle.labelled_trees.specs.Labelled.{IsLabelled}
use Rattle.labelled_trees.proofs.GraftLeaves.{graft_ext}
use Rattle.labelled_trees.proofs.Grafts.{graft_leaf}
use Rattle.labelled_trees.proofs.Leaves.{by_leaf}
use Rattle.operad_ideals.specs.Presentations.{arity_of}
use Rattle.shuffle_transfer.specs.Orderings.{entry}
use Rattle.shuffle_transfer.specs.Transfer.{relabelled, shuffled}
use Rattle.symmetric_sums.specs.Instances.{rule_element}
use Rattle.symmetric_sums.specs.Membership.{presentation_of}
use Rattle.arity_completion.specs.Laws.{WholeStarts}

module _ (arity : ℕ → ℕ) (n : ℕ) (v : List ℕ) (stays : (i : ℕ) → 0 < i → i ≤ n → entry v i ≡ i) where
  tree_stays : (x : Tree ℕ) → IsLabelled arity n x → graft x (λ i. leaf (entry v i)) ≡ x
  tree_stays x h =
      graft_ext x (λ i. leaf (entry v i)) leaf (by_leaf x (λ i. leaf (entry v i) ≡ leaf i) (λ i o. let w = h.only i o in ap (λ (k : ℕ). leaf k) (stays i w.0 w.1)))
      ∙ graft_leaf x

  element_stays : (e : List (ℕ × Tree ℕ)) → AllTerms e (IsLabelled arity n) → relabelled v e ≡ e
  element_stays [] h = refl
  element_stays (x ∷ e) h = ap₂ (λ (y : Tree ℕ) (l : List (ℕ × Tree ℕ)). (x.0, y) ∷ l) (tree_stays x.1 h.0) (element_stays e h.1)

pub wholes_law : WholeStarts
wholes_law m generators rels earlier n start l cites some stands ordering stays =
    let p = presentation_of m generators rels in
    let e = rule_element m generators rels earlier start.rule in (
      record { cites = cites; has_terms = some; labelled = stands.labelled; ordering = ordering },
      λ t. ap (λ k. coef tree_discrete (shuffled (presentation_of m generators rels) k) t % suc (m - 1)) (element_stays (arity_of p) n start.permutation stays e stands.labelled) ∙ stands.same t,
    )
