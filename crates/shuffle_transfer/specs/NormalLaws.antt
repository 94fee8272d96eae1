-- What holds of normal trees and normal forms.
use Rattle.std.specs.Prelude.{ℕ, ◌≡◌, ◌↔◌, ◌<◌, ◌≤◌, List, ◌++◌}
use Rattle.std.proofs.Common.{suc}
use Rattle.std.specs.declared.cmp.Ordering.{Ordering}
use Rattle.modular_sums.specs.Lists.{Mem}
use Rattle.modular_sums.specs.Sums.{Same, scale, AllTerms}
use Rattle.labelled_trees.specs.Trees.{Tree}
use Rattle.labelled_trees.specs.Equality.{tree_discrete}
use Rattle.labelled_trees.specs.Labelled.{IsLabelled}
use Rattle.shuffle_insertions.specs.Orders.{IsTreeOrder}
use Rattle.shuffle_bases.specs.Elements.{Element}
use Rattle.operad_ideals.specs.Presentations.{Presentation, parts, arity_of, IsWide, IsSound}
use Rattle.operad_ideals.specs.Ideals.{InIdeal}
use Rattle.operad_ideals.specs.Collected.{IsReduced}
use Rattle.shuffle_transfer.specs.Labels.{inputs_of}
use Rattle.shuffle_transfer.specs.GroebnerBases.{IsGroebnerBasis}
use Rattle.shuffle_transfer.specs.NormalTrees.{normal_list, IsIndependent, IsSpanning, IsCombination, IsNormalTree, HasNormalTrees, IsNormalForm}

-- What a list of the normal trees of arity n that is independent and spanning modulo the ideal gives: each element is one combination of
-- its trees, up to sameness of sums; each element has one normal form, which is that combination, collected; and two elements have
-- one normal form exactly where they are congruent.
pub record NormalLaw (p : Presentation) (cmp : Tree ℕ → Tree ℕ → Ordering) (n : ℕ) (l : List (Tree ℕ)) : Type 0 where
  pub normal : (t : Tree ℕ) → Mem t l ↔ IsNormalTree p cmp n t
  pub independent : IsIndependent p n l
  pub spanning : IsSpanning p n l
  pub combinations : (e : List (ℕ × Tree ℕ)) → AllTerms e (IsLabelled (arity_of p) n) → (f : List (ℕ × Tree ℕ)) × IsCombination p n l e f
  pub one_combination : (e f g : List (ℕ × Tree ℕ)) → IsCombination p n l e f → IsCombination p n l e g → Same tree_discrete p.q f g
  pub congruent : (d e f g : List (ℕ × Tree ℕ)) → IsCombination p n l d f → IsCombination p n l e g → InIdeal p n (d ++ scale p.q e) ↔ Same tree_discrete p.q f g
  pub forms : (e : List (ℕ × Tree ℕ)) → AllTerms e (IsLabelled (arity_of p) n) → (f : List (ℕ × Tree ℕ)) × IsNormalForm p cmp n e f
  pub one_form : (e f g : List (ℕ × Tree ℕ)) → IsNormalForm p cmp n e f → IsNormalForm p cmp n e g → f ≡ g
  pub decides : (d e f g : List (ℕ × Tree ℕ)) → IsNormalForm p cmp n d f → IsNormalForm p cmp n e g → InIdeal p n (d ++ scale p.q e) ↔ (f ≡ g)
  pub by_list : (e f : List (ℕ × Tree ℕ)) → IsNormalForm p cmp n e f ↔ (IsCombination p n l e f × IsReduced (suc p.q) (parts p) f)

-- An independent and spanning list of the normal trees of an arity has these properties.
abbrev pub NormalFormsByLists : Type 0
NormalFormsByLists = (p : Presentation) (cmp : Tree ℕ → Tree ℕ → Ordering) (n : ℕ) (l : List (Tree ℕ)) → ((t : Tree ℕ) → Mem t l ↔ IsNormalTree p cmp n t)
    → IsIndependent p n l → IsSpanning p n l → NormalLaw p cmp n l

-- A Groebner basis through N for an order of the trees over the labels: in each arity up to N its listing has the normal
-- trees, each once; and it, like each list of these, has these properties.
abbrev pub NormalTreesListed : Type 0
NormalTreesListed = (p : Presentation) → IsSound p → IsWide p → 0 < p.q → (cmp : Tree ℕ → Tree ℕ → Ordering) → IsTreeOrder (inputs_of p.generators) cmp
    → (elements : List Element) (N : ℕ) → IsGroebnerBasis p cmp elements N
    → (n : ℕ) → n ≤ N → HasNormalTrees p cmp n (normal_list p.generators elements n) × ((l : List (Tree ℕ)) → HasNormalTrees p cmp n l → NormalLaw p cmp n l)
