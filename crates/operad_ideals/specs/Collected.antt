-- The collected form of a sum.
use Rattle.std.specs.Prelude.{ℕ, ◌≡◌, ◌+◌, ◌-◌, ◌<◌, ◌↔◌, List, ◌++◌}
use Rattle.std.specs.List.{All, AllPairs}
use Rattle.std.specs.declared.cmp.Ordering.TheVariants.{Less}
use Rattle.modular_sums.specs.Sums.{scale, Same, AllTerms}
use Rattle.labelled_trees.specs.Trees.{Tree}
use Rattle.labelled_trees.specs.Equality.{tree_discrete}
use Rattle.labelled_trees.specs.Labelled.{IsLabelled}
use Rattle.operad_ideals.specs.Parts.{Part}
use Rattle.operad_ideals.specs.Spelling.{IsSorted}
use Rattle.operad_ideals.specs.Presentations.{Presentation, parts, arity_of, without_relations}
use Rattle.operad_ideals.specs.SpelledSums.{spelled_sum}
use Rattle.operad_ideals.specs.Ideals.{InIdeal}
use Rattle.operad_ideals.specs.SpellingOrder.{order}

-- A list of terms is reduced: each tree is sorted, the trees stand in the spelling order, each once, and each number is a
-- residue modulo p other than 0.
pub record IsReduced (p : ℕ) (parts : ℕ → List Part) (e : List (ℕ × Tree ℕ)) : Type 0 where
  pub sorted : All (λ x. IsSorted parts x.1) e
  pub ascending : AllPairs (λ x y. order x.1 y.1 ≡ Less) e
  pub residues : All (λ x. (0 < x.0) × (x.0 < p)) e

-- The collected form of e: it is reduced, and each sorted tree has in it the total signed coefficient of the terms of e
-- of which it is the spelling.
pub record IsCollected (p : ℕ) (parts : ℕ → List Part) (e f : List (ℕ × Tree ℕ)) : Type 0 where
  pub reduced : IsReduced p parts f
  pub same : Same tree_discrete (p - 1) f (spelled_sum (p - 1) parts e)

-- Two sums collect to the same sum.
abbrev pub HaveOneForm : ℕ → (ℕ → List Part) → List (ℕ × Tree ℕ) → List (ℕ × Tree ℕ) → Type 0
HaveOneForm p parts e f = (g : List (ℕ × Tree ℕ)) × IsCollected p parts e g × IsCollected p parts f g

-- A sum has one collected form.
abbrev pub OneCollectedForm : Type 0
OneCollectedForm = (p : ℕ) (parts : ℕ → List Part) (e f g : List (ℕ × Tree ℕ)) → 0 < p → IsCollected p parts e f → IsCollected p parts e g → f ≡ g

-- A sum less its collected form is a sum of instances of symmetry rules, and two sums have one collected form exactly where
-- their difference is such a sum.
pub record CollectedFormsDecide (p : Presentation) (n : ℕ) : Type 0 where
  pub difference : (e f : List (ℕ × Tree ℕ)) → AllTerms e (IsLabelled (arity_of p) n)
      → IsCollected (p.q + 1) (parts p) e f → InIdeal (without_relations p) n (e ++ scale p.q f)
  pub decide : (d e f g : List (ℕ × Tree ℕ)) → AllTerms d (IsLabelled (arity_of p) n) → AllTerms e (IsLabelled (arity_of p) n)
      → IsCollected (p.q + 1) (parts p) d f → IsCollected (p.q + 1) (parts p) e g → (f ≡ g) ↔ InIdeal (without_relations p) n (d ++ scale p.q e)
