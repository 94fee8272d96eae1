-- What holds of the ideal of a presentation.
use Rattle.std.specs.Prelude.{ℕ, ◌↔◌, List, [], ◌∷◌, ◌++◌}
use Rattle.modular_sums.specs.Sums.{scale, Same, AllTerms}
use Rattle.labelled_trees.specs.Trees.{Tree}
use Rattle.labelled_trees.specs.Equality.{tree_discrete}
use Rattle.labelled_trees.specs.Labelled.{IsLabelled}
use Rattle.operad_ideals.specs.Parts.{Sign, minus, times}
use Rattle.operad_ideals.specs.Spelling.{Agrees}
use Rattle.operad_ideals.specs.Sorting.{spelled, spelled_sign}
use Rattle.operad_ideals.specs.Presentations.{Presentation, residue_of, parts, arity_of, IsSound, IsProper, without_relations}
use Rattle.operad_ideals.specs.SpelledSums.{spelled_sum}
use Rattle.operad_ideals.specs.Ideals.{Instance, element, InIdeal}
use Rattle.operad_ideals.specs.HoleInstances.{InHoleIdeal}

-- Instances with a context that is a tree, and those with a built-in hole, give one ideal.
abbrev pub OneIdeal : Type 0
OneIdeal = (p : Presentation) (n : ℕ) (e : List (ℕ × Tree ℕ)) → IsSound p → InIdeal p n e ↔ InHoleIdeal p n e

-- The ideal holds the element of each instance and is closed under sums, multiples and sameness.
pub record IdealLaw (p : Presentation) (n : ℕ) : Type 0 where
  pub instances : (i : Instance p n) → InIdeal p n (element p n i)
  pub none : InIdeal p n []
  pub added : (e f : List (ℕ × Tree ℕ)) → InIdeal p n e → InIdeal p n f → InIdeal p n (e ++ f)
  pub scaled : (c : ℕ) (e : List (ℕ × Tree ℕ)) → InIdeal p n e → InIdeal p n (scale c e)
  pub same : (e f : List (ℕ × Tree ℕ)) → Same tree_discrete p.q e f → InIdeal p n f → InIdeal p n e

abbrev pub IdealIsClosed : Type 0
IdealIsClosed = (p : Presentation) (n : ℕ) → IdealLaw p n

-- In arity one the ideal holds zero alone.
abbrev pub OnlyZeroInArityOne : Type 0
OnlyZeroInArityOne = (p : Presentation) → IsSound p → IsProper p → (e : List (ℕ × Tree ℕ)) → InIdeal p 1 e → Same tree_discrete p.q e []

-- the tree t less the sign times the tree u
abbrev pub less_signed : ℕ → Tree ℕ → Sign → Tree ℕ → List (ℕ × Tree ℕ)
less_signed q t s u = (1, t) ∷ ((residue_of q (times minus s), u) ∷ [])

-- Two elements have one collected form exactly where their difference is a sum of instances of symmetry rules.
abbrev pub CollectedForms : Type 0
CollectedForms = (p : Presentation) (n : ℕ) (d e : List (ℕ × Tree ℕ)) → AllTerms d (IsLabelled (arity_of p) n) → AllTerms e (IsLabelled (arity_of p) n)
    → InIdeal (without_relations p) n (d ++ scale p.q e) ↔ Same tree_discrete p.q (spelled_sum p.q (parts p) d) (spelled_sum p.q (parts p) e)

-- A labelled tree less the sign times a tree that agrees with it is a sum of instances of symmetry rules,
-- and so is a labelled tree less its sign times its sorted spelling.
abbrev pub AgreementIsInIdeal : Type 0
AgreementIsInIdeal = (p : Presentation) (n : ℕ) (t : Tree ℕ) → IsLabelled (arity_of p) n t
    → ((s : Sign) (u : Tree ℕ) → Agrees (parts p) s t u → InIdeal (without_relations p) n (less_signed p.q t s u))
    × InIdeal (without_relations p) n (less_signed p.q t (spelled_sign (parts p) t) (spelled (parts p) t))
