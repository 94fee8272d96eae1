-- Instances of rules, and the ideal that a presentation generates.
use Rattle.std.specs.Prelude.{ℕ, ◌≡◌, List, length, flat_map}
use Rattle.modular_sums.specs.Lists.{Mem}
use Rattle.modular_sums.specs.Sums.{scale, Same, moved, AllTerms}
use Rattle.labelled_trees.specs.Trees.{Tree, graft}
use Rattle.labelled_trees.specs.Leaves.{occurs}
use Rattle.labelled_trees.specs.Equality.{tree_discrete}
use Rattle.labelled_trees.specs.Labelled.{IsLabelled}
use Rattle.labelled_trees.specs.Insertions.{IsContext, put, item}
use Rattle.operad_ideals.specs.Presentations.{Presentation, arity_of}
use Rattle.operad_ideals.specs.Rules.{Rule, rule_arity, rule_terms}

-- the tree in the context, with the i-th input for its leaf i
abbrev pub placed : Tree ℕ → List (Tree ℕ) → Tree ℕ → Tree ℕ
placed context inputs x = put context (graft x (item inputs))

-- An instance of arity n: a residue, a context (in which leaf 0 stands exactly once), a rule, and as many inputs as the
-- rule's arity, in which no leaf is 0; each tree of the rule, placed, is labelled by 1 to n.
pub record Instance (p : Presentation) (n : ℕ) : Type 0 where
  pub residue : ℕ
  pub context : Tree ℕ
  pub rule : Rule p
  pub inputs : List (Tree ℕ)
  pub is_context : IsContext context
  pub as_many : length inputs ≡ rule_arity p rule
  pub no_zero : (t : Tree ℕ) → Mem t inputs → occurs 0 t ≡ 0
  pub labelled : AllTerms (moved (placed context inputs) (rule_terms p rule)) (IsLabelled (arity_of p) n)

-- The element of an instance: for each term of the rule the product of the two residues, beside the placed tree.
abbrev pub element : (p : Presentation) (n : ℕ) → Instance p n → List (ℕ × Tree ℕ)
element p n i = scale i.residue (moved (placed i.context i.inputs) (rule_terms p i.rule))

-- The ideal of a presentation in arity n: the element is the same sum as the elements of finitely many instances, put one
-- after the other (Bremner and Dotsenko 2016, the ideal that relations generate in the free symmetric operad).
pub record InIdeal (p : Presentation) (n : ℕ) (e : List (ℕ × Tree ℕ)) : Type 0 where
  pub instances : List (Instance p n)
  pub adds_up : Same tree_discrete p.q e (flat_map (element p n) instances)
