-- Lists of elements that complete a presentation up to an arity.
use Rattle.std.specs.Prelude.{ℕ, ◌≤◌, List}
use Rattle.std.specs.declared.cmp.Ordering.{Ordering}
use Rattle.modular_sums.specs.Lists.{Mem, Distinct}
use Rattle.modular_sums.specs.Sums.{IsLinearCombination}
use Rattle.labelled_trees.specs.Trees.{Tree}
use Rattle.labelled_trees.specs.Equality.{tree_discrete}
use Rattle.shuffle_bases.specs.Elements.{Element, terms, Setting, AreMonic, value_of}
use Rattle.shuffle_bases.specs.Reductions.{SElementsReduce}
use Rattle.operad_ideals.specs.Presentations.{Relation, Presentation}
use Rattle.shuffle_transfer.specs.Orderings.{orderings}
use Rattle.shuffle_transfer.specs.Labels.{inputs_of}
use Rattle.shuffle_transfer.specs.Transfer.{relabelled, shuffled, IsSumOfInsertions}

-- elements over the labels of a presentation, with a comparison of trees
abbrev pub setting : Presentation → (Tree ℕ → Tree ℕ → Ordering) → List Element → Setting
setting p compare elements = record { arity = inputs_of p.generators; compare = compare; elements = elements; q = p.q }

-- The elements are a Groebner basis through arity N: they are monic with different leading trees, each stands once, and they lie in the ideal of
-- the shuffle forms; each relation of arity at most N, relabelled by each permutation, is a sum of insertions of them; and for any two of
-- them, in the order of the list, each S-element of arity at most N reduces
-- (Dotsenko and Khoroshkin 2010, Groebner bases of shuffle operads, up to an arity).
pub record IsGroebnerBasis (p : Presentation) (compare : Tree ℕ → Tree ℕ → Ordering) (elements : List Element) (N : ℕ) : Type 0 where
  pub monic : AreMonic (setting p compare elements)
  pub once : Distinct elements
  pub in_ideal : (g : Element) → Mem g elements → IsSumOfInsertions p g.arity (terms g)
  pub relations : (r : Relation) → Mem r p.relations → r.arity ≤ N → (v : List ℕ) → Mem v (orderings r.arity)
      → IsLinearCombination tree_discrete (value_of {s = setting p compare elements} {n = r.arity}) p.q (shuffled p (relabelled v r.terms))
  pub s_elements : SElementsReduce (setting p compare elements) N
