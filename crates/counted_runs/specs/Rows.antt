-- The rows of items.
use Rattle.std.specs.Prelude.{ℕ, ◌≡◌, List, [], ◌∷◌}
use Rattle.std.specs.declared.cmp.Ordering.{Ordering}
use Rattle.modular_sums.specs.Lists.{Mem, Nth}
use Rattle.modular_sums.specs.Sums.{Same}
use Rattle.labelled_trees.specs.Trees.{Tree}
use Rattle.labelled_trees.specs.Equality.{tree_discrete}
use Rattle.shuffle_places.specs.Places.{IsPlace}
use Rattle.shuffle_bases.specs.Elements.{Element, terms, IsMonic, AreMonic, s_element}
use Rattle.operad_ideals.specs.Presentations.{Relation, Presentation}
use Rattle.shuffle_transfer.specs.Labels.{symmetric_tree}
use Rattle.shuffle_transfer.specs.Transfer.{relabelled, shuffled, IsSumOfInsertions}
use Rattle.shuffle_transfer.specs.GroebnerBases.{setting}
use Rattle.action_characters.specs.CycleTypes.{type_permutation}
use Rattle.counted_runs.specs.Items.{Question, Problem, Item, relabelling, two_places, tail_of, question, traced}

-- two sums are the same
abbrev pub SameSum : Presentation → List (ℕ × Tree ℕ) → List (ℕ × Tree ℕ) → Type 0
SameSum p e f = Same tree_discrete p.q e f

-- a monic element of the ideal of the shuffle forms
pub record IsIdealElement (p : Presentation) (compare : Tree ℕ → Tree ℕ → Ordering) (g : Element) : Type 0 where
  pub monic : IsMonic (setting p compare []) g
  pub in_ideal : IsSumOfInsertions p g.arity (terms g)

-- monic elements of the ideal with different leading trees
pub record AreIdealElements (p : Presentation) (compare : Tree ℕ → Tree ℕ → Ordering) (elements : List Element) : Type 0 where
  pub monic : AreMonic (setting p compare elements)
  pub in_ideal : (g : Element) → Mem g elements → IsSumOfInsertions p g.arity (terms g)

-- the sum is the S-element of g and h, whose leading trees are the divisors at the first and the second place in the tree
pub record IsSElement (p : Presentation) (t : Tree ℕ) (first second : List ℕ) (g h : Element) (row : List (ℕ × Tree ℕ)) : Type 0 where
  pub first_at : IsPlace t first g.lead
  pub second_at : IsPlace t second h.lead
  pub row_is : SameSum p row (s_element p.q g h t first second)

-- The row of an item: the shuffle form of the relabelled relation; the S-element at the two places of two monic elements of the
-- ideal; a monic element of the ideal with that leading tree, without its leading term; the shuffle form of what is asked; that
-- of the tree with each leaf replaced by its image under the permutation of the cycle type.
abbrev pub IsRow : Problem → Item → List (ℕ × Tree ℕ) → Type 0
IsRow d (relabelling z k w) row = (r : Relation) × Nth k d.presentation.relations r × SameSum d.presentation row (shuffled d.presentation (relabelled w r.terms))
IsRow d (two_places z t first second) row =
    (g : Element) × (h : Element) × IsIdealElement d.presentation d.compare g × IsIdealElement d.presentation d.compare h × IsSElement d.presentation t first second g h row
IsRow d (tail_of t) row = (g : Element) × IsIdealElement d.presentation d.compare g × (g.lead ≡ t) × SameSum d.presentation row g.tail
IsRow d (question k) row = (e : Question) × Nth k d.questions e × SameSum d.presentation row (shuffled d.presentation e.terms)
IsRow d (traced c t) row = SameSum d.presentation row (shuffled d.presentation (relabelled (type_permutation c) ((1, symmetric_tree d.presentation.generators t) ∷ [])))
