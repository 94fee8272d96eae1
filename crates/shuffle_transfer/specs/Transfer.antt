-- Sums of insertions of shuffle forms of relabelled relations.
use Rattle.std.specs.Prelude.{ℕ, ◌↔◌, ◌*◌, List, [], ◌∷◌, map}
use Rattle.modular_sums.specs.Lists.{Mem}
use Rattle.modular_sums.specs.Sums.{IsLinearCombination, moved, AllTerms}
use Rattle.labelled_trees.specs.Trees.{Tree, leaf, graft}
use Rattle.labelled_trees.specs.Equality.{tree_discrete}
use Rattle.labelled_trees.specs.Labelled.{IsLabelled}
use Rattle.shuffle_insertions.specs.ShuffleTrees.{IsShuffleTree}
use Rattle.shuffle_insertions.specs.Frames.{Frame, insert, IsFrame}
use Rattle.operad_ideals.specs.Sorting.{spelled_sign}
use Rattle.operad_ideals.specs.Presentations.{Relation, Presentation, residue_of, parts, arity_of, IsSound}
use Rattle.operad_ideals.specs.Ideals.{InIdeal}
use Rattle.shuffle_transfer.specs.Orderings.{IsOrdering, entry, orderings}
use Rattle.shuffle_transfer.specs.Labels.{inputs_of, shuffle_form}

-- the element in which leaf i became the i-th number of the permutation
abbrev pub relabelled : List ℕ → List (ℕ × Tree ℕ) → List (ℕ × Tree ℕ)
relabelled v e = moved (λ x. graft x (λ i. leaf (entry v i))) e

-- the element, relabelled by each permutation of 1 to m in turn
abbrev pub relabellings : ℕ → List (ℕ × Tree ℕ) → List (List (ℕ × Tree ℕ))
relabellings m e = map (λ v. relabelled v e) (orderings m)

module _ (p : Presentation) where
  -- The shuffle form of an element: the shuffle form of each tree, with its sign.
  abbrev pub shuffled : List (ℕ × Tree ℕ) → List (ℕ × Tree ℕ)
  shuffled [] = []
  shuffled (x ∷ e) = (x.0 * residue_of p.q (spelled_sign (parts p) x.1), shuffle_form p.generators x.1) ∷ shuffled e

  -- An insertion of arity n: the shuffle form of a relabelled relation, inserted into a frame, so that shuffle trees of arity n come out
  -- (Dotsenko and Khoroshkin 2010, the ideal that elements generate in a free shuffle operad).
  pub record RelationInsertion (n : ℕ) : Type 0 where
    pub relation : Relation
    pub there : Mem relation p.relations
    pub permutation : List ℕ
    pub permutes : IsOrdering relation.arity permutation
    pub frame : Frame
    pub is_frame : IsFrame relation.arity frame
    pub valid : AllTerms (moved (insert frame) (shuffled (relabelled permutation relation.terms))) (IsShuffleTree (inputs_of p.generators) n)

  abbrev pub inserted_relation : (n : ℕ) → RelationInsertion n → List (ℕ × Tree ℕ)
  inserted_relation n i = moved (insert i.frame) (shuffled (relabelled i.permutation i.relation.terms))

  -- the element is a sum of numbers times insertions
  abbrev pub IsSumOfInsertions : ℕ → List (ℕ × Tree ℕ) → Type 0
  IsSumOfInsertions n e = IsLinearCombination tree_discrete (inserted_relation n) p.q e

-- An element is in the ideal exactly where its shuffle form is a sum of insertions of shuffle forms of relabelled relations.
abbrev pub Transfer : Type 0
Transfer = (p : Presentation) (n : ℕ) (e : List (ℕ × Tree ℕ)) → IsSound p → AllTerms e (IsLabelled (arity_of p) n) → InIdeal p n e ↔ IsSumOfInsertions p n (shuffled p e)
