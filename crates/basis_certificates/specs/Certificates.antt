-- Basis certificates, as values: what is claimed of a list of elements of a symmetric operad.
use Rattle.std.specs.Prelude.{ℕ, List, [], Option, Some, None}
use Rattle.labelled_trees.specs.Trees.{Tree}

-- A reduction: a number times the insertion of an element at a place in a tree. The element is that of an entry, named by its number,
-- counted from 1; the place is a list of vertices.
pub record Red : Type 0 where
  pub coefficient : ℕ
  pub number : ℕ
  pub tree : Tree ℕ
  pub set : List ℕ

-- An entry for an element: its leading tree, the element, and the cofactors, which are to show that the element is in the ideal.
pub record ElemEntry (C : Type 0) : Type 0 where
  pub lead : Tree ℕ
  pub element : List (ℕ × Tree ℕ)
  pub cofactors : C

-- The numbers of two entries for elements, a tree, and two places in it: a small common multiple of the two leading trees.
pub record Multiple : Type 0 where
  pub one : ℕ
  pub other : ℕ
  pub tree : Tree ℕ
  pub first : List ℕ
  pub second : List ℕ

-- An entry for a small common multiple: the S-element there is the sum of the reductions.
pub record RowEntry : Type 0 where
  pub at : Multiple
  pub reds : List Red

-- The number of a relation, counted from 1, and a permutation.
pub record Relabelling : Type 0 where
  pub number : ℕ
  pub permutation : List ℕ

-- An entry for a relabelled relation: it is the sum of the reductions.
pub record RelabelEntry : Type 0 where
  pub at : Relabelling
  pub reds : List Red

-- A basis certificate: entries for elements, then for small common multiples, then for relabelled relations
-- (Bremner and Dotsenko 2016, Buchberger's criterion, written down to be checked).
pub record Certificate (C : Type 0) : Type 0 where
  pub elems : List (ElemEntry C)
  pub rows : List RowEntry
  pub relabels : List RelabelEntry

-- the element of an entry; nothing where there is no entry
abbrev pub element_in : {C : Type 0} → Option (ElemEntry C) → List (ℕ × Tree ℕ)
element_in None = []
element_in (Some x) = x.element
