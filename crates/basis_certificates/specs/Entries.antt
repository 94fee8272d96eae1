-- When the entries of a basis certificate are good.
use Rattle.std.specs.Prelude.{ℕ, ◌≡◌, ◌≤◌, List, [], ◌∷◌, ◌++◌, Some}
use Rattle.std.specs.List.{AllByRecursion}
use Rattle.std.specs.declared.cmp.Ordering.{Ordering}
use Rattle.std.specs.declared.cmp.Ordering.TheVariants.{Less}
use Rattle.modular_sums.specs.Residues.{IsCongruent}
use Rattle.modular_sums.specs.Lists.{Mem, nth}
use Rattle.modular_sums.specs.Sums.{coef, scale, moved, AllTerms, Same}
use Rattle.labelled_trees.specs.Trees.{Tree}
use Rattle.labelled_trees.specs.Leaves.{leaf_count}
use Rattle.labelled_trees.specs.Equality.{tree_discrete}
use Rattle.labelled_trees.specs.Labelled.{IsLabelled}
use Rattle.shuffle_insertions.specs.Frames.{insert}
use Rattle.shuffle_places.specs.Places.{frame_at, IsPlace}
use Rattle.shuffle_places.specs.Multiples.{IsMultiple}
use Rattle.operad_ideals.specs.Spelling.{IsSorted}
use Rattle.operad_ideals.specs.Parts.{Part, parts_of}
use Rattle.operad_ideals.specs.Laws.{arity}
use Rattle.operad_ideals.specs.Presentations.{Relation, Presentation, arity_of}
use Rattle.shuffle_transfer.specs.Orderings.{IsOrdering}
use Rattle.shuffle_transfer.specs.Labels.{shuffle_form}
use Rattle.shuffle_transfer.specs.Transfer.{relabelled, shuffled}
use Rattle.shuffle_transfer.specs.NormalTrees.{IsLead}
use Rattle.basis_certificates.specs.Certificates.{Red, ElemEntry, Multiple, RowEntry, Relabelling, RelabelEntry, element_in}

-- A sorted spelling: a tree labelled by 1 to the number of its leaves, which is its arity, and sorted.
pub record IsSpelled (generators : List (List Part)) (t : Tree ℕ) : Type 0 where
  pub labelled : IsLabelled (arity (parts_of generators)) (leaf_count t) t
  pub sorted : IsSorted (parts_of generators) t

-- the shuffle form of the element, inserted at the place in the shuffle form of the tree: each of its trees stands there in turn
abbrev pub inserted_at : Presentation → List (ℕ × Tree ℕ) → Tree ℕ → List ℕ → List (ℕ × Tree ℕ)
inserted_at p e t set = moved (insert (frame_at set (shuffle_form p.generators t))) (shuffled p e)

-- ---- entries for elements

-- The leading tree has coefficient 1.
abbrev pub HasUnit : {C : Type 0} → Presentation → ElemEntry C → Type 0
HasUnit p x = IsCongruent p.q (coef tree_discrete (shuffled p x.element) (shuffle_form p.generators x.lead)) 1

module _ {C : Type 0} (p : Presentation) (cmp : Tree ℕ → Tree ℕ → Ordering) where
  -- The tree of the entry is a sorted spelling, it is the leading tree of the element, and it leads no earlier entry.
  pub record HasOwnLeadingTree (earlier : List (ElemEntry C)) (x : ElemEntry C) : Type 0 where
    pub spelled : IsSpelled p.generators x.lead
    pub element_labelled : AllTerms x.element (IsLabelled (arity_of p) (leaf_count x.lead))
    pub leads : IsLead p cmp (leaf_count x.lead) x.element x.lead
    pub new : (y : ElemEntry C) → Mem y earlier → y.lead ≡ x.lead → ⊥

  -- The entry is good: it has a leading tree of its own, with coefficient 1, and its cofactors show that its element is in the ideal;
  -- `Shown` says which elements are shown by which cofactors.
  pub record IsGoodElem (Shown : List (ℕ × Tree ℕ) → C → Type 0) (earlier : List (ElemEntry C)) (x : ElemEntry C) : Type 0 where
    pub lead : HasOwnLeadingTree earlier x
    pub unit : HasUnit p x
    pub shown : Shown x.element x.cofactors

-- ---- reductions

-- The reduction is fit: its number names an entry, its tree is a sorted spelling, and its vertices are a place there whose divisor
-- is the leading tree of the entry, both in shuffle form.
pub record IsFitReduction {C : Type 0} (generators : List (List Part)) (elems : List (ElemEntry C)) (r : Red) : Type 0 where
  pub entry : ElemEntry C
  pub named : nth elems r.number ≡ Some entry
  pub spelled : IsSpelled generators r.tree
  pub place : IsPlace (shuffle_form generators r.tree) r.set (shuffle_form generators entry.lead)

module _ {C : Type 0} (p : Presentation) (elems : List (ElemEntry C)) where
  -- the element of the entry with this number, inserted at the place
  abbrev pub insertion_of : ℕ → Tree ℕ → List ℕ → List (ℕ × Tree ℕ)
  insertion_of k t set = inserted_at p (element_in (nth elems k)) t set

  -- the sum of the reductions: of each its number times its insertion
  abbrev pub reductions_sum : List Red → List (ℕ × Tree ℕ)
  reductions_sum [] = []
  reductions_sum (r ∷ reds) = scale r.coefficient (insertion_of r.number r.tree r.set) ++ reductions_sum reds

  -- the S-element: the first element inserted at the first place, less the second inserted at the second
  abbrev pub s_element_at : Multiple → List (ℕ × Tree ℕ)
  s_element_at m = insertion_of m.one m.tree m.first ++ scale p.q (insertion_of m.other m.tree m.second)

-- ---- entries for small common multiples

module _ {C : Type 0} (generators : List (List Part)) (N : ℕ) (elems : List (ElemEntry C)) where
  -- The numbers name entries for elements in this order, the tree is a sorted spelling of arity at most N, and with its two places it is
  -- a small common multiple of their leading trees, all in shuffle form.
  pub record IsCommonMultiple (m : Multiple) : Type 0 where
    pub one : ElemEntry C
    pub other : ElemEntry C
    pub one_named : nth elems m.one ≡ Some one
    pub other_named : nth elems m.other ≡ Some other
    pub in_order : m.one ≤ m.other
    pub spelled : IsSpelled generators m.tree
    pub few : leaf_count m.tree ≤ N
    pub multiple : IsMultiple (leaf_count m.tree) (shuffle_form generators one.lead) (shuffle_form generators other.lead) (shuffle_form generators m.tree) m.first m.second

  -- Each small common multiple of arity at most N has an entry.
  abbrev pub HasEveryRow : List RowEntry → Type 0
  HasEveryRow rows = (m : Multiple) → IsCommonMultiple m → (x : RowEntry) × Mem x rows × (x.at ≡ m)

-- The tree of the reduction is smaller, and has the same arity.
pub record IsReductionBelow (generators : List (List Part)) (cmp : Tree ℕ → Tree ℕ → Ordering) (t : Tree ℕ) (r : Red) : Type 0 where
  pub smaller : cmp (shuffle_form generators r.tree) (shuffle_form generators t) ≡ Less
  pub one_arity : leaf_count r.tree ≡ leaf_count t

-- The reduction is fit, and its tree is below t.
pub record IsRowRed {C : Type 0} (generators : List (List Part)) (cmp : Tree ℕ → Tree ℕ → Ordering) (elems : List (ElemEntry C)) (t : Tree ℕ) (r : Red) : Type 0 where
  pub fit : IsFitReduction generators elems r
  pub below : IsReductionBelow generators cmp t r

module _ {C : Type 0} (p : Presentation) (cmp : Tree ℕ → Tree ℕ → Ordering) (N : ℕ) (elems : List (ElemEntry C)) where
  -- The entry is good: it is for a small common multiple that no earlier one is for, and the S-element there is the sum of the
  -- reductions, which are below its tree.
  pub record IsGoodRow (earlier : List RowEntry) (x : RowEntry) : Type 0 where
    pub multiple : IsCommonMultiple p.generators N elems x.at
    pub new : (y : RowEntry) → Mem y earlier → y.at ≡ x.at → ⊥
    pub reds : AllByRecursion (IsRowRed p.generators cmp elems x.at.tree) x.reds
    pub adds_up : Same tree_discrete p.q (s_element_at p elems x.at) (reductions_sum p elems x.reds)

-- ---- entries for relabelled relations

module _ (p : Presentation) (N : ℕ) where
  -- The number names a relation with terms of arity at most N, and the numbers are a permutation of 1 to its arity.
  pub record IsRelabelling (m : Relabelling) : Type 0 where
    pub relation : Relation
    pub named : nth p.relations m.number ≡ Some relation
    pub has_terms : relation.terms ≡ [] → ⊥
    pub few : relation.arity ≤ N
    pub permutes : IsOrdering relation.arity m.permutation

  -- Each relation with terms of arity at most N, with each permutation, has an entry.
  abbrev pub HasEveryRelabel : List RelabelEntry → Type 0
  HasEveryRelabel relabels = (m : Relabelling) → IsRelabelling m → (x : RelabelEntry) × Mem x relabels × (x.at ≡ m)

-- The reduction is fit, and its tree has this arity.
pub record IsRelabelRed {C : Type 0} (generators : List (List Part)) (elems : List (ElemEntry C)) (n : ℕ) (r : Red) : Type 0 where
  pub fit : IsFitReduction generators elems r
  pub one_arity : leaf_count r.tree ≡ n

module _ {C : Type 0} (p : Presentation) (N : ℕ) (elems : List (ElemEntry C)) where
  -- The entry is good: it is for a relabelled relation that no earlier one is for, which is the sum of the reductions, all of its arity.
  pub record IsGoodRelabel (earlier : List RelabelEntry) (x : RelabelEntry) : Type 0 where
    pub relabelling : IsRelabelling p N x.at
    pub new : (y : RelabelEntry) → Mem y earlier → y.at ≡ x.at → ⊥
    pub reds : AllByRecursion (IsRelabelRed p.generators elems relabelling.relation.arity) x.reds
    pub adds_up : Same tree_discrete p.q (shuffled p (relabelled x.at.permutation relabelling.relation.terms)) (reductions_sum p elems x.reds)
