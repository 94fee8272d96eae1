-- The basis certificates of a list of elements in shuffle form.
use Rattle.std.specs.Prelude.{ℕ, ◌≡◌, ◌≤◌, List, [], ◌∷◌, map, Some}
use Rattle.std.specs.declared.cmp.Ordering.{Ordering}
use Rattle.modular_sums.specs.Residues.{IsCongruent}
use Rattle.modular_sums.specs.Lists.{Mem, Distinct, nth}
use Rattle.modular_sums.specs.Sums.{AllTerms, Same}
use Rattle.labelled_trees.specs.Trees.{Tree}
use Rattle.labelled_trees.specs.Equality.{tree_discrete}
use Rattle.labelled_trees.specs.Labelled.{IsLabelled}
use Rattle.shuffle_places.specs.Multiples.{IsMultiple}
use Rattle.shuffle_bases.specs.Elements.{Element, terms, Insertion, s_element}
use Rattle.shuffle_bases.specs.Reductions.{ReducesBelow}
use Rattle.shuffle_normal_forms.specs.NormalForms.{InSpan}
use Rattle.operad_ideals.specs.Parts.{Part}
use Rattle.operad_ideals.specs.Presentations.{Presentation, arity_of}
use Rattle.shuffle_transfer.specs.Labels.{symmetric_tree}
use Rattle.shuffle_transfer.specs.Transfer.{relabelled, shuffled}
use Rattle.shuffle_transfer.specs.GroebnerBases.{setting}
use Rattle.basis_certificates.specs.Certificates.{Red, ElemEntry, Multiple, RowEntry, RelabelEntry, Certificate}
use Rattle.basis_certificates.specs.Entries.{IsRelabelling, HasEveryRelabel}

-- the entry is for the element g: it has the trees for the leading tree and, up to sameness, for the whole element
pub record IsElemOf {C : Type 0} (p : Presentation) (g : Element) (x : ElemEntry C) : Type 0 where
  pub lead : x.lead ≡ symmetric_tree p.generators g.lead
  pub labelled : AllTerms x.element (IsLabelled (arity_of p) g.arity)
  pub element : Same tree_discrete p.q (shuffled p x.element) (terms g)

-- the entries are for the elements, one for each, in their order
abbrev pub AreElemsOf : {C : Type 0} → Presentation → List Element → List (ElemEntry C) → Type 0
AreElemsOf p [] [] = Unit {0}
AreElemsOf p [] (x ∷ xs) = ⊥
AreElemsOf p (g ∷ gs) [] = ⊥
AreElemsOf p (g ∷ gs) (x ∷ xs) = IsElemOf p g x × AreElemsOf p gs xs

-- a small common multiple, of arity at most N, of the leading trees of two elements with these numbers
pub record IsMultipleOfLeads (generators : List (List Part)) (elements : List Element) (N : ℕ) (m : Multiple) : Type 0 where
  pub one : Element
  pub other : Element
  pub one_named : nth elements m.one ≡ Some one
  pub other_named : nth elements m.other ≡ Some other
  pub in_order : m.one ≤ m.other
  pub arity : ℕ
  pub few : arity ≤ N
  pub tree : Tree ℕ
  pub tree_is : m.tree ≡ symmetric_tree generators tree
  pub multiple : IsMultiple arity one.lead other.lead tree m.first m.second

module _ (p : Presentation) (cmp : Tree ℕ → Tree ℕ → Ordering) (elements : List Element) where
  -- the reduction is for a number times an insertion
  pub record IsRedOf {n : ℕ} (u : ℕ × Insertion (setting p cmp elements) n) (r : Red) : Type 0 where
    pub coefficient : IsCongruent p.q r.coefficient u.0
    pub number : nth elements r.number ≡ Some u.1.of
    pub tree : r.tree ≡ symmetric_tree p.generators u.1.tree
    pub set : r.set ≡ u.1.set

  -- the reductions are for a sum of numbers times insertions, one for each, in their order
  abbrev pub AreRedsOf : {n : ℕ} → List (ℕ × Insertion (setting p cmp elements) n) → List Red → Type 0
  AreRedsOf [] [] = Unit {0}
  AreRedsOf [] (r ∷ rs) = ⊥
  AreRedsOf (u ∷ us) [] = ⊥
  AreRedsOf (u ∷ us) (r ∷ rs) = IsRedOf u r × AreRedsOf us rs

  -- the entry is for a small common multiple at which the S-element reduces, with the reductions for that
  pub record IsRowOf (N : ℕ) (x : RowEntry) : Type 0 where
    pub at_multiple : IsMultipleOfLeads p.generators elements N x.at
    pub reduces : ReducesBelow (setting p cmp elements) at_multiple.arity at_multiple.tree (s_element p.q at_multiple.one at_multiple.other at_multiple.tree x.at.first x.at.second)
    pub reds : AreRedsOf reduces.uses x.reds

  -- the entry is for a relabelled relation that is a sum of insertions, with the reductions for that
  pub record IsRelabelOf (N : ℕ) (x : RelabelEntry) : Type 0 where
    pub relabelling : IsRelabelling p N x.at
    pub spanned : InSpan (setting p cmp elements) relabelling.relation.arity (shuffled p (relabelled x.at.permutation relabelling.relation.terms))
    pub reds : AreRedsOf spanned.uses x.reds

  -- The certificate is one of the elements: it has an entry for each of them, in their order, for each small common multiple of arity at
  -- most N of their leading trees, once, and for each relation with terms of arity at most N with each permutation, once.
  pub record IsWritten {C : Type 0} (N : ℕ) (cert : Certificate C) : Type 0 where
    pub elems : AreElemsOf p elements cert.elems
    pub rows : (x : RowEntry) → Mem x cert.rows → IsRowOf N x
    pub rows_once : Distinct (map (λ x. x.at) cert.rows)
    pub every_row : (m : Multiple) → IsMultipleOfLeads p.generators elements N m → (x : RowEntry) × Mem x cert.rows × (x.at ≡ m)
    pub relabels : (x : RelabelEntry) → Mem x cert.relabels → IsRelabelOf N x
    pub relabels_once : Distinct (map (λ x. x.at) cert.relabels)
    pub every_relabel : HasEveryRelabel p N cert.relabels
