-- Full counted runs.
use Rattle.std.specs.Prelude.{ℕ, ◌≡◌, ◌<◌, ◌≤◌, ◌⊎◌, List, [], ◌∷◌}
use Rattle.std.proofs.Common.{false}
use Rattle.std.specs.declared.cmp.Ordering.{Ordering}
use Rattle.modular_sums.specs.Lists.{Mem, Nth}
use Rattle.labelled_trees.specs.Trees.{Tree}
use Rattle.shuffle_insertions.specs.ShuffleTrees.{IsShuffleTree}
use Rattle.shuffle_places.specs.Multiples.{IsMultiple}
use Rattle.shuffle_bases.specs.Elements.{Element}
use Rattle.shuffle_normal_forms.specs.FreeTrees.{is_empty}
use Rattle.shuffle_normal_forms.specs.NormalForms.{IsLeadingTree}
use Rattle.operad_ideals.specs.Presentations.{Relation, Presentation}
use Rattle.shuffle_transfer.specs.Orderings.{IsOrdering}
use Rattle.shuffle_transfer.specs.Labels.{inputs_of}
use Rattle.shuffle_transfer.specs.GroebnerBases.{setting}
use Rattle.shuffle_completion.specs.ReducedBases.{IsReducedBasis}
use Rattle.counted_runs.specs.Items.{Problem, Purpose, Item, relabelling, two_places, tail_of, question, traced}
use Rattle.counted_runs.specs.Rows.{SameSum, IsSElement}
use Rattle.counted_runs.specs.Runs.{Entry, EntryOf, IsFinishedRun}

-- R holds of each thing and each that comes after it
abbrev pub InSequence : {X : Type 0} → (X → X → Type 0) → List X → Type 0
InSequence R [] = Unit {0}
InSequence {X} R (x ∷ l) = ((y : X) → Mem y l → R x y) × InSequence R l

-- the item is of the first two kinds: a relation with a permutation, or a tree with two places
abbrev pub IsRelationOrPair : Item → Type 0
IsRelationOrPair (relabelling z k w) = Unit {0}
IsRelationOrPair (two_places z t first second) = Unit {0}
IsRelationOrPair (tail_of t) = ⊥
IsRelationOrPair (question k) = ⊥
IsRelationOrPair (traced c t) = ⊥

-- the item is reduced over the finished basis: it is a question, or a cycle type with a tree
abbrev pub IsQuestionOrTrace : Item → Type 0
IsQuestionOrTrace (relabelling z k w) = ⊥
IsQuestionOrTrace (two_places z t first second) = ⊥
IsQuestionOrTrace (tail_of t) = ⊥
IsQuestionOrTrace (question k) = Unit {0}
IsQuestionOrTrace (traced c t) = Unit {0}

-- an element of the list has this leading tree
abbrev pub HasLeadingTree : List Element → Tree ℕ → Type 0
HasLeadingTree l t = (g : Element) × Mem g l × (g.lead ≡ t)

-- the list holds the element: one of the list has its arity and its leading tree, and the same sum as its tail
pub record HoldsElement (p : Presentation) (l : List Element) (g : Element) : Type 0 where
  pub by : Element
  pub member : Mem by l
  pub arity_is : by.arity ≡ g.arity
  pub lead_is : by.lead ≡ g.lead
  pub tail_is : SameSum p by.tail g.tail

module _ {p : Presentation} {compare : Tree ℕ → Tree ℕ → Ordering} where
  -- an entry of the run has the item
  abbrev pub HasItem : List (Entry p compare) → Item → Type 0
  HasItem run i = (x : Entry p compare) × Mem x run × (x.item ≡ i)

  -- t is the leading tree of the last row of the entry; a row that is 0 has none
  pub record IsLastLead (x : Entry p compare) (t : Tree ℕ) : Type 0 where
    pub valid : IsShuffleTree (inputs_of p.generators) x.arity t
    pub leads : IsLeadingTree (setting p compare []) x.arity x.last t

  -- where the items of x and y are of the first two kinds and of one arity, the leading tree of the last row of x, if that isn't 0,
  -- is that of an element of the list of y
  abbrev pub KeepsLead : Entry p compare → Entry p compare → Type 0
  KeepsLead x y = IsRelationOrPair x.item → IsRelationOrPair y.item → x.arity ≡ y.arity → (t : Tree ℕ) → IsLastLead x t → HasLeadingTree y.elements t

  -- the entry's item is the tree with the two places, and its row the S-element of g and h there
  pub record IsPairEntry (x : Entry p compare) (t : Tree ℕ) (first second : List ℕ) (g h : Element) : Type 0 where
    pub purpose : Purpose
    pub item_is : x.item ≡ two_places purpose t first second
    pub row_is : IsSElement p t first second g h x.row

  -- the S-element of g and h at the two places, in one of their two orders, is the row of an entry with these places
  abbrev pub HasPair : List (Entry p compare) → Tree ℕ → List ℕ → List ℕ → Element → Element → Type 0
  HasPair run t first second g h = (x : Entry p compare) × Mem x run × (IsPairEntry x t first second g h ⊎ IsPairEntry x t second first h g)

-- A counted run through N is full over the basis: this is the reduced basis through N; all its chains are finished; each relation with
-- terms, of an arity from 2 to N, is an item with each permutation; each small common multiple, of arity at most N, of the leading
-- trees of two elements of the basis is an item with its two places, and its row is their S-element; the list of each chain holds
-- the elements of the basis of lower arity, and that of a chain for a question those of the same arity too; and leading trees of
-- last rows of the first two kinds are those of elements of the later lists of that arity for items of these two kinds.
pub record IsFullRun (d : Problem) (N : ℕ) (basis : List Element) (run : List (EntryOf d)) : Type 0 where
  pub reduced : IsReducedBasis d.presentation d.compare basis N
  pub finished : IsFinishedRun d N run
  pub relations : (k : ℕ) (r : Relation) → Nth k d.presentation.relations r → is_empty r.terms ≡ false → 2 ≤ r.arity → r.arity ≤ N
      → (w : List ℕ) → IsOrdering r.arity w → (z : Purpose) × HasItem run (relabelling z k w)
  pub multiples : (n : ℕ) → n ≤ N → (g h : Element) → Mem g basis → Mem h basis → (t : Tree ℕ) (first second : List ℕ)
      → IsMultiple n g.lead h.lead t first second → HasPair run t first second g h
  pub lower : (x : EntryOf d) → Mem x run → (g : Element) → Mem g basis → g.arity < x.arity → HoldsElement d.presentation x.elements g
  pub asked : (x : EntryOf d) → Mem x run → IsQuestionOrTrace x.item → (g : Element) → Mem g basis → g.arity ≤ x.arity → HoldsElement d.presentation x.elements g
  pub leads : InSequence KeepsLead run
