-- How entries of each kind come about.
use Rattle.std.specs.Prelude.{ℕ, ◌≡◌, ◌≤◌, List, [], ◌∷◌}
use Rattle.std.proofs.Common.{true, false}
use Rattle.modular_sums.specs.Lists.{Mem, Nth}
use Rattle.labelled_trees.specs.Trees.{Tree}
use Rattle.shuffle_insertions.specs.ShuffleTrees.{IsShuffleTree}
use Rattle.shuffle_places.specs.Multiples.{IsMultiple}
use Rattle.shuffle_bases.specs.Elements.{Element, s_element}
use Rattle.shuffle_normal_forms.specs.FreeTrees.{is_empty}
use Rattle.shuffle_reductions.specs.Chains.{IsChain}
use Rattle.operad_ideals.specs.Presentations.{Relation}
use Rattle.shuffle_transfer.specs.Orderings.{IsOrdering}
use Rattle.shuffle_transfer.specs.Labels.{symmetric_tree}
use Rattle.shuffle_transfer.specs.Transfer.{relabelled, shuffled}
use Rattle.shuffle_transfer.specs.GroebnerBases.{setting}
use Rattle.shuffle_completion.specs.ReducedBases.{IsReducedBasis}
use Rattle.action_characters.specs.CycleTypes.{IsCycleType, type_permutation}
use Rattle.counted_runs.specs.Items.{Question, Problem, item_arity, Purpose, relabelling, two_places, tail_of, question, traced}
use Rattle.counted_runs.specs.Rows.{SameSum, AreIdealElements}
use Rattle.counted_runs.specs.Runs.{EntryOf, IsEntry}

module _ (d : Problem) (N : ℕ) where
  -- An entry of arity n: its list is one of monic elements of the ideal, and its steps are a chain over it.
  pub record IsChained (n : ℕ) (x : EntryOf d) : Type 0 where
    pub from_two : 2 ≤ n
    pub to_most : n ≤ N
    pub arity_is : x.arity ≡ n
    pub ideal_elements : AreIdealElements d.presentation d.compare x.elements
    pub chain : IsChain (setting d.presentation d.compare x.elements) x.arity x.row x.steps x.last

  -- What makes such an entry one of a run, for each kind of item.
  pub record EntryLaw (n : ℕ) (x : EntryOf d) : Type 0 where
    -- a relation, relabelled
    pub relation : (z : Purpose) (k : ℕ) (r : Relation) (w : List ℕ) → x.item ≡ relabelling z k w → Nth k d.presentation.relations r → r.arity ≡ n
        → is_empty r.terms ≡ false → IsOrdering n w → SameSum d.presentation x.row (shuffled d.presentation (relabelled w r.terms)) → IsEntry d N x
    -- an S-element of two elements at a small common multiple
    pub pair : (elements : List Element) → AreIdealElements d.presentation d.compare elements → (g h : Element) → Mem g elements → Mem h elements
        → (z : Purpose) (t : Tree ℕ) (first second : List ℕ) → IsMultiple n g.lead h.lead t first second → x.item ≡ two_places z t first second
        → SameSum d.presentation x.row (s_element d.presentation.q g h t first second) → IsEntry d N x
    -- a tail
    pub tail : (elements : List Element) → AreIdealElements d.presentation d.compare elements → (g : Element) → Mem g elements → g.arity ≡ n → x.item ≡ tail_of g.lead
        → SameSum d.presentation x.row g.tail → IsEntry d N x
    -- a question
    pub asked : (k : ℕ) (e : Question) → x.item ≡ question k → Nth k d.questions e → e.arity ≡ n → SameSum d.presentation x.row (shuffled d.presentation e.terms) → IsEntry d N x
    -- a cycle type with a tree
    pub traces : (c : List ℕ) (t : Tree ℕ) → x.item ≡ traced c t → d.traces ≡ true → IsReducedBasis d.presentation d.compare x.elements N → IsCycleType n c → IsShuffleTree (item_arity d) n t
        → SameSum d.presentation x.row (shuffled d.presentation (relabelled (type_permutation c) ((1, symmetric_tree d.presentation.generators t) ∷ []))) → IsEntry d N x

-- That holds of each chain over monic elements of the ideal.
abbrev pub EntriesComeAbout : Type 0
EntriesComeAbout = (d : Problem) (N n : ℕ) (x : EntryOf d) → IsChained d N n x → EntryLaw d N n x
