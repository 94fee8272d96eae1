-- What the completion keeps of its counted run while it goes through an arity.
use Rattle.std.specs.Prelude.{ℕ, ◌≡◌, ◌+◌, ◌<◌, ◌≤◌, ◌⊎◌, ◌↔◌, List, [], ◌∷◌, ◌++◌, length}
use Rattle.std.proofs.Common.{suc, false}
use Rattle.modular_sums.specs.Lists.{Mem, Nth}
use Rattle.labelled_trees.specs.Trees.{Tree}
use Rattle.shuffle_places.specs.Places.{IsPlace}
use Rattle.shuffle_places.specs.Multiples.{IsMultiple}
use Rattle.shuffle_bases.specs.Elements.{Element}
use Rattle.shuffle_normal_forms.specs.FreeTrees.{is_empty}
use Rattle.operad_ideals.specs.Presentations.{Relation}
use Rattle.shuffle_transfer.specs.Orderings.{IsOrdering}
use Rattle.shuffle_completion.specs.ReducedBases.{IsReducedBasis}
use Rattle.counted_runs.specs.Items.{Problem, Purpose, completion, Item, relabelling, two_places, tail_of}
use Rattle.counted_runs.specs.Rows.{SameSum, AreIdealElements, IsSElement}
use Rattle.counted_runs.specs.Runs.{AtLast, EntryOf, HasFinished, HasStopped, IsEntry, IsFinishedRun, IsStoppedRun, run_length}
use Rattle.counted_runs.specs.FullRuns.{InSequence, IsRelationOrPair, HasLeadingTree, HoldsElement, HasItem, IsLastLead, KeepsLead, IsFullRun}
use Rattle.counted_runs.specs.Calls.{completing, call_of, IsMadeOf}

-- The list of a chain of arity n serves the current elements: it holds those of lower arity, and has the leading trees of all.
pub record Serves (d : Problem) (n : ℕ) (now l : List Element) : Type 0 where
  pub lower : (g : Element) → Mem g now → g.arity < n → HoldsElement d.presentation l g
  pub leads : (g : Element) → Mem g now → HasLeadingTree l g.lead

-- The elements that are current next follow those that are current now, in arity n: those of lower arity were there, and the
-- leading trees of all are still there. One more element of arity n, and other tails in arity n, are allowed.
pub record Follows (n : ℕ) (now next : List Element) : Type 0 where
  pub lower : (g : Element) → Mem g next → g.arity < n → Mem g now
  pub leads : (g : Element) → Mem g now → HasLeadingTree next g.lead

module _ (d : Problem) (N : ℕ) where
  -- The run so far, in arity n, with the current elements: it is finished, made of the completion's items, and has no arity above n;
  -- each list holds the current elements of lower arity; each row of a tree with two places is the S-element of the current elements
  -- of lower arity with these divisors; leading trees of last rows are kept by later lists, and by the current elements.
  pub record IsRunSoFar (n : ℕ) (now : List Element) (run : List (EntryOf d)) : Type 0 where
    pub finished : IsFinishedRun d N run
    pub made_of : IsMadeOf completing run
    pub up_to : (x : EntryOf d) → Mem x run → x.arity ≤ n
    pub lower : (x : EntryOf d) → Mem x run → (g : Element) → Mem g now → g.arity < x.arity → HoldsElement d.presentation x.elements g
    pub rows : (x : EntryOf d) → Mem x run → (g h : Element) → Mem g now → Mem h now → g.arity < x.arity → h.arity < x.arity
        → (z : Purpose) (t : Tree ℕ) (first second : List ℕ) → x.item ≡ two_places z t first second → IsPlace t first g.lead → IsPlace t second h.lead
        → IsSElement d.presentation t first second g h x.row
    pub leads : InSequence KeepsLead run
    pub kept : (x : EntryOf d) → Mem x run → IsRelationOrPair x.item → (t : Tree ℕ) → IsLastLead x t → HasLeadingTree now t

  -- what each step of the loops does to the run so far
  pub record RunSoFarLaw (n : ℕ) (now : List Element) (run : List (EntryOf d)) (so_far : IsRunSoFar n now run) : Type 0 where
    -- a relabelled relation is reduced; the leading tree of what is left, if that isn't 0, is that of an element from now on
    pub relation : (next : List Element) (x : EntryOf d) (k : ℕ) (w : List ℕ) → IsEntry d N x → HasFinished x → x.arity ≡ n → x.item ≡ relabelling completion k w
        → (HasItem run x.item → ⊥) → Serves d n now x.elements → Follows n now next → ((t : Tree ℕ) → IsLastLead x t → HasLeadingTree next t)
        → IsRunSoFar n next (run ++ (x ∷ []))
    -- the same for an S-element of two elements of lower arity
    pub pair : AreIdealElements d.presentation d.compare now → (next : List Element) (x : EntryOf d) (g h : Element) → Mem g now → Mem h now → g.arity < n → h.arity < n
        → (t : Tree ℕ) (first second : List ℕ) → x.item ≡ two_places completion t first second → IsSElement d.presentation t first second g h x.row
        → IsEntry d N x → HasFinished x → x.arity ≡ n
        → (HasItem run x.item → ⊥) → Serves d n now x.elements → Follows n now next → ((t : Tree ℕ) → IsLastLead x t → HasLeadingTree next t)
        → IsRunSoFar n next (run ++ (x ∷ []))
    -- a tail is reduced
    pub tail : (x : EntryOf d) (t : Tree ℕ) → x.item ≡ tail_of t → IsEntry d N x → HasFinished x → x.arity ≡ n → (HasItem run x.item → ⊥)
        → ((g : Element) → Mem g now → g.arity < n → HoldsElement d.presentation x.elements g) → IsRunSoFar n now (run ++ (x ∷ []))
    -- the current elements of arity n change, but not their leading trees
    pub changed : (next : List Element) → Follows n now next → IsRunSoFar n next run
    -- the next arity begins
    pub next_arity : IsRunSoFar (suc n) now run
    -- the number of steps ends in the middle of a chain
    pub stopped : (x : EntryOf d) → IsEntry d N x → HasStopped x → call_of x.item ≡ completing → (HasItem run x.item → ⊥)
        → IsStoppedRun d N (run ++ (x ∷ [])) × IsMadeOf completing (run ++ (x ∷ []))
        × ((row : List (ℕ × Tree ℕ)) → SameSum d.presentation x.last row → AtLast (λ y. SameSum d.presentation y.last row) (run ++ (x ∷ [])))
    -- once all relations with all permutations, and all small common multiples, are items, and the elements are the reduced basis,
    -- the run is full
    pub full : IsReducedBasis d.presentation d.compare now N
        → ((k : ℕ) (r : Relation) → Nth k d.presentation.relations r → is_empty r.terms ≡ false → 2 ≤ r.arity → r.arity ≤ N → (w : List ℕ) → IsOrdering r.arity w
        → HasItem run (relabelling completion k w))
        → ((m : ℕ) → m ≤ N → (g h : Element) → Mem g now → Mem h now → (t : Tree ℕ) (first second : List ℕ) → IsMultiple m g.lead h.lead t first second
        → (g.arity < m) × (h.arity < m) × (HasItem run (two_places completion t first second) ⊎ HasItem run (two_places completion t second first)))
        → IsFullRun d N now run
    -- the items and the steps of one more entry
    pub items : (x : EntryOf d) (i : Item) → HasItem (run ++ (x ∷ [])) i ↔ (HasItem run i ⊎ (x.item ≡ i))
    pub steps : (x : EntryOf d) → run_length (run ++ (x ∷ [])) ≡ run_length run + length x.steps

-- The completion's run begins with no entries, and grows by one entry for each chain.
abbrev pub RunsSoFarGrow : Type 0
RunsSoFarGrow = (d : Problem) (N : ℕ)
    → ((n : ℕ) (now : List Element) → IsRunSoFar d N n now [])
    × ((n : ℕ) (now : List Element) (run : List (EntryOf d)) (so_far : IsRunSoFar d N n now run) → RunSoFarLaw d N n now run so_far)
