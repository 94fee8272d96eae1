-- The items of one call, and the steps that it counts.
use Rattle.std.specs.Prelude.{ℕ, ◌≡◌, ◌+◌, ◌≤◌, List}
use Rattle.std.specs.declared.cmp.Ordering.{Ordering}
use Rattle.modular_sums.specs.Lists.{Mem, Nth}
use Rattle.labelled_trees.specs.Trees.{Tree}
use Rattle.shuffle_bases.specs.Elements.{Element}
use Rattle.operad_ideals.specs.Presentations.{Presentation}
use Rattle.shuffle_completion.specs.ReducedBases.{IsReducedBasis}
use Rattle.counted_runs.specs.Items.{Question, Problem, Purpose, completion, certificate, Item, relabelling, two_places, tail_of, question, traced}
use Rattle.counted_runs.specs.Rows.{SameSum}
use Rattle.counted_runs.specs.Runs.{AtLast, Entry, EntryOf, IsFinishedRun, IsStoppedRun, run_length}
use Rattle.counted_runs.specs.FullRuns.{IsRelationOrPair, HasLeadingTree, HasItem, IsLastLead, IsFullRun}

-- A call that counts steps: the completion; the making of a certificate; the answer to a question, by its number; the trace of a
-- cycle type.
pub data Call : Type 0 where
  completing : Call
  certifying : Call
  answering : ℕ → Call
  tracing : List ℕ → Call

-- the call for which a relation with a permutation, or a tree with two places, is reduced
abbrev pub call_for : Purpose → Call
call_for completion = completing
call_for certificate = certifying

-- The call of an item: the completion reduces relations with permutations, trees with two places and tails; the certificate reduces
-- relations with permutations and trees with two places for the second time; the others reduce the one question, and the one cycle
-- type with each tree.
abbrev pub call_of : Item → Call
call_of (relabelling z k w) = call_for z
call_of (two_places z t first second) = call_for z
call_of (tail_of t) = completing
call_of (question k) = answering k
call_of (traced c t) = tracing c

-- the run is made of the call's items
abbrev pub IsMadeOf : {p : Presentation} {compare : Tree ℕ → Tree ℕ → Ordering} → Call → List (Entry p compare) → Type 0
IsMadeOf {p} {compare} c run = (x : Entry p compare) → Mem x run → call_of x.item ≡ c

-- The count rose, from `before` to `after`, by the length of a counted run through N over the basis, made of the call's items, of
-- which all chains are finished.
pub record CountsRun (d : Problem) (N : ℕ) (c : Call) (basis : List Element) (before after : ℕ) : Type 0 where
  pub run : List (EntryOf d)
  pub finished : IsFinishedRun d N run
  pub over : (x : EntryOf d) → Mem x run → x.elements ≡ basis
  pub made_of : IsMadeOf c run
  pub counted : after ≡ before + run_length run

-- The same for the question with number k, which is an item of the run where its arity is from 2 to N.
pub record CountsAnswer (d : Problem) (N k : ℕ) (basis : List Element) (before after : ℕ) : Type 0 where
  pub counts : CountsRun d N (answering k) basis before after
  pub has_item : (e : Question) → Nth k d.questions e → 2 ≤ e.arity → e.arity ≤ N → HasItem counts.run (question k)

-- The same for the trace of a cycle type: the basis is the reduced one.
pub record CountsTrace (d : Problem) (N : ℕ) (c : List ℕ) (basis : List Element) (before after : ℕ) : Type 0 where
  pub counts : CountsRun d N (tracing c) basis before after
  pub reduced : IsReducedBasis d.presentation d.compare basis N

-- The count rose by the length of a stopped counted run through N over the basis, made of the call's items, whose last row is this
-- one.
pub record CountsStoppedRun (d : Problem) (N : ℕ) (c : Call) (basis : List Element) (before after : ℕ) (row : List (ℕ × Tree ℕ)) : Type 0 where
  pub run : List (EntryOf d)
  pub stopped : IsStoppedRun d N run
  pub over : (x : EntryOf d) → Mem x run → x.elements ≡ basis
  pub made_of : IsMadeOf c run
  pub counted : after ≡ before + run_length run
  pub last_row : AtLast (λ x. SameSum d.presentation x.last row) run

-- The same for the completion, whose chains run over the elements that are current at each of them.
pub record CountsStoppedCompletion (d : Problem) (N : ℕ) (before after : ℕ) (row : List (ℕ × Tree ℕ)) : Type 0 where
  pub run : List (EntryOf d)
  pub stopped : IsStoppedRun d N run
  pub made_of : IsMadeOf completing run
  pub counted : after ≡ before + run_length run
  pub last_row : AtLast (λ x. SameSum d.presentation x.last row) run

-- The count rose by the length of a full counted run over the basis, which is the reduced one, made of the completion's items; leading trees of last rows of relations and
-- S-elements are those of elements of the basis.
pub record CountsFullRun (d : Problem) (N : ℕ) (basis : List Element) (before after : ℕ) : Type 0 where
  pub run : List (EntryOf d)
  pub full : IsFullRun d N basis run
  pub made_of : IsMadeOf completing run
  pub kept : (x : EntryOf d) → Mem x run → IsRelationOrPair x.item → (t : Tree ℕ) → IsLastLead x t → HasLeadingTree basis t
  pub counted : after ≡ before + run_length run
