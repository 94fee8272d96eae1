-- The laws of the loops of the completion.
use Rattle.std.specs.Prelude.{ℕ, ◌≡◌, ◌+◌, ◌≤◌, List, [], ◌∷◌, ◌++◌}
use Rattle.std.proofs.Common.{suc}
use Rattle.modular_sums.specs.Lists.{Mem, Distinct}
use Rattle.labelled_trees.specs.Trees.{Tree}
use Rattle.shuffle_bases.specs.Elements.{Element, IsMonic}
use Rattle.shuffle_reductions.specs.Chains.{HasNoZeros}
use Rattle.shuffle_transfer.specs.GroebnerBases.{setting}
use Rattle.shuffle_completion.specs.Completion.{IsMultipleOf}
use Rattle.counted_runs.specs.Items.{Problem}
use Rattle.counted_runs.specs.Calls.{CountsStoppedCompletion, CountsFullRun}
use Rattle.counted_runs.specs.Jobs.{Job, row_of, AreJobs}
use Rattle.counted_runs.specs.Reductions.{ReducesTo, StopsAt}
use Rattle.counted_runs.specs.Stages.{IsGiven, IsThrough, IsAtRows, IsAtTails}

-- The completion begins through arity 1, with no elements and no steps.
abbrev pub LoopBegins : Type 0
LoopBegins = (d : Problem) (N : ℕ) → IsGiven d → IsThrough d N 1 [] 0

-- Then it comes to the rows of the next arity, all of whose jobs are left.
abbrev pub RowsBegin : Type 0
RowsBegin = (d : Problem) (N m : ℕ) (elements : List Element) (spent : ℕ) → IsThrough d N m elements spent → 1 ≤ m → suc m ≤ N
    → (jobs : List Job) → AreJobs d.presentation elements (suc m) jobs → IsAtRows d N m elements [] [] jobs spent

-- A row that reduces to 0 leaves the elements as they are.
abbrev pub RowEndsInZero : Type 0
RowEndsInZero = (d : Problem) (N m : ℕ) → IsGiven d → (lower new : List Element) (done : List Job) (j : Job) (left : List Job) (spent : ℕ) → IsAtRows d N m lower new done (j ∷ left) spent
    → (count : ℕ) → ReducesTo (setting d.presentation d.compare (lower ++ new)) (suc m) (row_of d.presentation j) [] count
    → IsAtRows d N m lower new (done ++ (j ∷ [])) left (spent + count)

-- A row that reduces to a multiple of a monic element adds this element.
abbrev pub RowEndsInElement : Type 0
RowEndsInElement = (d : Problem) (N m : ℕ) → IsGiven d → (lower new : List Element) (done : List Job) (j : Job) (left : List Job) (spent : ℕ) → IsAtRows d N m lower new done (j ∷ left) spent
    → (f : List (ℕ × Tree ℕ)) (count : ℕ) → ReducesTo (setting d.presentation d.compare (lower ++ new)) (suc m) (row_of d.presentation j) f count
    → (g : Element) → g.arity ≡ suc m → IsMonic (setting d.presentation d.compare (lower ++ new)) g → IsMultipleOf d.presentation.q f g
    → IsAtRows d N m lower (new ++ (g ∷ [])) (done ++ (j ∷ [])) left (spent + count)

-- Where the steps end in a row, the count rose by the length of a stopped run.
abbrev pub RowStops : Type 0
RowStops = (d : Problem) (N m : ℕ) (lower new : List Element) (done : List Job) (j : Job) (left : List Job) (spent : ℕ) → IsAtRows d N m lower new done (j ∷ left) spent
    → (f : List (ℕ × Tree ℕ)) (count : ℕ) → StopsAt (setting d.presentation d.compare (lower ++ new)) (suc m) (row_of d.presentation j) f count
    → (before : ℕ) → CountsStoppedCompletion d N before (before + (spent + count)) f

-- Once no job is left, the tails of the new elements come, in any order of their leading trees.
abbrev pub TailsBegin : Type 0
TailsBegin = (d : Problem) (N m : ℕ) → IsGiven d → (lower new : List Element) (done : List Job) (spent : ℕ) → IsAtRows d N m lower new done [] spent
    → (pending : List (Tree ℕ)) → Distinct pending → ((g : Element) → Mem g new → Mem g.lead pending) → ((t : Tree ℕ) → Mem t pending → (g : Element) × Mem g new × (g.lead ≡ t))
    → IsAtTails d N m (lower ++ new) (lower ++ new) pending spent

-- The tail of the element with the next pending leading tree is replaced by what it reduces to.
abbrev pub TailIsReduced : Type 0
TailIsReduced = (d : Problem) (N m : ℕ) → IsGiven d → (elements front : List Element) (g : Element) (back : List Element) (pending : List (Tree ℕ)) (spent : ℕ)
    → IsAtTails d N m elements (front ++ (g ∷ back)) (g.lead ∷ pending) spent
    → (f : List (ℕ × Tree ℕ)) (count : ℕ) → ReducesTo (setting d.presentation d.compare (front ++ (g ∷ back))) (suc m) g.tail f count → HasNoZeros d.presentation.q f
    → IsAtTails d N m elements (front ++ (record { arity = suc m; lead = g.lead; tail = f } ∷ back)) pending (spent + count)

-- Where the steps end in a tail, the count rose by the length of a stopped run.
abbrev pub TailStops : Type 0
TailStops = (d : Problem) (N m : ℕ) → IsGiven d → (elements front : List Element) (g : Element) (back : List Element) (pending : List (Tree ℕ)) (spent : ℕ)
    → IsAtTails d N m elements (front ++ (g ∷ back)) (g.lead ∷ pending) spent
    → (f : List (ℕ × Tree ℕ)) (count : ℕ) → StopsAt (setting d.presentation d.compare (front ++ (g ∷ back))) (suc m) g.tail f count
    → (before : ℕ) → CountsStoppedCompletion d N before (before + (spent + count)) f

-- Once no tail is pending, the completion is through the arity.
abbrev pub ArityIsDone : Type 0
ArityIsDone = (d : Problem) (N m : ℕ) → IsGiven d → (elements now : List Element) (spent : ℕ) → IsAtTails d N m elements now [] spent → IsThrough d N (suc m) now spent

-- Through the last arity, the count rose by the length of a full run over the elements, which are the reduced basis.
abbrev pub LoopEnds : Type 0
LoopEnds = (d : Problem) (N : ℕ) → IsGiven d → (elements : List Element) (spent : ℕ) → IsThrough d N N elements spent → (before : ℕ) → CountsFullRun d N elements before (before + spent)
