-- Where a completion with its counted run is: at the rows of an arity, at its tails, or through an arity.
use Rattle.std.specs.Prelude.{ℕ, ◌≡◌, ◌<◌, ◌≤◌, List, [], ◌∷◌, ◌++◌, map}
use Rattle.std.proofs.Common.{suc, ◌⊎◌, false}
use Rattle.modular_sums.specs.Lists.{Mem, Distinct, Nth}
use Rattle.labelled_trees.specs.Trees.{Tree}
use Rattle.shuffle_insertions.specs.ShuffleTrees.{IsShuffleTree}
use Rattle.shuffle_insertions.specs.Orders.{IsTreeOrder}
use Rattle.shuffle_places.specs.Multiples.{IsMultiple}
use Rattle.shuffle_bases.specs.Elements.{Element, Setting}
use Rattle.shuffle_normal_forms.specs.FreeTrees.{is_empty}
use Rattle.shuffle_reductions.specs.Extensions.{Extends}
use Rattle.operad_ideals.specs.Presentations.{Relation, IsSound, IsWide, IsProper}
use Rattle.shuffle_transfer.specs.Orderings.{IsOrdering}
use Rattle.shuffle_transfer.specs.GroebnerBases.{setting}
use Rattle.shuffle_completion.specs.Completion.{Task, IsCompletedThrough, IsUnderway, AreAll, IsTailReduced}
use Rattle.counted_runs.specs.Items.{Problem, item_arity, completion, relabelling, two_places, tail_of}
use Rattle.counted_runs.specs.Runs.{EntryOf, run_length}
use Rattle.counted_runs.specs.FullRuns.{HasItem}
use Rattle.counted_runs.specs.RunsSoFar.{IsRunSoFar}
use Rattle.counted_runs.specs.Jobs.{Job, task_of, item_of, AreJobs}

-- What is asked of a problem: its relations are labelled and of an arity of two or more, its generators have two inputs or more,
-- numbers count modulo 2 or more, and the comparison is an order of trees.
pub record IsGiven (d : Problem) : Type 0 where
  pub sound : IsSound d.presentation
  pub wide : IsWide d.presentation
  pub proper : IsProper d.presentation
  pub positive : 0 < d.presentation.q
  pub order : IsTreeOrder (item_arity d) d.compare

-- Each relation with terms of arity at most m is an item with each permutation, and each small common multiple of arity at most m of
-- two elements of lower arity, in one of their two orders.
pub record HasAll (d : Problem) (m : ℕ) (elements : List Element) (run : List (EntryOf d)) : Type 0 where
  pub relations : (k : ℕ) (r : Relation) → Nth k d.presentation.relations r → is_empty r.terms ≡ false → 2 ≤ r.arity → r.arity ≤ m
      → (w : List ℕ) → IsOrdering r.arity w → HasItem run (relabelling completion k w)
  pub multiples : (n : ℕ) → n ≤ m → (g h : Element) → Mem g elements → Mem h elements → g.arity < n → h.arity < n → (t : Tree ℕ) (first second : List ℕ)
      → IsMultiple n g.lead h.lead t first second → HasItem run (two_places completion t first second) ⊎ HasItem run (two_places completion t second first)

-- In the second list h stands for g: it is g, of lower arity, or of arity n with its tail still to reduce; or g with its tail reduced.
abbrev pub IsBecoming : Setting → ℕ → List (Tree ℕ) → Element → Element → Type 0
IsBecoming s n pending g h = ((g.arity < n) × (h ≡ g)) ⊎ (((g.arity ≡ n) × (h ≡ g) × Mem g.lead pending) ⊎ ((g.arity ≡ n) × IsTailReduced s g h × (Mem g.lead pending → ⊥)))

-- the elements of the second list stand for those of the first, in order
abbrev pub AreBecoming : Setting → ℕ → List (Tree ℕ) → List Element → List Element → Type 0
AreBecoming s n pending [] [] = Unit {0}
AreBecoming s n pending [] (h ∷ m) = ⊥
AreBecoming s n pending (g ∷ l) [] = ⊥
AreBecoming s n pending (g ∷ l) (h ∷ m) = IsBecoming s n pending g h × AreBecoming s n pending l m

module _ (d : Problem) (N : ℕ) where
  -- The completion is through arity n, and so many steps were taken: the elements are complete, and the run so far has all items of
  -- the relations and small common multiples.
  pub record IsThrough (n : ℕ) (elements : List Element) (spent : ℕ) : Type 0 where
    pub complete : IsCompletedThrough d.presentation d.compare elements n
    pub run : List (EntryOf d)
    pub so_far : IsRunSoFar d N n elements run
    pub all : HasAll d n elements run
    pub counted : spent ≡ run_length run

  -- The completion is at the rows of arity m + 1: over the elements of lower arity and the new ones these jobs are done and those are
  -- left, and so many steps were taken.
  pub record IsAtRows (m : ℕ) (lower new : List Element) (done left : List Job) (spent : ℕ) : Type 0 where
    pub from_one : 1 ≤ m
    pub to_most : suc m ≤ N
    pub low : (g : Element) → Mem g lower → g.arity ≤ m
    pub high : (g : Element) → Mem g new → g.arity ≡ suc m
    pub jobs : AreJobs d.presentation lower (suc m) (done ++ left)
    pub underway : IsUnderway d.presentation d.compare (lower ++ new) m (map task_of done)
    pub run : List (EntryOf d)
    pub so_far : IsRunSoFar d N (suc m) (lower ++ new) run
    pub before : HasAll d m (lower ++ new) run
    pub items : (j : Job) → Mem j done → HasItem run (item_of j)
    pub fresh : (j : Job) → Mem j left → HasItem run (item_of j) → ⊥
    pub no_tails : (t : Tree ℕ) → IsShuffleTree (item_arity d) (suc m) t → HasItem run (tail_of t) → ⊥
    pub counted : spent ≡ run_length run

  -- The completion is at the tails of arity m + 1: of the elements those with pending leading trees still have their tails, the others
  -- of the arity have them reduced; so the elements are now these.
  pub record IsAtTails (m : ℕ) (elements now : List Element) (pending : List (Tree ℕ)) (spent : ℕ) : Type 0 where
    pub from_one : 1 ≤ m
    pub to_most : suc m ≤ N
    pub tasks : List Task
    pub underway : IsUnderway d.presentation d.compare elements m tasks
    pub all_tasks : AreAll d.presentation elements (suc m) tasks
    pub extends : Extends (setting d.presentation d.compare elements) now
    pub becoming : AreBecoming (setting d.presentation d.compare elements) (suc m) pending elements now
    pub leads_once : Distinct (map (λ g. g.lead) now)
    pub once : Distinct pending
    pub valid : (t : Tree ℕ) → Mem t pending → IsShuffleTree (item_arity d) (suc m) t
    pub run : List (EntryOf d)
    pub so_far : IsRunSoFar d N (suc m) now run
    pub all : HasAll d (suc m) now run
    pub fresh : (t : Tree ℕ) → Mem t pending → HasItem run (tail_of t) → ⊥
    pub counted : spent ≡ run_length run
