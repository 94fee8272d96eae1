-- The entry of a reduction in a counted run.
use Rattle.std.proofs.Common.{◌≡◌, ℕ, ◌≤◌, List, [], ◌∷◌, refl, sym, ap, ◌∙◌}
use mathlib.Core.List.{◌++◌}
use Rattle.modular_sums.specs.Lists.{Mem}
use Rattle.labelled_trees.specs.Trees.{Tree}
use Rattle.shuffle_insertions.specs.ShuffleTrees.{IsShuffleTree}
use Rattle.shuffle_places.proofs.Sizes.{one_size}
use Rattle.shuffle_places.proofs.Laws.{multiples_fit}
use Rattle.shuffle_bases.specs.Elements.{Element, Insertion}
use Rattle.shuffle_reductions.specs.Chains.{IsChain}
use Rattle.operad_ideals.specs.Presentations.{Relation, Presentation}
use Rattle.shuffle_transfer.specs.GroebnerBases.{setting}
use Rattle.shuffle_transfer.proofs.Orderings.{all_orderings}
use Rattle.shuffle_completion.specs.Completion.{Task, IsUnderway, IsTask}
use Rattle.counted_runs.specs.Items.{Question, Problem, item_arity, completion, Item, relabelling, two_places, tail_of, question, traced, IsItem}
use Rattle.counted_runs.specs.Rows.{AreIdealElements}
use Rattle.counted_runs.specs.Runs.{EntryOf, IsEntry, HasFinished}
use Rattle.counted_runs.specs.FullRuns.{HasItem, HasLeadingTree, IsLastLead}
use Rattle.counted_runs.specs.Calls.{completing, call_of}
use Rattle.counted_runs.specs.Entries.{IsChained}
use Rattle.counted_runs.specs.RunsSoFar.{Follows, IsRunSoFar}
use Rattle.counted_runs.proofs.RunsSoFar.{runs_so_far, serves_all}
use Rattle.counted_runs.proofs.Entries.{entry_law}
use Rattle.counted_runs.specs.Jobs.{Job, relabel, combine, task_of, item_of, row_of, IsJob}
use Rattle.counted_runs.proofs.Numbered.{one_nth, nth_member}

abbrev Sum : Type 0
Sum = List (ℕ × Tree ℕ)

-- ---- the arity of an item

-- an item has one arity
pub one_arity : (d : Problem) (n m : ℕ) (i : Item) → IsItem d n i → IsItem d m i → n ≡ m
one_arity d n m (relabelling z k w) h g = sym h.2 ∙ ap (λ (r : Relation). r.arity) (one_nth k d.presentation.relations h.0 g.0 h.1 g.1) ∙ g.2
one_arity d n m (two_places z t first second) h g = one_size n m t h.0.shuffle g.0.shuffle
one_arity d n m (tail_of t) h g = one_size n m t h.shuffle g.shuffle
one_arity d n m (question k) h g = sym h.2 ∙ ap (λ (e : Question). e.arity) (one_nth k d.questions h.0 g.0 h.1 g.1) ∙ g.2
one_arity d n m (traced c t) h g = one_size n m t h.2.shuffle g.2.shuffle

-- a job is an item of its arity
pub job_item : (d : Problem) (lower : List Element) (n : ℕ) → ((g : Element) → Mem g lower → IsShuffleTree (item_arity d) g.arity g.lead) → (j : Job) → IsJob d.presentation lower n j → IsItem d n (item_of j)
job_item d lower n valid (relabel k r v) h = (r, h.0, h.1, h.2, ((all_orderings n).2 v).0 h.3)
job_item d lower n valid (combine g k t first second) h = (
  multiples_fit (item_arity d) g.arity k.arity n g.lead k.lead t first second (valid g h.0) (valid k h.1) h.4,
  h.4.overlap.first_at.connected,
  h.4.overlap.second_at.connected,
)

-- no job is a tail
pub job_no_tail : (j : Job) (t : Tree ℕ) → item_of j ≡ tail_of t → ⊥
job_no_tail (relabel k r v) t e = cc e
job_no_tail (combine g h u first second) t e = cc e

pub job_completes : (j : Job) → call_of (item_of j) ≡ completing
job_completes (relabel k r v) = refl
job_completes (combine g h t first second) = refl

-- a job over elements of which the lower ones are some is a task
pub job_task : (p : Presentation) (lower elements : List Element) (n : ℕ) → ((g : Element) → Mem g lower → Mem g elements) → (j : Job) → IsJob p lower n j → IsTask p elements n (task_of j)
job_task p lower elements n into (relabel k r v) h = (nth_member k p.relations r h.0, h.1, h.3)
job_task p lower elements n into (combine g k t first second) h = (into g h.0, into k h.1, h.4)

-- ---- entries

module _ (d : Problem) (N : ℕ) where
  -- the entry of an item whose row was reduced by a chain
  abbrev pub entry_by : (n : ℕ) (i : Item) (l : List Element) (row : Sum) (uses : List (ℕ × Insertion (setting d.presentation d.compare l) n)) (last : Sum) → EntryOf d
  entry_by n i l row uses last = record { arity = n; item = i; elements = l; row = row; steps = uses; last = last }

  -- elements under way are monic elements of the ideal
  pub ideal_elements : (l : List Element) (m : ℕ) (tasks : List Task) → IsUnderway d.presentation d.compare l m tasks → AreIdealElements d.presentation d.compare l
  ideal_elements l m tasks u = record { monic = u.certified.monic; in_ideal = u.certified.in_ideal }

  module _ (n : ℕ) (two : 2 ≤ n) (most : n ≤ N) (l : List Element) (are : AreIdealElements d.presentation d.compare l) where
    pub chained : (i : Item) (row : Sum) (uses : List (ℕ × Insertion (setting d.presentation d.compare l) n)) (last : Sum) → IsChain (setting d.presentation d.compare l) n row uses last
        → IsChained d N n (entry_by n i l row uses last)
    chained i row uses last c = record {
      from_two = two;
      to_most = most;
      arity_is = refl;
      ideal_elements = are;
      chain = c;
    }

    -- that of a job
    pub job_entry : (lower : List Element) → ((g : Element) → Mem g lower → Mem g l) → (j : Job) → IsJob d.presentation lower n j
        → (uses : List (ℕ × Insertion (setting d.presentation d.compare l) n)) (last : Sum) → IsChain (setting d.presentation d.compare l) n (row_of d.presentation j) uses last
        → IsEntry d N (entry_by n (item_of j) l (row_of d.presentation j) uses last)
    job_entry lower into (relabel k r v) h uses last c =
        (entry_law d N n (entry_by n (item_of (relabel k r v)) l (row_of d.presentation (relabel k r v)) uses last) (chained (item_of (relabel k r v)) (row_of d.presentation (relabel k r v)) uses last c)).relation
        completion k r v refl h.0 h.1 h.2 (((all_orderings n).2 v).0 h.3) (λ t. refl)
    job_entry lower into (combine g k t first second) h uses last c =
        (entry_law d N n (entry_by n (item_of (combine g k t first second)) l (row_of d.presentation (combine g k t first second)) uses last) (chained (item_of (combine g k t first second)) (row_of d.presentation (combine g k t first second)) uses last c)).pair
        l are g k (into g h.0) (into k h.1) completion t first second h.4 refl (λ u. refl)

    -- the run so far grows by it
    pub job_grows : (run : List (EntryOf d)) → IsRunSoFar d N n l run → (lower : List Element) → ((g : Element) → Mem g lower → Mem g l) → (j : Job) → IsJob d.presentation lower n j
        → (uses : List (ℕ × Insertion (setting d.presentation d.compare l) n)) (last : Sum) → IsChain (setting d.presentation d.compare l) n (row_of d.presentation j) uses last
        → HasFinished (entry_by n (item_of j) l (row_of d.presentation j) uses last) → (HasItem run (item_of j) → ⊥)
        → (next : List Element) → Follows n l next → ((t : Tree ℕ) → IsLastLead (entry_by n (item_of j) l (row_of d.presentation j) uses last) t → HasLeadingTree next t)
        → IsRunSoFar d N n next (run ++ (entry_by n (item_of j) l (row_of d.presentation j) uses last ∷ []))
    job_grows run so lower into (relabel k r v) h uses last c finished fresh next follows kept =
        ((runs_so_far d N).1 n l run so).relation next (entry_by n (item_of (relabel k r v)) l (row_of d.presentation (relabel k r v)) uses last) k v
        (job_entry lower into (relabel k r v) h uses last c) finished refl refl fresh (serves_all d n l l (λ g m. m)) follows kept
    job_grows run so lower into (combine g k t first second) h uses last c finished fresh next follows kept =
        ((runs_so_far d N).1 n l run so).pair are next (entry_by n (item_of (combine g k t first second)) l (row_of d.presentation (combine g k t first second)) uses last)
        g k (into g h.0) (into k h.1) h.2 h.3 t first second refl (record { first_at = h.4.overlap.first_at; second_at = h.4.overlap.second_at; row_is = λ u. refl })
        (job_entry lower into (combine g k t first second) h uses last c) finished refl fresh (serves_all d n l l (λ g m. m)) follows kept
