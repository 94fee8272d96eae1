-- The rows of an arity.
use Rattle.std.proofs.Common.{◌≡◌, ℕ, suc, ◌+◌, ◌*◌, ◌%◌, ◌<◌, ◌≤◌, List, [], ◌∷◌, length, map, refl, sym, ap, ◌∙◌, subst, arith, ◌⊎◌, inl, inr}
use mathlib.Core.List.{◌++◌}
use Rattle.modular_sums.specs.Lists.{Mem, Distinct}
use Rattle.labelled_trees.specs.Trees.{Tree}
use Rattle.labelled_trees.specs.Equality.{tree_discrete}
use Rattle.modular_sums.specs.Sums.{coef}
use Rattle.modular_sums.specs.Residues.{IsCongruent}
use Rattle.modular_sums.proofs.Lists.{mem_left, mem_right, mem_map}
use Rattle.modular_sums.proofs.Sums.{coef-scale}
use Rattle.modular_sums.proofs.Images.{AllTerms-imp}
use Rattle.modular_sums.proofs.Coefficients.{coef_absent, coef_first}
use Rattle.shuffle_insertions.specs.ShuffleTrees.{IsShuffleTree}
use Rattle.shuffle_bases.specs.Elements.{Element, terms, Setting, IsLess, IsMonic, Insertion}
use Rattle.shuffle_normal_forms.specs.NormalForms.{IsLeadingTree}
use Rattle.shuffle_normal_forms.proofs.Leading.{not_less}
use Rattle.shuffle_reductions.specs.Chains.{IsChain}
use Rattle.shuffle_reductions.proofs.Laws.{elements_extend_themselves}
use Rattle.shuffle_transfer.specs.GroebnerBases.{setting}
use Rattle.shuffle_completion.specs.Completion.{Task, IsUnderway, IsMultipleOf}
use Rattle.shuffle_completion.proofs.NewElements.{inverse_not_zero}
use Rattle.shuffle_completion.proofs.Laws.{task_ends_in_zero, task_ends_in_element, order_does_not_matter, arity_begins}
use Rattle.counted_runs.specs.Items.{Problem, item_arity, Item, tail_of, IsItem}
use Rattle.counted_runs.specs.Runs.{EntryOf, IsEntry, run_length, HasFinished, HasStopped}
use Rattle.counted_runs.specs.FullRuns.{HasItem, HasLeadingTree, IsLastLead}
use Rattle.counted_runs.specs.Calls.{completing, call_of, CountsStoppedCompletion}
use Rattle.counted_runs.specs.RunsSoFar.{Follows, IsRunSoFar, RunSoFarLaw}
use Rattle.counted_runs.proofs.RunsSoFar.{runs_so_far, follows_same, follows_more}
use Rattle.counted_runs.proofs.LastLeads.{no_last_lead, one_last_lead}
use Rattle.counted_runs.specs.Jobs.{Job, task_of, item_of, row_of, IsJob, AreJobs}
use Rattle.counted_runs.specs.Stages.{IsGiven, HasAll, IsAtRows}
use Rattle.counted_runs.specs.LoopLaws.{RowsBegin, RowEndsInZero, RowEndsInElement, RowStops}
use Rattle.counted_runs.proofs.Lists.{append_nothing, append_again, behind, mem_last, images_behind, distinct_back}
use Rattle.counted_runs.proofs.JobEntries.{one_arity, job_item, job_no_tail, job_completes, job_task, entry_by, ideal_elements, job_entry, job_grows}

abbrev Sum : Type 0
Sum = List (ℕ × Tree ℕ)

-- what has all items has them in a longer run, over elements of which those of low arity were there
pub all_grown : (d : Problem) (m : ℕ) (now next : List Element) (run more : List (EntryOf d)) → HasAll d m now run → ((i : Item) → HasItem run i → HasItem more i) → ((g : Element) → Mem g next → g.arity < m → Mem g now)
    → HasAll d m next more
all_grown d m now next run more a up lower = record {
  relations = λ k r n e two le w o. up _ (a.relations k r n e two le w o);
  multiples = λ n le g h mg mh lg lh t first second k. either (a.multiples n le g h (lower g mg (omega (arith, le, lg))) (lower h mh (omega (arith, le, lh))) lg lh t first second k);
}
  where
    either : {i j : Item} → HasItem run i ⊎ HasItem run j → HasItem more i ⊎ HasItem more j
    either {i} {j} (inl h) = inl (up i h)
    either {i} {j} (inr h) = inr (up j h)

module _ (d : Problem) (N m : ℕ) (lower new : List Element) (done : List Job) (j : Job) (left : List Job) (spent : ℕ) (a : IsAtRows d N m lower new done (j ∷ left) spent) where
  abbrev elements : List Element
  elements = lower ++ new

  abbrev s : Setting
  s = setting d.presentation d.compare (lower ++ new)

  into : (g : Element) → Mem g lower → Mem g (lower ++ new)
  into g h = mem_left g lower new h

  pub job : IsJob d.presentation lower (suc m) j
  job = a.jobs.each j (mem_right j done (j ∷ left) (inl refl))

  pub two : 2 ≤ suc m
  two = let h = a.from_one in omega (arith, h)

  pub jobs_next : AreJobs d.presentation lower (suc m) ((done ++ (j ∷ [])) ++ left)
  jobs_next = subst (AreJobs d.presentation lower (suc m)) (behind done j left) a.jobs

  module _ (f : Sum) (uses : List (ℕ × Insertion (setting d.presentation d.compare (lower ++ new)) (suc m)))
      (chain : IsChain (setting d.presentation d.compare (lower ++ new)) (suc m) (row_of d.presentation j) uses f) where
    abbrev x : EntryOf d
    x = entry_by d N (suc m) (item_of j) (lower ++ new) (row_of d.presentation j) uses f

    law : RunSoFarLaw d N (suc m) (lower ++ new) a.run a.so_far
    law = (runs_so_far d N).1 (suc m) (lower ++ new) a.run a.so_far

    up : (i : Item) → HasItem a.run i → HasItem (a.run ++ (x ∷ [])) i
    up i h = (law.items x i).1 (inl h)

    here : HasItem (a.run ++ (x ∷ [])) (item_of j)
    here = (law.items x (item_of j)).1 (inr refl)

    fresh_next : (k : Job) → Mem k left → HasItem (a.run ++ (x ∷ [])) (item_of k) → ⊥
    fresh_next k mk h = go ((law.items x (item_of k)).0 h)
      where
        once : Distinct (map item_of (j ∷ left))
        once = distinct_back item_of done (j ∷ left) a.jobs.once

        go : HasItem a.run (item_of k) ⊎ (item_of j ≡ item_of k) → ⊥
        go (inl i) = a.fresh k (inr mk) i
        go (inr e) = once.0 (subst (λ i. Mem i (map item_of left)) (sym e) (mem_map item_of k left mk))

    no_tails_next : (t : Tree ℕ) → IsShuffleTree (item_arity d) (suc m) t → HasItem (a.run ++ (x ∷ [])) (tail_of t) → ⊥
    no_tails_next t v h = go ((law.items x (tail_of t)).0 h)
      where
        go : HasItem a.run (tail_of t) ⊎ (item_of j ≡ tail_of t) → ⊥
        go (inl i) = a.no_tails t v i
        go (inr e) = job_no_tail j t e

    items_next : (k : Job) → Mem k (done ++ (j ∷ [])) → HasItem (a.run ++ (x ∷ [])) (item_of k)
    items_next k mk = go (mem_last j k done mk)
      where
        go : Mem k done ⊎ (k ≡ j) → HasItem (a.run ++ (x ∷ [])) (item_of k)
        go (inl h) = up (item_of k) (a.items k h)
        go (inr e) = subst (λ i. HasItem (a.run ++ (x ∷ [])) (item_of i)) (sym e) here

    length_next : (count : ℕ) → count ≡ length uses → spent + count ≡ run_length (a.run ++ (x ∷ []))
    length_next count e = let l = law.steps x in let c = a.counted in omega (arith, l, e, c)

    -- one more row is reduced, where these new elements follow
    pub row_done : (next : List Element) (count : ℕ) → count ≡ length uses → HasFinished x → ((g : Element) → Mem g next → g.arity ≡ suc m)
        → IsUnderway d.presentation d.compare (lower ++ next) m (task_of j ∷ map task_of done)
        → Follows (suc m) (lower ++ new) (lower ++ next) → ((t : Tree ℕ) → IsLastLead x t → HasLeadingTree (lower ++ next) t)
        → IsAtRows d N m lower next (done ++ (j ∷ [])) left (spent + count)
    row_done next count count_is finished high u follows kept = record {
      from_one = a.from_one;
      to_most = a.to_most;
      low = a.low;
      high = high;
      jobs = jobs_next;
      underway = (order_does_not_matter d.presentation d.compare (lower ++ next) m (lower ++ next) u.certified.once (λ g. (λ h. h, λ h. h))).1
          (task_of j ∷ map task_of done) (map task_of (done ++ (j ∷ []))) (λ y my. images_behind task_of j done y my) u;
      run = a.run ++ (x ∷ []);
      so_far = job_grows d N (suc m) two a.to_most (lower ++ new) (ideal_elements d N (lower ++ new) m (map task_of done) a.underway) a.run a.so_far lower into j job uses f chain finished (a.fresh j (inl refl)) (lower ++ next) follows kept;
      before = all_grown d m (lower ++ new) (lower ++ next) a.run (a.run ++ (x ∷ [])) a.before up (λ g mg lt. follows.lower g mg (omega (arith, lt)));
      items = items_next;
      fresh = fresh_next;
      no_tails = no_tails_next;
      counted = length_next count count_is;
    }

-- ---- the rows begin

pub rows_begin : RowsBegin
rows_begin d N m elements spent t one most jobs are = record {
  from_one = one;
  to_most = most;
  low = λ g mg. t.complete.reached g mg;
  high = λ g mg. absurd mg;
  jobs = are;
  underway = subst (λ l. IsUnderway d.presentation d.compare l m []) (sym (append_nothing elements)) u;
  run = t.run;
  so_far = subst (λ l. IsRunSoFar d N (suc m) l t.run) (sym (append_nothing elements)) (((runs_so_far d N).1 m elements t.run t.so_far).next_arity);
  before = subst (λ l. HasAll d m l t.run) (sym (append_nothing elements)) t.all;
  items = λ j mj. absurd mj;
  fresh = λ j mj h. older (item_of j) (job_item d elements (suc m) (λ g mg. (u.certified.monic.each g mg).lead_valid) j (are.each j mj)) h;
  no_tails = λ w v h. older (tail_of w) v h;
  counted = t.counted;
}
  where
    u : IsUnderway d.presentation d.compare elements m []
    u = arity_begins d.presentation d.compare elements m t.complete

    older : (i : Item) → IsItem d (suc m) i → HasItem t.run i → ⊥
    older i v h =
        let entry = t.so_far.finished.is_run.entries h.0 h.1 in
        let same : h.0.arity ≡ suc m = one_arity d h.0.arity (suc m) i (subst (IsItem d h.0.arity) h.2 entry.is_item) v in
        let low = t.so_far.up_to h.0 h.1 in
        omega (arith, same, low)

-- ---- a row ends

pub row_ends_in_zero : RowEndsInZero
row_ends_in_zero d N m given lower new done j left spent a count r =
    row_done d N m lower new done j left spent a [] r.uses r.chain new count r.count_is
    r.finished a.high
    (task_ends_in_zero d.presentation d.compare given.order (lower ++ new) m (map task_of done) a.underway (task_of j)
    (job_task d.presentation lower (lower ++ new) (suc m) (λ g h. mem_left g lower new h) j (job d N m lower new done j left spent a))
    (lower ++ new) (elements_extend_themselves (setting d.presentation d.compare (lower ++ new)) a.underway.certified.monic) r.uses r.chain)
    (follows_same (suc m) (lower ++ new))
    (λ t l. absurd (no_last_lead d.presentation d.compare given.order
    (entry_by d N (suc m) (item_of j) (lower ++ new) (row_of d.presentation j) r.uses []) (λ u. refl) t l))

-- the leading tree of a multiple of a monic element is that of the element
module _ (d : Problem) (N : ℕ) (given : IsGiven d) (l : List Element) (tasks : List Task) (m : ℕ) (u : IsUnderway d.presentation d.compare l m tasks)
    (f : Sum) (g : Element) (monic : IsMonic (setting d.presentation d.compare l) g) (multiple : IsMultipleOf d.presentation.q f g) where
  abbrev over : Setting
  over = setting d.presentation d.compare l

  coef_lead : coef tree_discrete (terms g) g.lead ≡ 1
  coef_lead = coef_first tree_discrete 1 g.lead g.tail (coef_absent tree_discrete g.tail g.lead
      (AllTerms-imp (λ t. IsShuffleTree over.arity g.arity t × IsLess over t g.lead) (λ t. t ≡ g.lead → ⊥) g.tail
      (λ t h e. not_less over given.order u.certified.monic g.arity t g.lead h.1 e) monic.tail_valid))

  there : IsCongruent d.presentation.q (coef tree_discrete f g.lead) 0 → ⊥
  there z = inverse_not_zero d.presentation.q multiple.factor multiple.inverse given.positive multiple.inverts
      (let e : multiple.factor ≡ multiple.factor * 1 = omega arith in
      ap (λ k. k % suc d.presentation.q) (e ∙ ap (λ k. multiple.factor * k) (sym coef_lead) ∙ sym (coef-scale tree_discrete multiple.factor (terms g) g.lead)) ∙ sym (multiple.is g.lead) ∙ z)

  greater : (t : Tree ℕ) → IsLess over g.lead t → coef tree_discrete (terms g) t ≡ 0
  greater t less = coef_absent tree_discrete (terms g) t (
    λ e. not_less over given.order u.certified.monic g.arity g.lead t less e,
    AllTerms-imp (λ v. IsShuffleTree over.arity g.arity v × IsLess over v g.lead) (λ v. v ≡ t → ⊥) g.tail
        (λ v h e. not_less over given.order u.certified.monic g.arity v t (given.order.transitive v g.lead t h.1 less) e) monic.tail_valid,
  )

  above : (t : Tree ℕ) → IsLess over g.lead t → IsCongruent d.presentation.q (coef tree_discrete f t) 0
  above t less =
      let z : multiple.factor * coef tree_discrete (terms g) t ≡ 0 = (let e : multiple.factor * 0 ≡ 0 = omega arith in ap (λ k. multiple.factor * k) (greater t less) ∙ e) in
      multiple.is t ∙ ap (λ k. k % suc d.presentation.q) (coef-scale tree_discrete multiple.factor (terms g) t ∙ z)

  pub lead_of_multiple : (x : EntryOf d) → x.last ≡ f → x.arity ≡ g.arity → (t : Tree ℕ) → IsLastLead x t → g.lead ≡ t
  lead_of_multiple x e n t h = one_last_lead d.presentation d.compare given.order x g.lead t own h
    where
      own : IsLastLead x g.lead
      own = record {
        valid = subst (λ k. IsShuffleTree (item_arity d) k g.lead) (sym n) monic.lead_valid;
        leads = subst (λ k. IsLeadingTree (setting d.presentation d.compare []) x.arity k g.lead) (sym e) (record { there = there; above = λ t v less. above t less });
      }

pub row_ends_in_element : RowEndsInElement
row_ends_in_element d N m given lower new done j left spent a f count r g arity monic multiple =
    row_done d N m lower new done j left spent a f r.uses r.chain (new ++ (g ∷ [])) count r.count_is
    r.finished high
    (subst (λ l. IsUnderway d.presentation d.compare l m (task_of j ∷ map task_of done)) assoc
    (task_ends_in_element d.presentation given.sound given.positive d.compare given.order (lower ++ new) m (map task_of done) a.underway (task_of j)
    (job_task d.presentation lower (lower ++ new) (suc m) (λ h k. mem_left h lower new k) j (job d N m lower new done j left spent a))
    (lower ++ new) (elements_extend_themselves (setting d.presentation d.compare (lower ++ new)) a.underway.certified.monic) r.uses f r.chain r.finished
    g arity monic multiple))
    (subst (Follows (suc m) (lower ++ new)) assoc (follows_more (suc m) (lower ++ new) g arity))
    (λ t l. (
      g,
      mem_right g lower (new ++ (g ∷ [])) (mem_right g new (g ∷ []) (inl refl)),
      lead_of_multiple d N given (lower ++ new) (map task_of done) m a.underway f g monic multiple
          (entry_by d N (suc m) (item_of j) (lower ++ new) (row_of d.presentation j) r.uses f) refl (sym arity) t l,
    ))
  where
    assoc : (lower ++ new) ++ (g ∷ []) ≡ lower ++ (new ++ (g ∷ []))
    assoc = append_again lower new (g ∷ [])

    high : (h : Element) → Mem h (new ++ (g ∷ [])) → h.arity ≡ suc m
    high h mh = go (mem_last g h new mh)
      where
        go : Mem h new ⊎ (h ≡ g) → h.arity ≡ suc m
        go (inl k) = a.high h k
        go (inr e) = ap (λ (k : Element). k.arity) e ∙ arity

-- ---- the steps end in a row

-- what a stopped entry gives, where its item is new
pub entry_stops : (d : Problem) (N n : ℕ) (now : List Element) (run : List (EntryOf d)) → IsRunSoFar d N n now run → (x : EntryOf d) → IsEntry d N x → HasStopped x → call_of x.item ≡ completing → (HasItem run x.item → ⊥)
    → (before after : ℕ) → after ≡ before + (run_length run + length x.steps) → CountsStoppedCompletion d N before after x.last
entry_stops d N n now run so x entry stopped call fresh before after e =
    let law = (runs_so_far d N).1 n now run so in
    let s = law.stopped x entry stopped call fresh in
    record {
      run = run ++ (x ∷ []);
      stopped = s.0;
      made_of = s.1;
      counted = e ∙ ap (λ k. before + k) (sym (law.steps x));
      last_row = s.2 x.last (λ t. refl);
    }

pub row_stops : RowStops
row_stops d N m lower new done j left spent a f count r before =
    entry_stops d N (suc m) (lower ++ new) a.run a.so_far (entry_by d N (suc m) (item_of j) (lower ++ new) (row_of d.presentation j) r.uses f)
    (job_entry d N (suc m) (two d N m lower new done j left spent a) a.to_most (lower ++ new) (ideal_elements d N (lower ++ new) m (map task_of done) a.underway) lower
    (λ g h. mem_left g lower new h) j (job d N m lower new done j left spent a) r.uses f r.chain)
    r.stopped (job_completes j) (a.fresh j (inl refl)) before (before + (spent + count))
    (let c = a.counted in let k = r.count_is in omega (arith, c, k))
