-- The tails of an arity.
use Rattle.std.proofs.Common.{◌≡◌, ℕ, suc, ◌+◌, ◌<◌, ◌≤◌, List, [], ◌∷◌, length, map, refl, sym, ap, ◌∙◌, subst, arith, ◌⊎◌, inl, inr, false}
use mathlib.Core.List.{◌++◌}
use native.Mathlib.Decide.{dec_lt}
use Rattle.modular_sums.specs.Lists.{Mem, Distinct, Nth}
use Rattle.modular_sums.proofs.Lists.{mem_right, mem_either, mem_map}
use Rattle.labelled_trees.specs.Trees.{Tree}
use Rattle.shuffle_insertions.specs.ShuffleTrees.{IsShuffleTree}
use Rattle.shuffle_places.specs.Multiples.{IsMultiple}
use Rattle.shuffle_places.proofs.Sizes.{one_size}
use Rattle.shuffle_bases.specs.Elements.{Element, terms, Setting, Insertion}
use Rattle.shuffle_normal_forms.specs.FreeTrees.{is_empty}
use Rattle.shuffle_reductions.specs.Chains.{HasNoZeros, IsChain}
use Rattle.shuffle_reductions.proofs.SElements.{members_in_order}
use Rattle.shuffle_reductions.proofs.Laws.{elements_extend_themselves}
use Rattle.operad_ideals.specs.Presentations.{Relation}
use Rattle.shuffle_transfer.specs.Orderings.{IsOrdering, orderings}
use Rattle.shuffle_transfer.specs.GroebnerBases.{setting}
use Rattle.shuffle_transfer.proofs.Orderings.{all_orderings}
use Rattle.shuffle_completion.specs.Completion.{multiple, AreAll}
use Rattle.shuffle_completion.proofs.Ideals.{span_in_ideal}
use Rattle.counted_runs.specs.Items.{Problem, item_arity, completion, Item, relabelling, two_places, tail_of}
use Rattle.counted_runs.specs.Rows.{AreIdealElements}
use Rattle.counted_runs.specs.Runs.{EntryOf, IsEntry}
use Rattle.counted_runs.specs.FullRuns.{HasItem, HasLeadingTree}
use Rattle.counted_runs.specs.RunsSoFar.{Follows, RunSoFarLaw}
use Rattle.counted_runs.proofs.RunsSoFar.{runs_so_far, holds_member}
use Rattle.counted_runs.proofs.Entries.{entry_law}
use Rattle.counted_runs.specs.Jobs.{Job, relabel, combine, task_of, AreJobs}
use Rattle.counted_runs.specs.Reductions.{ReducesTo}
use Rattle.counted_runs.specs.Stages.{IsGiven, HasAll, IsAtRows, IsAtTails, IsBecoming, AreBecoming}
use Rattle.counted_runs.specs.LoopLaws.{TailsBegin, TailIsReduced, TailStops}
use Rattle.counted_runs.proofs.Lists.{append_nothing}
use Rattle.counted_runs.proofs.JobEntries.{entry_by, chained}
use Rattle.counted_runs.proofs.Numbered.{member_nth}
use Rattle.counted_runs.proofs.Rows.{all_grown, entry_stops}
use Rattle.counted_runs.proofs.Replaced.{between_member, other_member, between, other_lead, same_leads, tail_replaced}
use Rattle.counted_runs.proofs.Becoming.{becoming_itself, Parted, parted, together, fewer_pending, tail_by, leads_apart}

abbrev Sum : Type 0
Sum = List (ℕ × Tree ℕ)

-- ---- the tails begin

module _ (d : Problem) (N m : ℕ) (lower new : List Element) (done : List Job) (spent : ℕ) (a : IsAtRows d N m lower new done [] spent) where
  jobs : AreJobs d.presentation lower (suc m) done
  jobs = subst (AreJobs d.presentation lower (suc m)) (append_nothing done) a.jobs

  -- an element of lower arity is one of those
  is_lower : (g : Element) → Mem g (lower ++ new) → g.arity < suc m → Mem g lower
  is_lower g h lt = go (mem_either g lower new h)
    where
      go : Mem g lower ⊎ Mem g new → Mem g lower
      go (inl k) = k
      go (inr k) = let e = a.high g k in absurd (omega (arith, e, lt))

  -- each relation is done with each permutation
  relation_done : (k : ℕ) (r : Relation) → Nth k d.presentation.relations r → r.arity ≡ suc m → is_empty r.terms ≡ false → (v : List ℕ) → Mem v (orderings (suc m)) → Mem (relabel k r v) done
  relation_done k r h e nonempty v o = jobs.relations k r h e nonempty v o

  nonempty : (l : Sum) → (l ≡ [] → ⊥) → is_empty l ≡ false
  nonempty [] f = absurd (f refl)
  nonempty (x ∷ l) f = refl

  pair_task : (g h : Element) (t : Tree ℕ) (first second : List ℕ) → Mem (combine g h t first second) done ⊎ Mem (combine h g t second first) done
      → Mem (multiple g h t first second) (map task_of done) ⊎ Mem (multiple h g t second first) (map task_of done)
  pair_task g h t first second (inl k) = inl (mem_map task_of (combine g h t first second) done k)
  pair_task g h t first second (inr k) = inr (mem_map task_of (combine h g t second first) done k)

  pub all_tasks : AreAll d.presentation (lower ++ new) (suc m) (map task_of done)
  all_tasks = record {
    relations = λ r mr e f v o. let k = member_nth d.presentation.relations r mr in mem_map task_of (relabel (suc k.0) r v) done (relation_done (suc k.0) r k.1 e (nonempty r.terms f) v o);
    multiples = λ g h o lg lh t first second k.
        let q = members_in_order g h (lower ++ new) o in
        pair_task g h t first second (jobs.multiples g h (is_lower g q.0 lg) (is_lower h q.1 lh) t first second k);
  }

  pair_item : (g h : Element) (t : Tree ℕ) (first second : List ℕ) → Mem (combine g h t first second) done ⊎ Mem (combine h g t second first) done
      → HasItem a.run (two_places completion t first second) ⊎ HasItem a.run (two_places completion t second first)
  pair_item g h t first second (inl k) = inl (a.items (combine g h t first second) k)
  pair_item g h t first second (inr k) = inr (a.items (combine h g t second first) k)

  pub all_items : HasAll d (suc m) (lower ++ new) a.run
  all_items = record {
    relations = λ k r n e two le w o. relations k r n e two le w o (dec_lt m r.arity);
    multiples = λ n le g h mg mh lg lh t first second k. pairs n le g h mg mh lg lh t first second k (dec_lt m n);
  }
    where
      relations : (k : ℕ) (r : Relation) → Nth k d.presentation.relations r → is_empty r.terms ≡ false → 2 ≤ r.arity → r.arity ≤ suc m → (w : List ℕ) → IsOrdering r.arity w → Dec (m < r.arity)
          → HasItem a.run (relabelling completion k w)
      relations k r n e two le w o (no f) = a.before.relations k r n e two (omega (arith, f)) w o
      relations k r n e two le w o (yes lt) =
          let top : r.arity ≡ suc m = omega (arith, le, lt) in
          a.items (relabel k r w) (relation_done k r n top e w (subst (λ i. Mem w (orderings i)) top (((all_orderings r.arity).2 w).1 o)))

      pairs : (n : ℕ) → n ≤ suc m → (g h : Element) → Mem g (lower ++ new) → Mem h (lower ++ new) → g.arity < n → h.arity < n → (t : Tree ℕ) (first second : List ℕ) → IsMultiple n g.lead h.lead t first second → Dec (m < n)
          → HasItem a.run (two_places completion t first second) ⊎ HasItem a.run (two_places completion t second first)
      pairs n le g h mg mh lg lh t first second k (no f) = a.before.multiples n (omega (arith, f)) g h mg mh lg lh t first second k
      pairs n le g h mg mh lg lh t first second k (yes lt) =
          let top : n ≡ suc m = omega (arith, le, lt) in
          pair_item g h t first second (jobs.multiples g h (is_lower g mg (omega (arith, lg, le))) (is_lower h mh (omega (arith, lh, le))) t first second
          (subst (λ i. IsMultiple i g.lead h.lead t first second) top k))

pub tails_begin : TailsBegin
tails_begin d N m given lower new done spent a pending once each is = record {
  from_one = a.from_one;
  to_most = a.to_most;
  tasks = map task_of done;
  underway = a.underway;
  all_tasks = all_tasks d N m lower new done spent a;
  extends = elements_extend_themselves s a.underway.certified.monic;
  becoming = becoming_itself s (suc m) pending (lower ++ new) (λ g mg. stands g (mem_either g lower new mg));
  leads_once = leads_apart (lower ++ new) a.underway.certified.once a.underway.certified.monic.apart;
  once = once;
  valid = valid;
  run = a.run;
  so_far = a.so_far;
  all = all_items d N m lower new done spent a;
  fresh = λ t mt h. a.no_tails t (valid t mt) h;
  counted = a.counted;
}
  where
    s : Setting
    s = setting d.presentation d.compare (lower ++ new)

    stands : (g : Element) → Mem g lower ⊎ Mem g new → (g.arity < suc m) ⊎ ((g.arity ≡ suc m) × Mem g.lead pending)
    stands g (inl k) = let l = a.low g k in inl (omega (arith, l))
    stands g (inr k) = inr (a.high g k, each g k)

    valid : (t : Tree ℕ) → Mem t pending → IsShuffleTree (item_arity d) (suc m) t
    valid t mt =
        let k = is t mt in
        subst (IsShuffleTree (item_arity d) (suc m)) k.2 (subst (λ i. IsShuffleTree (item_arity d) i k.0.lead) (a.high k.0 k.1)
        (a.underway.certified.monic.each k.0 (mem_right k.0 lower new k.1)).lead_valid)

-- ---- a tail is reduced

module _ (d : Problem) (N m : ℕ) (given : IsGiven d) (elements front : List Element) (g : Element) (back : List Element) (pending : List (Tree ℕ)) (spent : ℕ)
    (a : IsAtTails d N m elements (front ++ (g ∷ back)) (g.lead ∷ pending) spent) where
  abbrev now : List Element
  now = front ++ (g ∷ back)

  abbrev s : Setting
  s = setting d.presentation d.compare elements

  part : Parted (setting d.presentation d.compare elements) (suc m) (g.lead ∷ pending) elements front g back
  part = parted s (suc m) (g.lead ∷ pending) elements front g back a.becoming

  -- the element still stands for itself
  still : IsBecoming (setting d.presentation d.compare elements) (suc m) (g.lead ∷ pending) part.of g → (part.of.arity ≡ suc m) × (g ≡ part.of)
  still (inl k) =
      let mine = (a.extends.monic.each g (between front g back)).lead_valid in
      let same = one_size g.arity (suc m) g.lead mine.shuffle (a.valid g.lead (inl refl)).shuffle in
      let other = ap (λ (x : Element). x.arity) k.1 in
      let low = k.0 in
      absurd (omega (arith, same, other, low))
  still (inr (inl k)) = (k.0, k.1)
  still (inr (inr k)) = absurd (k.2 (inl (sym k.1.lead_is)))

  itself : (part.of.arity ≡ suc m) × (g ≡ part.of)
  itself = still part.here

  arity : g.arity ≡ suc m
  arity = ap (λ (x : Element). x.arity) itself.1 ∙ itself.0

  ideal_now : AreIdealElements d.presentation d.compare (front ++ (g ∷ back))
  ideal_now = record {
    monic = a.extends.monic;
    in_ideal = λ h mh.
        let r = a.extends.reduce h mh in
        span_in_ideal d.presentation given.sound d.compare elements a.underway.certified.monic a.underway.certified.in_ideal h.arity (terms h) record { uses = r.uses; adds_up = r.adds_up };
  }

  two : 2 ≤ suc m
  two = let h = a.from_one in omega (arith, h)

  module _ (f : Sum) (uses : List (ℕ × Insertion (setting d.presentation d.compare (front ++ (g ∷ back))) (suc m)))
      (chain : IsChain (setting d.presentation d.compare (front ++ (g ∷ back))) (suc m) g.tail uses f) where
    abbrev x : EntryOf d
    x = entry_by d N (suc m) (tail_of g.lead) (front ++ (g ∷ back)) g.tail uses f

    pub tail_entry : IsEntry d N (entry_by d N (suc m) (tail_of g.lead) (front ++ (g ∷ back)) g.tail uses f)
    tail_entry = (entry_law d N (suc m) x (chained d N (suc m) two a.to_most (front ++ (g ∷ back)) ideal_now (tail_of g.lead) g.tail uses f chain)).tail
        (front ++ (g ∷ back)) ideal_now g (between front g back) arity refl (λ t. refl)

    law : RunSoFarLaw d N (suc m) (front ++ (g ∷ back)) a.run a.so_far
    law = (runs_so_far d N).1 (suc m) (front ++ (g ∷ back)) a.run a.so_far

    up : (i : Item) → HasItem a.run i → HasItem (a.run ++ (x ∷ [])) i
    up i h = (law.items x i).1 (inl h)

    abbrev new : Element
    new = record { arity = suc m; lead = g.lead; tail = f }

    abbrev next : List Element
    next = front ++ (new ∷ back)

    follows : Follows (suc m) (front ++ (g ∷ back)) (front ++ (new ∷ back))
    follows = record { lower = λ h mh lt. lower h lt (between_member front new back h mh); leads = λ h mh. lead h (between_member front g back h mh) }
      where
        lower : (h : Element) → h.arity < suc m → (Mem h front ⊎ Mem h back) ⊎ (h ≡ new) → Mem h (front ++ (g ∷ back))
        lower h lt (inl k) = other_member front g back h k
        lower h lt (inr e) = let q = ap (λ (y : Element). y.arity) e in absurd (omega (arith, q, lt))

        lead : (h : Element) → (Mem h front ⊎ Mem h back) ⊎ (h ≡ g) → HasLeadingTree (front ++ (new ∷ back)) h.lead
        lead h (inl k) = (h, other_member front new back h k, refl)
        lead h (inr e) = (new, between front new back, sym (ap (λ (y : Element). y.lead) e))

    fresh_next : (t : Tree ℕ) → Mem t pending → HasItem (a.run ++ (x ∷ [])) (tail_of t) → ⊥
    fresh_next t mt h = go ((law.items x (tail_of t)).0 h)
      where
        same : tail_of g.lead ≡ tail_of t → g.lead ≡ t
        same e = cc e

        go : HasItem a.run (tail_of t) ⊎ (tail_of g.lead ≡ tail_of t) → ⊥
        go (inl k) = a.fresh t (inr mt) k
        go (inr e) = a.once.0 (subst (λ u. Mem u pending) (sym (same e)) mt)

    becoming_next : (count : ℕ) → ReducesTo (setting d.presentation d.compare (front ++ (g ∷ back))) (suc m) g.tail f count → HasNoZeros d.presentation.q f
        → AreBecoming (setting d.presentation d.compare elements) (suc m) pending elements (front ++ (new ∷ back))
    becoming_next count r zeros =
        let of_is = itself.1 in
        let reduced = tail_by s (front ++ (g ∷ back)) a.extends (suc m) part.of new itself.0 refl (ap (λ (y : Element). y.lead) of_is) count
        (subst (λ (y : Element). ReducesTo (setting d.presentation d.compare (front ++ (g ∷ back))) (suc m) y.tail f count) of_is r) zeros in
        let apart : Mem part.of.lead pending → ⊥ = (λ k. a.once.0 (subst (λ u. Mem u pending) (sym (ap (λ (y : Element). y.lead) of_is)) k)) in
        subst (λ l. AreBecoming s (suc m) pending l (front ++ (new ∷ back))) (sym part.parted)
        (together s (suc m) pending part.before part.of part.after front new back
        (fewer_pending s (suc m) g.lead pending part.before front part.first (λ k mk e. other_lead front g back a.leads_once k (inl mk) e))
        (inr (inr (itself.0, reduced, apart)))
        (fewer_pending s (suc m) g.lead pending part.after back part.last (λ k mk e. other_lead front g back a.leads_once k (inr mk) e)))

    pub tail_done : (count : ℕ) → ReducesTo (setting d.presentation d.compare (front ++ (g ∷ back))) (suc m) g.tail f count → count ≡ length uses → HasNoZeros d.presentation.q f
        → IsAtTails d N m elements (front ++ (record { arity = suc m; lead = g.lead; tail = f } ∷ back)) pending (spent + count)
    tail_done count r count_is zeros =
        let so = law.tail x g.lead refl tail_entry r.finished refl (a.fresh g.lead (inl refl))
        (λ h mh lt. holds_member d.presentation (front ++ (g ∷ back)) h mh) in
        record {
          from_one = a.from_one;
          to_most = a.to_most;
          tasks = a.tasks;
          underway = a.underway;
          all_tasks = a.all_tasks;
          extends = tail_replaced s given.order a.underway.certified.monic front g back a.extends a.leads_once (suc m) arity uses f chain zeros;
          becoming = becoming_next count r zeros;
          leads_once = subst Distinct (same_leads front g new back refl) a.leads_once;
          once = a.once.1;
          valid = λ t mt. a.valid t (inr mt);
          run = a.run ++ (x ∷ []);
          so_far = ((runs_so_far d N).1 (suc m) (front ++ (g ∷ back)) (a.run ++ (x ∷ [])) so).changed (front ++ (new ∷ back)) follows;
          all = all_grown d (suc m) (front ++ (g ∷ back)) (front ++ (new ∷ back)) a.run (a.run ++ (x ∷ [])) a.all up (λ h mh lt. follows.lower h mh lt);
          fresh = fresh_next;
          counted = let l = law.steps x in let c = a.counted in omega (arith, l, c, count_is);
        }

pub tail_is_reduced : TailIsReduced
tail_is_reduced d N m given elements front g back pending spent a f count r zeros = tail_done d N m given elements front g back pending spent a f r.uses r.chain count r r.count_is zeros

pub tail_stops : TailStops
tail_stops d N m given elements front g back pending spent a f count r before =
    entry_stops d N (suc m) (front ++ (g ∷ back)) a.run a.so_far (entry_by d N (suc m) (tail_of g.lead) (front ++ (g ∷ back)) g.tail r.uses f)
    (tail_entry d N m given elements front g back pending spent a f r.uses r.chain) r.stopped refl (a.fresh g.lead (inl refl)) before (before + (spent + count))
    (let c = a.counted in let k = r.count_is in omega (arith, c, k))
