-- The run of the completion grows by one entry for each chain.
use Rattle.std.proofs.Common.{◌≡◌, ◌↔◌, ℕ, suc, ◌<◌, ◌≤◌, List, [], ◌∷◌, length, refl, sym, ap, ◌∙◌, arith, subst, inl, inr, ◌⊎◌, false}
use Rattle.std.proofs.lemmas.List.Sums.{sum_by_push}
use mathlib.Core.List.{◌++◌}
use Rattle.modular_sums.specs.Lists.{Mem, Nth}
use Rattle.modular_sums.proofs.Lists.{mem_left, mem_right, mem_either}
use Rattle.labelled_trees.specs.Trees.{Tree}
use Rattle.shuffle_insertions.specs.ShuffleTrees.{IsShuffle}
use Rattle.shuffle_places.specs.Places.{IsPlace}
use Rattle.shuffle_places.specs.Multiples.{IsMultiple}
use Rattle.shuffle_places.proofs.Sizes.{one_size}
use Rattle.shuffle_bases.specs.Elements.{Element}
use Rattle.shuffle_normal_forms.specs.FreeTrees.{is_empty}
use Rattle.operad_ideals.specs.Presentations.{Relation, Presentation}
use Rattle.shuffle_transfer.specs.Orderings.{IsOrdering}
use Rattle.shuffle_completion.specs.ReducedBases.{IsReducedBasis}
use Rattle.counted_runs.specs.Items.{Problem, Purpose, completion, Item, relabelling, two_places, tail_of, question, traced, IsItem}
use Rattle.counted_runs.specs.Rows.{SameSum, AreIdealElements, IsSElement}
use Rattle.counted_runs.specs.Runs.{AtLast, EntryOf, HasFinished, HasStopped, IsEntry, IsCountedRun, IsFinishedRun, IsStoppedRun}
use Rattle.counted_runs.specs.FullRuns.{IsRelationOrPair, IsQuestionOrTrace, HasLeadingTree, HoldsElement, HasItem, IsLastLead, KeepsLead, IsPairEntry, HasPair, IsFullRun}
use Rattle.counted_runs.specs.Calls.{completing, call_of, IsMadeOf}
use Rattle.counted_runs.specs.RunLaws.{HaveNoCommonItem}
use Rattle.counted_runs.specs.RunsSoFar.{Serves, Follows, IsRunSoFar, RunSoFarLaw, RunsSoFarGrow}
use Rattle.counted_runs.proofs.Joins.{join, in_sequence, by_either, at_last}

-- ---- lists that serve, and elements that follow

pub holds_member : (p : Presentation) (l : List Element) (g : Element) → Mem g l → HoldsElement p l g
holds_member p l g m = record { by = g; member = m; arity_is = refl; lead_is = refl; tail_is = λ t. refl }

-- a list with all current elements serves
pub serves_all : (d : Problem) (n : ℕ) (now l : List Element) → ((g : Element) → Mem g now → Mem g l) → Serves d n now l
serves_all d n now l f = record { lower = λ g m lt. holds_member d.presentation l g (f g m); leads = λ g m. (g, f g m, refl) }

-- the elements stay, or one more of this arity comes
pub follows_same : (n : ℕ) (now : List Element) → Follows n now now
follows_same n now = record { lower = λ g m lt. m; leads = λ g m. (g, m, refl) }

pub follows_more : (n : ℕ) (now : List Element) (new : Element) → new.arity ≡ n → Follows n now (now ++ (new ∷ []))
follows_more n now new e = record { lower = λ g m lt. old g lt (mem_either g now (new ∷ []) m); leads = λ g m. (g, mem_left g now (new ∷ []) m, refl) }
  where
    old : (g : Element) → g.arity < n → Mem g now ⊎ Mem g (new ∷ []) → Mem g now
    old g lt (inl m) = m
    old g lt (inr (inl k)) = let a : g.arity ≡ new.arity = ap (λ (h : Element). h.arity) k in absurd (omega (arith, a, e, lt))
    old g lt (inr (inr m)) = absurd m

module _ (d : Problem) (N : ℕ) where
  abbrev E : Type 0
  E = EntryOf d

  pub nothing : (n : ℕ) (now : List Element) → IsRunSoFar d N n now []
  nothing n now = record {
    finished = record { is_run = record { entries = λ x m. absurd m; once = tt; finished = tt }; all_finished = λ x m. absurd m };
    made_of = λ x m. absurd m;
    up_to = λ x m. absurd m;
    lower = λ x m. absurd m;
    rows = λ x m. absurd m;
    leads = tt;
    kept = λ x m. absurd m;
  }

  -- ---- one more entry

  alone : (x y : E) → Mem y (x ∷ []) → y ≡ x
  alone x y (inl e) = e
  alone x y (inr m) = absurd m

  apart_from : (run : List E) (x : E) → (HasItem run x.item → ⊥) → HaveNoCommonItem run (x ∷ [])
  apart_from run x f y z m n e = f (y, m, e ∙ ap (λ (w : E). w.item) (alone x z n))

  one_run : (x : E) → IsEntry d N x → IsCountedRun d N (x ∷ [])
  one_run x h = record { entries = λ y m. subst (IsEntry d N) (sym (alone x y m)) h; once = (λ m. m, tt); finished = tt }

  one_finished : (x : E) → IsEntry d N x → HasFinished x → IsFinishedRun d N (x ∷ [])
  one_finished x h f = record { is_run = one_run x h; all_finished = λ y m. subst HasFinished (sym (alone x y m)) f }

  module _ (n : ℕ) (now : List Element) (run : List E) (s : IsRunSoFar d N n now run) where
    -- the facts of the entries so far, and of one more, are those of all
    abbrev pushed : (P : E → Type 0) → (x : E) → ((y : E) → Mem y run → P y) → P x → (y : E) → Mem y (run ++ (x ∷ [])) → P y
    pushed P x f h = by_either d N P run (x ∷ []) f (λ y m. subst P (sym (alone x y m)) h)

    has_lead : (next : List Element) → ((g : Element) → Mem g now → HasLeadingTree next g.lead) → (t : Tree ℕ) → HasLeadingTree now t → HasLeadingTree next t
    has_lead next f t h = let k = f h.0 h.1 in (k.0, k.1, k.2 ∙ h.2)

    finished_more : (x : E) → IsEntry d N x → HasFinished x → (HasItem run x.item → ⊥) → IsFinishedRun d N (run ++ (x ∷ []))
    finished_more x h f fresh = (join d N run (x ∷ []) s.finished (apart_from run x fresh)).is_finished (one_finished x h f)

    abbrev RowsAre : List Element → E → Type 0
    RowsAre elements x = (g h : Element) → Mem g elements → Mem h elements → g.arity < x.arity → h.arity < x.arity
        → (z : Purpose) (t : Tree ℕ) (first second : List ℕ) → x.item ≡ two_places z t first second → IsPlace t first g.lead → IsPlace t second h.lead
        → IsSElement d.presentation t first second g h x.row

    abbrev LowerIn : List Element → E → Type 0
    LowerIn elements x = (g : Element) → Mem g elements → g.arity < x.arity → HoldsElement d.presentation x.elements g

    abbrev KeptBy : List Element → E → Type 0
    KeptBy elements x = IsRelationOrPair x.item → (t : Tree ℕ) → IsLastLead x t → HasLeadingTree elements t

    -- what an entry must have: its own lists and rows, and what it leaves
    grown : (next : List Element) (x : E) → IsEntry d N x → HasFinished x → x.arity ≡ n → call_of x.item ≡ completing → (HasItem run x.item → ⊥)
        → LowerIn now x → ((y : E) → Mem y run → KeepsLead y x) → RowsAre next x → Follows n now next → KeptBy next x → IsRunSoFar d N n next (run ++ (x ∷ []))
    grown next x h f arity call fresh lower keeps rows follows leaves = record {
      finished = finished_more x h f fresh;
      made_of = pushed (λ y. call_of y.item ≡ completing) x s.made_of call;
      up_to = pushed (λ y. y.arity ≤ n) x s.up_to (omega (arith, arity));
      lower = pushed (LowerIn next) x (λ y m g mg lt. s.lower y m g (follows.lower g mg (below y m g lt)) lt) (λ g mg lt. lower g (follows.lower g mg (omega (arith, arity, lt))) lt);
      rows = pushed (RowsAre next) x (λ y m g k mg mk lg lk. s.rows y m g k (follows.lower g mg (below y m g lg)) (follows.lower k mk (below y m k lk)) lg lk) rows;
      leads = in_sequence KeepsLead run (x ∷ []) s.leads (λ y m. absurd m, tt) (λ y z m k. subst (KeepsLead y) (sym (alone x z k)) (keeps y m));
      kept = pushed (KeptBy next) x (λ y m red t l. has_lead next follows.leads t (s.kept y m red t l)) leaves;
    }
      where
        below : (y : E) → Mem y run → (g : Element) → g.arity < y.arity → g.arity < n
        below y m g lt = omega (arith, s.up_to y m, lt)

    lower_of : (x : E) → x.arity ≡ n → ((g : Element) → Mem g now → g.arity < n → HoldsElement d.presentation x.elements g) → LowerIn now x
    lower_of x arity f g m lt = f g m (omega (arith, arity, lt))

    keeps_of : (x : E) → x.arity ≡ n → Serves d n now x.elements → (y : E) → Mem y run → KeepsLead y x
    keeps_of x arity serves y m red _ e t l =
        let k = s.kept y m red t l in
        let j = serves.leads k.0 k.1 in
        (j.0, j.1, j.2 ∙ k.2)

    no_rows : (next : List Element) (x : E) → ((z : Purpose) (t : Tree ℕ) (first second : List ℕ) → x.item ≡ two_places z t first second → ⊥) → RowsAre next x
    no_rows next x f g h mg mh lg lh z t first second e a b = absurd (f z t first second e)

    pub one_relation : (next : List Element) (x : E) (k : ℕ) (w : List ℕ) → IsEntry d N x → HasFinished x → x.arity ≡ n → x.item ≡ relabelling completion k w
        → (HasItem run x.item → ⊥) → Serves d n now x.elements → Follows n now next → ((t : Tree ℕ) → IsLastLead x t → HasLeadingTree next t)
        → IsRunSoFar d N n next (run ++ (x ∷ []))
    one_relation next x k w h f arity e fresh serves follows leaves =
        grown next x h f arity (ap call_of e) fresh (lower_of x arity serves.lower) (keeps_of x arity serves) (no_rows next x (λ z t first second i. absurd (cc (e, i)))) follows (λ red t l. leaves t l)

    -- the two elements of lower arity with these divisors are the two that were taken
    these_rows : AreIdealElements d.presentation d.compare now → (next : List Element) (x : E) (g h : Element) → Mem g now → Mem h now → x.arity ≡ n
        → (t : Tree ℕ) (first second : List ℕ) → x.item ≡ two_places completion t first second → IsSElement d.presentation t first second g h x.row → Follows n now next → RowsAre next x
    these_rows are next x g h mg mh arity t first second e r follows a b ma mb la lb z u k l i pa pb =
        subst (λ y. IsSElement d.presentation u k l y b x.row) same_g (subst (λ y. IsSElement d.presentation u k l g y x.row) same_h here)
      where
        same_t : t ≡ u
        same_t = cc (e, i)

        same_first : first ≡ k
        same_first = cc (e, i)

        same_second : second ≡ l
        same_second = cc (e, i)

        here : IsSElement d.presentation u k l g h x.row
        here = subst (λ y. IsSElement d.presentation y k l g h x.row) same_t (subst (λ y. IsSElement d.presentation t y l g h x.row) same_first
            (subst (λ y. IsSElement d.presentation t first y g h x.row) same_second r))

        same_g : g ≡ a
        same_g = are.monic.apart g a mg (follows.lower a ma (omega (arith, arity, la))) (sym here.first_at.divisor_is ∙ pa.divisor_is)

        same_h : h ≡ b
        same_h = are.monic.apart h b mh (follows.lower b mb (omega (arith, arity, lb))) (sym here.second_at.divisor_is ∙ pb.divisor_is)

    pub one_pair : AreIdealElements d.presentation d.compare now → (next : List Element) (x : E) (g h : Element) → Mem g now → Mem h now → g.arity < n → h.arity < n
        → (t : Tree ℕ) (first second : List ℕ) → x.item ≡ two_places completion t first second → IsSElement d.presentation t first second g h x.row
        → IsEntry d N x → HasFinished x → x.arity ≡ n
        → (HasItem run x.item → ⊥) → Serves d n now x.elements → Follows n now next → ((t : Tree ℕ) → IsLastLead x t → HasLeadingTree next t)
        → IsRunSoFar d N n next (run ++ (x ∷ []))
    one_pair are next x g h mg mh lg lh t first second e r i f arity fresh serves follows leaves =
        grown next x i f arity (ap call_of e) fresh (lower_of x arity serves.lower) (keeps_of x arity serves)
        (these_rows are next x g h mg mh arity t first second e r follows) follows (λ red u l. leaves u l)

    pub one_tail : (x : E) (t : Tree ℕ) → x.item ≡ tail_of t → IsEntry d N x → HasFinished x → x.arity ≡ n → (HasItem run x.item → ⊥)
        → ((g : Element) → Mem g now → g.arity < n → HoldsElement d.presentation x.elements g) → IsRunSoFar d N n now (run ++ (x ∷ []))
    one_tail x t e h f arity fresh lower =
        grown now x h f arity (ap call_of e) fresh (lower_of x arity lower) (λ y m r red. absurd (none red))
        (no_rows now x (λ z u first second i. absurd (cc (e, i)))) (follows_same n now) (λ red. absurd (none red))
      where
        none : IsRelationOrPair x.item → ⊥
        none red = subst IsRelationOrPair e red

    -- ---- other steps

    pub now_changed : (next : List Element) → Follows n now next → IsRunSoFar d N n next run
    now_changed next follows = record {
      finished = s.finished;
      made_of = s.made_of;
      up_to = s.up_to;
      lower = λ y m g mg lt. s.lower y m g (follows.lower g mg (below y m g lt)) lt;
      rows = λ y m g k mg mk lg lk. s.rows y m g k (follows.lower g mg (below y m g lg)) (follows.lower k mk (below y m k lk)) lg lk;
      leads = s.leads;
      kept = λ y m red t l. has_lead next follows.leads t (s.kept y m red t l);
    }
      where
        below : (y : E) → Mem y run → (g : Element) → g.arity < y.arity → g.arity < n
        below y m g lt = omega (arith, s.up_to y m, lt)

    pub next_begins : IsRunSoFar d N (suc n) now run
    next_begins = record {
      finished = s.finished;
      made_of = s.made_of;
      up_to = λ y m. let k = s.up_to y m in omega (arith, k);
      lower = s.lower;
      rows = s.rows;
      leads = s.leads;
      kept = s.kept;
    }

    pub now_stopped : (x : E) → IsEntry d N x → HasStopped x → call_of x.item ≡ completing → (HasItem run x.item → ⊥)
        → IsStoppedRun d N (run ++ (x ∷ [])) × IsMadeOf completing (run ++ (x ∷ []))
        × ((row : List (ℕ × Tree ℕ)) → SameSum d.presentation x.last row → AtLast (λ y. SameSum d.presentation y.last row) (run ++ (x ∷ [])))
    now_stopped x h f call fresh = (
      (join d N run (x ∷ []) s.finished (apart_from run x fresh)).is_stopped record { is_run = one_run x h; stopped = f },
      pushed (λ y. call_of y.item ≡ completing) x s.made_of call,
      λ row e. at_last (λ (y : E). SameSum d.presentation y.last row) run (x ∷ []) e,
    )

    -- ---- the end

    asked_none : (i : Item) → call_of i ≡ completing → IsQuestionOrTrace i → ⊥
    asked_none (relabelling z k w) e a = a
    asked_none (two_places z t first second) e a = a
    asked_none (tail_of t) e a = a
    asked_none (question k) e a = cc e
    asked_none (traced c t) e a = cc e

    -- the arity of an entry with a tree with two places is that of the tree
    pair_arity : (m : ℕ) (x : E) → Mem x run → (z : Purpose) (t : Tree ℕ) (first second : List ℕ) → x.item ≡ two_places z t first second
        → IsShuffle m t → x.arity ≡ m
    pair_arity m x mx z t first second e v =
        let i : IsItem d x.arity (two_places z t first second) = subst (IsItem d x.arity) e (s.finished.is_run.entries x mx).is_item in
        one_size x.arity m t i.0.shuffle v

    one_pair_entry : (m : ℕ) (g h : Element) → Mem g now → Mem h now → g.arity < m → h.arity < m → (t : Tree ℕ) (first second : List ℕ)
        → IsShuffle m t → IsPlace t first g.lead → IsPlace t second h.lead
        → (p : HasItem run (two_places completion t first second)) → IsPairEntry p.0 t first second g h
    one_pair_entry m g h mg mh lg lh t first second v pg ph p =
        let a = pair_arity m p.0 p.1 completion t first second p.2 v in
        record { purpose = completion; item_is = p.2; row_is = s.rows p.0 p.1 g h mg mh (omega (arith, a, lg)) (omega (arith, a, lh)) completion t first second p.2 pg ph }

    pub is_full : IsReducedBasis d.presentation d.compare now N
        → ((k : ℕ) (r : Relation) → Nth k d.presentation.relations r → is_empty r.terms ≡ false → 2 ≤ r.arity → r.arity ≤ N → (w : List ℕ) → IsOrdering r.arity w
        → HasItem run (relabelling completion k w))
        → ((m : ℕ) → m ≤ N → (g h : Element) → Mem g now → Mem h now → (t : Tree ℕ) (first second : List ℕ) → IsMultiple m g.lead h.lead t first second
        → (g.arity < m) × (h.arity < m) × (HasItem run (two_places completion t first second) ⊎ HasItem run (two_places completion t second first)))
        → IsFullRun d N now run
    is_full reduced relations multiples = record {
      reduced = reduced;
      finished = s.finished;
      relations = λ k r at terms two most w o. (completion, relations k r at terms two most w o);
      multiples = λ m le g h mg mh t first second i. let k = multiples m le g h mg mh t first second i in go m g h mg mh t first second i k.0 k.1 k.2;
      lower = s.lower;
      asked = λ x m a. absurd (asked_none x.item (s.made_of x m) a);
      leads = s.leads;
    }
      where
        go : (m : ℕ) (g h : Element) → Mem g now → Mem h now → (t : Tree ℕ) (first second : List ℕ) → IsMultiple m g.lead h.lead t first second → g.arity < m → h.arity < m
            → HasItem run (two_places completion t first second) ⊎ HasItem run (two_places completion t second first) → HasPair run t first second g h
        go m g h mg mh t first second i lg lh (inl p) =
            (p.0, p.1, inl (one_pair_entry m g h mg mh lg lh t first second i.overlap.valid i.overlap.first_at i.overlap.second_at p))
        go m g h mg mh t first second i lg lh (inr p) =
            (p.0, p.1, inr (one_pair_entry m h g mh mg lh lg t second first i.overlap.valid i.overlap.second_at i.overlap.first_at p))

    all_items : (x : E) (i : Item) → HasItem (run ++ (x ∷ [])) i ↔ (HasItem run i ⊎ (x.item ≡ i))
    all_items x i = (λ h. forth h.0 h.2 (mem_either h.0 run (x ∷ []) h.1), back)
      where
        forth : (y : E) → y.item ≡ i → Mem y run ⊎ Mem y (x ∷ []) → HasItem run i ⊎ (x.item ≡ i)
        forth y e (inl m) = inl (y, m, e)
        forth y e (inr m) = inr (sym (ap (λ (z : E). z.item) (alone x y m)) ∙ e)

        back : HasItem run i ⊎ (x.item ≡ i) → HasItem (run ++ (x ∷ [])) i
        back (inl h) = (h.0, mem_left h.0 run (x ∷ []) h.1, h.2)
        back (inr e) = (x, mem_right x run (x ∷ []) (inl refl), e)

    pub steps_law : RunSoFarLaw d N n now run s
    steps_law = record {
      relation = one_relation;
      pair = one_pair;
      tail = one_tail;
      changed = now_changed;
      next_arity = next_begins;
      stopped = now_stopped;
      full = is_full;
      items = all_items;
      steps = λ x. sum_by_push (λ (y : E). length y.steps) run x;
    }

pub runs_so_far : RunsSoFarGrow
runs_so_far d N = (nothing d N, steps_law d N)
