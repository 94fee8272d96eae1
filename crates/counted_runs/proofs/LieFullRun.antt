-- A full counted run over one skew bracket with the Jacobi relation through arity 4, made step by step as the completion makes it.
use Rattle.std.proofs.Common.{false, ◌≡◌, ◌↔◌, ℕ, zero, suc, ◌%◌, ◌<◌, ◌≤◌, List, [], ◌∷◌, refl, sym, ap, ◌∙◌, arith, subst, inl, inr, ◌⊎◌}
use Rattle.std.specs.declared.cmp.Ordering.TheVariants.{Less}
use mathlib.Core.List.{◌++◌}
use native.Mathlib.Decide.{ℕ_discrete}
use Rattle.modular_sums.specs.Lists.{Mem, Distinct, Nth}
use Rattle.modular_sums.specs.Residues.{IsCongruent}
use Rattle.modular_sums.specs.Sums.{coef, AllTerms}
use Rattle.modular_sums.proofs.Coefficients.{coef_nothing}
use Rattle.modular_sums.proofs.Images.{AllTerms-imp}
use Rattle.labelled_trees.specs.Trees.{Tree}
use Rattle.labelled_trees.specs.Equality.{tree_discrete}
use Rattle.shuffle_insertions.specs.ShuffleTrees.{IsShuffleTree}
use Rattle.shuffle_insertions.proofs.Examples.{t1, t2, t3, comb}
use Rattle.shuffle_places.specs.Multiples.{IsMultiple}
use Rattle.shuffle_places.specs.AllMultiples.{multiples}
use Rattle.shuffle_places.proofs.Laws.{multiples_listed}
use Rattle.shuffle_places.proofs.Examples.{top_two, lower_two, multiples_of_t1, comb_multiple}
use Rattle.shuffle_bases.specs.Elements.{Element, IsLess, s_element}
use Rattle.shuffle_bases.proofs.Examples.{jacobi}
use Rattle.shuffle_normal_forms.specs.NormalForms.{InSpan}
use Rattle.shuffle_reductions.proofs.Ends.{End, end_of}
use Rattle.shuffle_reductions.proofs.SElements.{s_valid}
use Rattle.shuffle_reductions.proofs.SpanChains.{chains_end_with_zero}
use Rattle.operad_ideals.specs.Presentations.{Relation}
use Rattle.shuffle_transfer.specs.Orderings.{IsOrdering, orderings}
use Rattle.shuffle_transfer.specs.Labels.{labels, inputs_of}
use Rattle.shuffle_transfer.specs.Transfer.{relabelled, shuffled}
use Rattle.shuffle_transfer.specs.GroebnerBases.{setting}
use Rattle.shuffle_transfer.specs.NormalTrees.{by_path, compare}
use Rattle.shuffle_transfer.proofs.Orderings.{all_orderings}
use Rattle.shuffle_transfer.proofs.Labels.{are_labels}
use Rattle.shuffle_transfer.proofs.Jacobi.{lie, sound, certified, wide, valid_t1}
use Rattle.shuffle_completion.proofs.Lie.{lie_basis}
use Rattle.counted_runs.specs.Items.{Problem, completion, Item, relabelling, two_places, tail_of}
use Rattle.counted_runs.specs.Rows.{AreIdealElements}
use Rattle.counted_runs.specs.Runs.{HasFinished, HasStopped, IsEntry, IsStoppedRun}
use Rattle.counted_runs.specs.Calls.{completing, call_of}
use Rattle.counted_runs.specs.FullRuns.{HasLeadingTree, HasItem, IsLastLead, IsFullRun}
use Rattle.counted_runs.specs.RunsSoFar.{Serves, Follows, IsRunSoFar, RunSoFarLaw}
use Rattle.counted_runs.specs.Entries.{IsChained}
use Rattle.counted_runs.proofs.Entries.{entries_come_about}
use Rattle.counted_runs.proofs.RowTrees.{relabelled_trees}
use Rattle.counted_runs.proofs.LastLeads.{last_leads_are_one}
use Rattle.counted_runs.proofs.RunsSoFar.{serves_all, follows_same, runs_so_far}
use Rattle.counted_runs.proofs.Lie.{bracket, ordered, three_trees, none_above}
use Rattle.counted_runs.proofs.LieRuns.{BracketEntry, insertion_t1, second_order, lie_elements, jacobi_relation, first_order, coefs}
use Rattle.shuffle_places.proofs.FewMultiples.{no_multiples}

abbrev pub d : Problem
d = bracket [] false

abbrev pub one : List Element
one = jacobi ∷ []

abbrev Sum : Type 0
Sum = List (ℕ × Tree ℕ)

-- the shuffle form of the relation, relabelled
abbrev form_by : List ℕ → Sum
form_by w = shuffled lie (relabelled w jacobi_relation.terms)

the_one : (g : Element) → Mem g one → g ≡ jacobi
the_one g (inl e) = e
the_one g (inr m) = absurd m

arity_three : (g : Element) → Mem g one → g.arity ≡ 3
arity_three g m = ap (λ (h : Element). h.arity) (the_one g m)

steps_of : (n : ℕ) (now : List Element) (run : List BracketEntry) (so_far : IsRunSoFar d 4 n now run) → RunSoFarLaw d 4 n now run so_far
steps_of = (runs_so_far d 4).1

-- ---- the first relabelled relation is the first element

no_elements : AreIdealElements lie (compare lie.generators by_path) []
no_elements = record { monic = record { each = λ g m. absurd m; apart = λ g h m. absurd m }; in_ideal = λ g m. absurd m }

pub begin : BracketEntry
begin = record { arity = 3; item = relabelling completion 1 first_order; elements = []; row = form_by first_order; steps = []; last = form_by first_order }

ordering : (w : List ℕ) → Mem w (orderings 3) → IsOrdering 3 w
ordering w = ((all_orderings 3).2 w).0

begin_entry : IsEntry d 4 begin
unfolding begin
begin_entry = (entries_come_about d 4 3 begin record { from_two = omega arith; to_most = omega arith; arity_is = refl; ideal_elements = no_elements; chain = λ t. refl }).relation
    completion 1 jacobi_relation first_order refl refl refl refl (ordering first_order (inl refl)) (λ t. refl)

less_than_t1 : (compare lie.generators by_path t2 t1 ≡ Less) × (compare lie.generators by_path t3 t1 ≡ Less)
unfolding ℕ_discrete
less_than_t1 = (refl, refl)

begin_lead : (t : Tree ℕ) → IsLastLead begin t → HasLeadingTree one t
unfolding begin
begin_lead t h = go (three_trees t h.valid)
  where
    not_zero : IsCongruent 100 (coef tree_discrete (form_by first_order) t1) 0 → ⊥
    not_zero z = let k = (coefs jacobi_relation refl).0 in absurd (omega (arith, k, z))

    go : (t ≡ t1) ⊎ ((t ≡ t2) ⊎ (t ≡ t3)) → HasLeadingTree one t
    go (inl e) = (jacobi, inl refl, sym e)
    go (inr (inl e)) = absurd (not_zero (h.leads.above t1 valid_t1 (subst (λ x. compare lie.generators by_path x t1 ≡ Less) (sym e) less_than_t1.0)))
    go (inr (inr e)) = absurd (not_zero (h.leads.above t1 valid_t1 (subst (λ x. compare lie.generators by_path x t1 ≡ Less) (sym e) less_than_t1.1)))

-- the leading tree of this row is l(l(1,2),3), and no other
only_lead : (u : Tree ℕ) → IsLastLead begin u → t1 ≡ u
unfolding begin
only_lead u h = (last_leads_are_one lie (compare lie.generators by_path) ordered begin).0 t1 u itself h
  where
    there : IsCongruent 100 (coef tree_discrete (form_by first_order) t1) 0 → ⊥
    there z = let k = (coefs jacobi_relation refl).0 in absurd (omega (arith, k, z))

    itself : IsLastLead begin t1
    itself = record { valid = valid_t1; leads = record { there = there; above = λ t v less. absurd (none_above t v less) } }

begun : IsRunSoFar d 4 3 one (begin ∷ [])
unfolding begin
begun = (steps_of 3 [] [] ((runs_so_far d 4).0 3 [])).relation one begin 1 first_order begin_entry (λ t h g m set at. absurd m) refl refl
    (λ h. absurd h.1)
    record { lower = λ g m. absurd m; leads = λ g m. absurd m }
    record { lower = λ g m lt. let k = arity_three g m in absurd (omega (arith, k, lt)); leads = λ g m. absurd m }
    begin_lead

-- ---- what is in the span is reduced to 0 by the one element

module _ (n : ℕ) (le : n ≤ 4) (two : 2 ≤ n) (item : Item) (row : Sum) (valid : AllTerms row (IsShuffleTree (inputs_of lie.generators) n)) where
  reduced_row : End (labels lie.generators) (setting lie (compare lie.generators by_path) one) (are_labels lie wide) ordered certified.monic n row
  reduced_row = end_of (labels lie.generators) (setting lie (compare lie.generators by_path) one) (are_labels lie wide) ordered certified.monic n row valid

  abbrev entry : BracketEntry
  entry = record { arity = n; item = item; elements = one; row = row; steps = reduced_row.uses; last = reduced_row.last }

  entry_chained : IsChained d 4 n entry
  entry_chained = record { from_two = two; to_most = le; arity_is = refl; ideal_elements = lie_elements; chain = reduced_row.chain }

  entry_finished : HasFinished entry
  entry_finished = reduced_row.finished

  no_lead : InSpan (setting lie (compare lie.generators by_path) one) n row → (t : Tree ℕ) → IsLastLead entry t → ⊥
  no_lead m t h =
      let z = chains_end_with_zero (labels lie.generators) (setting lie (compare lie.generators by_path) one) (are_labels lie wide) ordered certified.monic 4 n certified.s_elements le row reduced_row.uses reduced_row.last reduced_row.chain reduced_row.finished m in
      h.leads.there (z t ∙ ap (λ c. c % 101) (coef_nothing tree_discrete t))

serves : (n : ℕ) → Serves d n one one
serves n = serves_all d n one one (λ g m. m)

stays : (n : ℕ) → Follows n one one
stays n = follows_same n one

-- ---- with no steps left, the second relabelled relation stops

pub stop : BracketEntry
stop = record { arity = 3; item = relabelling completion 1 second_order; elements = one; row = form_by second_order; steps = []; last = form_by second_order }

stop_entry : IsEntry d 4 stop
unfolding stop
stop_entry = (entries_come_about d 4 3 stop record { from_two = omega arith; to_most = omega arith; arity_is = refl; ideal_elements = lie_elements; chain = λ t. refl }).relation
    completion 1 jacobi_relation second_order refl refl refl refl (ordering second_order (inr (inl refl))) (λ t. refl)

stop_stopped : HasStopped stop
unfolding stop
stop_stopped = (insertion_t1, stands)
  where
    stands : IsCongruent 100 (coef tree_discrete (form_by second_order) t1) 0 → ⊥
    stands z = let k = (coefs jacobi_relation refl).1 in absurd (omega (arith, k, z))

stop_fresh : HasItem (begin ∷ []) stop.item → ⊥
unfolding begin stop
stop_fresh h = other h.0 h.1 h.2
  where
    other : (x : BracketEntry) → Mem x (begin ∷ []) → x.item ≡ relabelling completion 1 second_order → ⊥
    other x (inl e) f = let k : relabelling completion 1 first_order ≡ relabelling completion 1 second_order = sym (ap (λ (y : BracketEntry). y.item) e) ∙ f in absurd (cc k)
    other x (inr m) f = m

stop_is : call_of stop.item ≡ completing
unfolding stop
stop_is = refl

-- a stopped run of the completion, without steps
pub stopped_run : IsStoppedRun d 4 ((begin ∷ []) ++ (stop ∷ []))
stopped_run = ((steps_of 3 one (begin ∷ []) begun).stopped stop stop_entry stop_stopped stop_is stop_fresh).0

-- ---- one loop over the other permutations

abbrev item_by : List ℕ → Item
item_by w = relabelling completion 1 w

-- the run, with more entries for relabelled relations
record Grown (run : List BracketEntry) (ws : List (List ℕ)) : Type 0 where
  more : List BracketEntry
  so_far : IsRunSoFar d 4 3 one more
  old : (i : Item) → HasItem run i → HasItem more i
  each : (w : List ℕ) → Mem w ws → HasItem more (item_by w)
  only : (i : Item) → HasItem more i → HasItem run i ⊎ ((w : List ℕ) × Mem w ws × (item_by w ≡ i))

span_by : (w : List ℕ) → Mem w (orderings 3) → InSpan (setting lie (compare lie.generators by_path) one) 3 (form_by w)
span_by w m = certified.relations jacobi_relation (inl refl) (omega arith) w m

form_trees : (w : List ℕ) → Mem w (orderings 3) → AllTerms (form_by w) (IsShuffleTree (inputs_of lie.generators) 3)
form_trees w m = relabelled_trees d 3 jacobi_relation.terms (sound jacobi_relation (inl refl)) w (ordering w m)

abbrev by : (w : List ℕ) → Mem w (orderings 3) → BracketEntry
by w m = entry 3 (omega arith) (omega arith) (item_by w) (form_by w) (form_trees w m)

one_more : (run : List BracketEntry) → IsRunSoFar d 4 3 one run → (w : List ℕ) (m : Mem w (orderings 3)) → (HasItem run (item_by w) → ⊥) → IsRunSoFar d 4 3 one (run ++ (by w m ∷ []))
one_more run s w m fresh = (steps_of 3 one run s).relation one (by w m) 1 w
    ((entries_come_about d 4 3 (by w m) (entry_chained 3 (omega arith) (omega arith) (item_by w) (form_by w) (form_trees w m))).relation completion 1 jacobi_relation w refl refl refl refl (ordering w m) (λ t. refl))
    (entry_finished 3 (omega arith) (omega arith) (item_by w) (form_by w) (form_trees w m)) refl refl fresh (serves 3) (stays 3)
    (λ t h. absurd (no_lead 3 (omega arith) (omega arith) (item_by w) (form_by w) (form_trees w m) (span_by w m) t h))

grow : (run : List BracketEntry) (w : List ℕ) (ws : List (List ℕ)) → IsRunSoFar d 4 3 one run → (m : Mem w (orderings 3)) → (HasItem run (item_by w) → ⊥) → Grown (run ++ (by w m ∷ [])) ws → Grown run (w ∷ ws)
grow run w ws s m fresh g = record {
  more = g.more;
  so_far = g.so_far;
  old = λ i h. g.old i ((items i).1 (inl h));
  each = λ v n. each v n;
  only = λ i h. only i (g.only i h);
}
  where
    items : (i : Item) → HasItem (run ++ (by w m ∷ [])) i ↔ (HasItem run i ⊎ (item_by w ≡ i))
    items i = (steps_of 3 one run s).items (by w m) i

    each : (v : List ℕ) → Mem v (w ∷ ws) → HasItem g.more (item_by v)
    each v (inl e) = g.old (item_by v) ((items (item_by v)).1 (inr (ap item_by (sym e))))
    each v (inr n) = g.each v n

    widen : (i : Item) → HasItem run i ⊎ (item_by w ≡ i) → HasItem run i ⊎ ((v : List ℕ) × Mem v (w ∷ ws) × (item_by v ≡ i))
    widen i (inl h) = inl h
    widen i (inr e) = inr (w, inl refl, e)

    only : (i : Item) → HasItem (run ++ (by w m ∷ [])) i ⊎ ((v : List ℕ) × Mem v ws × (item_by v ≡ i)) → HasItem run i ⊎ ((v : List ℕ) × Mem v (w ∷ ws) × (item_by v ≡ i))
    only i (inl h) = widen i ((items i).0 h)
    only i (inr p) = inr (p.0, inr p.1, p.2)

one_order : (v w : List ℕ) → item_by v ≡ item_by w → v ≡ w
one_order v w e = cc e

loop : (ws : List (List ℕ)) (run : List BracketEntry) → IsRunSoFar d 4 3 one run → Distinct ws → ((w : List ℕ) → Mem w ws → Mem w (orderings 3)) → ((w : List ℕ) → Mem w ws → HasItem run (item_by w) → ⊥) → Grown run ws
loop [] run s distinct all fresh = record { more = run; so_far = s; old = λ i h. h; each = λ w m. absurd m; only = λ i h. inl h }
loop (w ∷ ws) run s distinct all fresh =
    grow run w ws s (all w (inl refl)) (fresh w (inl refl))
    (loop ws (run ++ (by w (all w (inl refl)) ∷ [])) (one_more run s w (all w (inl refl)) (fresh w (inl refl))) distinct.1 (λ v m. all v (inr m)) (λ v m h. still v m (((steps_of 3 one run s).items (by w (all w (inl refl))) (item_by v)).0 h)))
  where
    still : (v : List ℕ) → Mem v ws → HasItem run (item_by v) ⊎ (item_by w ≡ item_by v) → ⊥
    still v m (inl h) = fresh v (inr m) h
    still v m (inr e) = distinct.0 (subst (λ u. Mem u ws) (sym (one_order w v e)) m)

other_orders : List (List ℕ)
other_orders = (1 ∷ (3 ∷ (2 ∷ []))) ∷ ((2 ∷ (1 ∷ (3 ∷ []))) ∷ ((2 ∷ (3 ∷ (1 ∷ []))) ∷ ((3 ∷ (1 ∷ (2 ∷ []))) ∷ ((3 ∷ (2 ∷ (1 ∷ []))) ∷ []))))

begin_fresh : (w : List ℕ) → Mem w other_orders → HasItem (begin ∷ []) (item_by w) → ⊥
unfolding begin other_orders
begin_fresh w m h = ((all_orderings 3).1).0 (subst (λ v. Mem v other_orders) (one_order w first_order (sym (item_is h.0 h.1 h.2))) m)
  where
    item_is : (x : BracketEntry) → Mem x (begin ∷ []) → x.item ≡ item_by w → item_by first_order ≡ item_by w
    item_is x (inl e) f = sym (ap (λ (y : BracketEntry). y.item) e) ∙ f
    item_is x (inr n) f = absurd n

after_relations : Grown (begin ∷ []) other_orders
unfolding other_orders
after_relations = loop other_orders (begin ∷ []) begun (((all_orderings 3).1).1) (λ w m. inr m) begin_fresh

-- each permutation is there
each_order : (w : List ℕ) → IsOrdering 3 w → HasItem after_relations.more (item_by w)
unfolding begin other_orders
each_order w o = go (((all_orderings 3).2 w).1 o)
  where
    go : Mem w (orderings 3) → HasItem after_relations.more (item_by w)
    go (inl e) = after_relations.old (item_by w) (begin, inl refl, ap item_by (sym e))
    go (inr m) = after_relations.each w m

-- and nothing else
only_orders : (i : Item) → HasItem after_relations.more i → (w : List ℕ) × (item_by w ≡ i)
unfolding begin
only_orders i h = go (after_relations.only i h)
  where
    first : (x : BracketEntry) → Mem x (begin ∷ []) → x.item ≡ i → item_by first_order ≡ i
    first x (inl e) f = sym (ap (λ (y : BracketEntry). y.item) e) ∙ f
    first x (inr n) f = absurd n

    go : HasItem (begin ∷ []) i ⊎ ((w : List ℕ) × Mem w other_orders × (item_by w ≡ i)) → (w : List ℕ) × (item_by w ≡ i)
    go (inl k) = (first_order, first k.0 k.1 k.2)
    go (inr p) = (p.0, p.2)

-- ---- the tail of the element

tail_item : Item
tail_item = tail_of t1

tail_is_valid : AllTerms jacobi.tail (IsShuffleTree (inputs_of lie.generators) 3)
tail_is_valid = AllTerms-imp (λ u. IsShuffleTree (inputs_of lie.generators) 3 u × IsLess (setting lie (compare lie.generators by_path) one) u t1) (IsShuffleTree (inputs_of lie.generators) 3) jacobi.tail (λ u h. h.0)
    (certified.monic.each jacobi (inl refl)).tail_valid

tail_entry : BracketEntry
tail_entry = entry 3 (omega arith) (omega arith) (tail_of t1) jacobi.tail tail_is_valid

after_tail : IsRunSoFar d 4 3 one (after_relations.more ++ (tail_entry ∷ []))
unfolding tail_entry
after_tail = (steps_of 3 one after_relations.more after_relations.so_far).tail tail_entry t1 refl
    ((entries_come_about d 4 3 tail_entry (entry_chained 3 (omega arith) (omega arith) (tail_of t1) jacobi.tail tail_is_valid)).tail one lie_elements jacobi (inl refl) refl refl (λ t. refl))
    (entry_finished 3 (omega arith) (omega arith) (tail_of t1) jacobi.tail tail_is_valid) refl
    (λ h. let k = only_orders (tail_of t1) h in absurd (cc k.1))
    (serves 3).lower

-- ---- the S-element of the element with itself

-- by the certificate it is in the span
row_spans : InSpan (setting lie (compare lie.generators by_path) one) 4 (s_element 100 jacobi jacobi comb top_two lower_two)
row_spans =
    let r = certified.s_elements 4 (omega arith) jacobi jacobi (inl (refl, inl refl)) comb top_two lower_two comb_multiple in
    record { uses = r.uses; adds_up = r.adds_up }

pair_trees : AllTerms (s_element 100 jacobi jacobi comb top_two lower_two) (IsShuffleTree (inputs_of lie.generators) 4)
pair_trees = s_valid (setting lie (compare lie.generators by_path) one) ordered certified.monic 4 jacobi jacobi (inl refl) (inl refl) comb top_two lower_two comb_multiple

pub the_run : List BracketEntry
the_run = after_relations.more ++ (tail_entry ∷ [])

pub the_pair : BracketEntry
the_pair = entry 4 (omega arith) (omega arith) (two_places completion comb top_two lower_two) (s_element 100 jacobi jacobi comb top_two lower_two) pair_trees

pair_is : IsEntry d 4 the_pair
unfolding the_pair
pair_is = (entries_come_about d 4 4 the_pair (entry_chained 4 (omega arith) (omega arith) (two_places completion comb top_two lower_two) (s_element 100 jacobi jacobi comb top_two lower_two) pair_trees)).pair
    one lie_elements jacobi jacobi (inl refl) (inl refl) completion comb top_two lower_two comb_multiple refl (λ t. refl)

begin_four : IsRunSoFar d 4 4 one the_run
unfolding the_run
begin_four = (steps_of 3 one (after_relations.more ++ (tail_entry ∷ [])) after_tail).next_arity

no_pair : HasItem the_run (two_places completion comb top_two lower_two) → ⊥
unfolding the_run tail_entry
no_pair h = go (((steps_of 3 one after_relations.more after_relations.so_far).items tail_entry (two_places completion comb top_two lower_two)).0 h)
  where
    go : HasItem after_relations.more (two_places completion comb top_two lower_two) ⊎ (tail_of t1 ≡ two_places completion comb top_two lower_two) → ⊥
    go (inl k) = let p = only_orders (two_places completion comb top_two lower_two) k in absurd (cc p.1)
    go (inr e) = absurd (cc e)

pub after_pair : IsRunSoFar d 4 4 one (the_run ++ (the_pair ∷ []))
unfolding the_pair
after_pair = (steps_of 4 one the_run begin_four).pair lie_elements one the_pair jacobi jacobi (inl refl) (inl refl) (omega arith) (omega arith) comb top_two lower_two refl
    record { first_at = comb_multiple.overlap.first_at; second_at = comb_multiple.overlap.second_at; row_is = λ t. refl }
    pair_is (entry_finished 4 (omega arith) (omega arith) (two_places completion comb top_two lower_two) (s_element 100 jacobi jacobi comb top_two lower_two) pair_trees) refl no_pair (serves 4) (stays 4)
    (λ t h. absurd (no_lead 4 (omega arith) (omega arith) (two_places completion comb top_two lower_two) (s_element 100 jacobi jacobi comb top_two lower_two) pair_trees row_spans t h))

-- ---- it is full

the_items : (i : Item) → HasItem (the_run ++ (the_pair ∷ [])) i ↔ (HasItem the_run i ⊎ (the_pair.item ≡ i))
the_items i = (steps_of 4 one the_run begin_four).items the_pair i

run_items : (i : Item) → HasItem after_relations.more i → HasItem the_run i
unfolding the_run
run_items i h = ((steps_of 3 one after_relations.more after_relations.so_far).items tail_entry i).1 (inl h)

all_relations : (k : ℕ) (r : Relation) → Nth k lie.relations r → (w : List ℕ) → IsOrdering r.arity w → HasItem (the_run ++ (the_pair ∷ [])) (relabelling completion k w)
all_relations zero r e w o = absurd e
all_relations (suc zero) r e w o = (the_items (item_by w)).1 (inl (run_items (item_by w) (each_order w (subst (λ (x : Relation). IsOrdering x.arity w) e o))))
all_relations (suc (suc k)) r e w o = absurd e

abbrev Triple : Type 0
Triple = Tree ℕ × List ℕ × List ℕ

-- of arity at most 4 there is one small common multiple
one_multiple : (m : ℕ) → m ≤ 4 → (x : Triple) → Mem x (multiples t1 t1 m) → (3 < m) × (x ≡ (comb, top_two, lower_two))
one_multiple zero le x h = absurd (subst (Mem x) no_multiples.0 h)
one_multiple (suc zero) le x h = absurd (subst (Mem x) no_multiples.1 h)
one_multiple (suc (suc zero)) le x h = absurd (subst (Mem x) no_multiples.2 h)
one_multiple (suc (suc (suc zero))) le x h = absurd (subst (Mem x) no_multiples.3 h)
one_multiple (suc (suc (suc (suc zero)))) le x h = go (subst (Mem x) multiples_of_t1 h)
  where
    go : (x ≡ (comb, top_two, lower_two)) ⊎ ⊥ → (3 < 4) × (x ≡ (comb, top_two, lower_two))
    go (inl e) = (omega arith, e)
    go (inr n) = absurd n
one_multiple (suc (suc (suc (suc (suc m))))) le x h = absurd (omega (arith, le))

abbrev All : Item → Type 0
All i = HasItem (the_run ++ (the_pair ∷ [])) i

of_one : (m : ℕ) → m ≤ 4 → (t : Tree ℕ) (first second : List ℕ) → IsMultiple m t1 t1 t first second → (3 < m) × All (two_places completion t first second)
unfolding the_pair
of_one m le t first second i =
    let k = one_multiple m le (t, first, second) (((multiples_listed t1 t1 m tt tt).0 t first second).1 i) in (
      k.0,
      subst (λ (x : Triple). All (two_places completion x.0 x.1 x.2)) (sym k.1) ((the_items (two_places completion comb top_two lower_two)).1 (inr refl)),
    )

all_multiples : (m : ℕ) → m ≤ 4 → (g h : Element) → Mem g one → Mem h one → (t : Tree ℕ) (first second : List ℕ) → IsMultiple m g.lead h.lead t first second
    → (g.arity < m) × (h.arity < m) × (All (two_places completion t first second) ⊎ All (two_places completion t second first))
all_multiples m le g h mg mh t first second i =
    let k = of_one m le t first second (subst (λ (x : Element). IsMultiple m x.lead t1 t first second) (the_one g mg) (subst (λ (x : Element). IsMultiple m g.lead x.lead t first second) (the_one h mh) i)) in
    let a = arity_three g mg in
    let b = arity_three h mh in
    (omega (arith, k.0, a), omega (arith, k.0, b), inl k.1)

pub full_run : IsFullRun d 4 one (the_run ++ (the_pair ∷ []))
full_run = (steps_of 4 one (the_run ++ (the_pair ∷ [])) after_pair).full lie_basis (λ k r at terms two most w o. all_relations k r at w o) all_multiples
