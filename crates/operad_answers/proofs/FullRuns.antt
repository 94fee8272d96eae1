-- Over complete elements there is a full counted run, in which all questions are items.
use Rattle.std.proofs.Common.{Bool, true, false, ◌≡◌, ℕ, zero, suc, ◌+◌, ◌%◌, ◌<◌, ◌≤◌, List, [], ◌∷◌, map, refl, sym, ◌∙◌, ap, arith, subst, inl, inr, ◌⊎◌}
use Rattle.std.specs.Prelude.{flat_map}
use native.Mathlib.Decide.{dec_lt}
use Rattle.modular_sums.specs.Lists.{Mem, Distinct, Nth}
use Rattle.modular_sums.specs.Sums.{coef, AllTerms}
use Rattle.modular_sums.proofs.Lists.{mem_map, mem_of_map, mem_flat, mem_of_flat}
use Rattle.labelled_trees.specs.Trees.{Tree, IsNode}
use Rattle.labelled_trees.specs.Equality.{tree_discrete}
use Rattle.shuffle_insertions.specs.ShuffleTrees.{IsShuffleTree}
use Rattle.shuffle_insertions.specs.Orders.{IsTreeOrder}
use Rattle.shuffle_places.specs.AllMultiples.{multiples}
use Rattle.shuffle_places.specs.Multiples.{IsMultiple}
use Rattle.shuffle_places.proofs.Laws.{multiples_listed}
use Rattle.shuffle_bases.specs.Elements.{Element, Setting, AreMonic, s_element}
use Rattle.shuffle_normal_forms.specs.FreeTrees.{is_empty}
use Rattle.shuffle_normal_forms.specs.NormalForms.{InSpan}
use Rattle.shuffle_reductions.proofs.SElements.{s_valid, all_pairs, multiple_greater}
use Rattle.shuffle_reductions.proofs.Ends.{End, end_of}
use Rattle.shuffle_reductions.proofs.SpanChains.{chains_end_with_zero}
use Rattle.operad_ideals.specs.Presentations.{Relation, Presentation}
use Rattle.shuffle_transfer.specs.Labels.{labels, inputs_of}
use Rattle.shuffle_transfer.specs.Orderings.{IsOrdering, orderings}
use Rattle.shuffle_transfer.specs.Transfer.{relabelled, shuffled}
use Rattle.shuffle_transfer.specs.GroebnerBases.{setting}
use Rattle.shuffle_transfer.proofs.Labels.{are_labels}
use Rattle.shuffle_transfer.proofs.Orderings.{all_orderings}
use Rattle.shuffle_transfer.proofs.Spanning.{all_shuffles}
use Rattle.shuffle_completion.specs.Completion.{IsCompletedThrough}
use Rattle.shuffle_completion.proofs.Laws.{complete_is_reduced}
use Rattle.shuffle_completion.specs.Existence.{IsOverField}
use Rattle.counted_runs.specs.Items.{Problem, Question, AsksElements, Purpose, completion, Item, relabelling, two_places, question}
use Rattle.counted_runs.specs.Rows.{SameSum, AreIdealElements, IsSElement}
use Rattle.counted_runs.specs.Runs.{EntryOf, IsEntry, HasFinished, AllButLast}
use Rattle.counted_runs.specs.FullRuns.{InSequence, IsRelationOrPair, HoldsElement, HasItem, KeepsLead, HasPair, IsFullRun}
use Rattle.counted_runs.specs.Entries.{IsChained}
use Rattle.counted_runs.proofs.Entries.{entries_come_about}
use Rattle.counted_runs.proofs.Numbered.{nth_member}
use Rattle.counted_runs.proofs.RowTrees.{relabelled_trees}
use Rattle.counted_runs.proofs.LastLeads.{last_leads_are_one}
use Rattle.operad_answers.proofs.ItemEquality.{item_discrete}
use Rattle.operad_answers.proofs.KeptTrees.{keep, keep_valid, keep_same}
use Rattle.operad_answers.proofs.NumberedLists.{over, source, found, nth_is_member, down_from, in_down, down_small}

module _ (D : Problem) (field : IsOverField D.presentation) (order : IsTreeOrder (inputs_of D.presentation.generators) D.compare) (asks : AsksElements D) (elements : List Element) (N : ℕ)
    (complete : IsCompletedThrough D.presentation D.compare elements N) where
  abbrev p : Presentation
  p = D.presentation

  abbrev s : Setting
  s = setting D.presentation D.compare elements

  monic : AreMonic (setting D.presentation D.compare elements)
  monic = complete.certified.monic

  ideal_elements : AreIdealElements D.presentation D.compare elements
  ideal_elements = record { monic = complete.certified.monic; in_ideal = complete.certified.in_ideal }

  two_or_more : (g : Element) → Mem g elements → 2 ≤ g.arity
  two_or_more g m = ((complete_is_reduced D.presentation field.sound field.wide field.not_zero D.compare order elements N complete).each g m).0

  -- of a row the terms on shuffle trees of the arity: all of them, for each row below
  abbrev kept : ℕ → List (ℕ × Tree ℕ) → List (ℕ × Tree ℕ)
  kept n row = keep D.presentation field.wide n row

  finish_row : (n : ℕ) (row : List (ℕ × Tree ℕ)) → End (labels D.presentation.generators) (setting D.presentation D.compare elements) (are_labels D.presentation field.wide) order complete.certified.monic n (kept n row)
  finish_row n row = end_of (labels D.presentation.generators) (setting D.presentation D.compare elements) (are_labels D.presentation field.wide) order complete.certified.monic n (kept n row)
      (keep_valid D.presentation field.wide n row)

  abbrev same_row : (n : ℕ) (row : List (ℕ × Tree ℕ)) → AllTerms row (IsShuffleTree (inputs_of D.presentation.generators) n) → SameSum D.presentation (kept n row) row
  same_row n row h t = ap (λ e. coef tree_discrete e t % suc D.presentation.q) (keep_same D.presentation field.wide n row h)

  -- the entry of an item, over all elements
  abbrev entry_of : ℕ → Item → List (ℕ × Tree ℕ) → EntryOf D
  entry_of n i row = record { arity = n; item = i; elements = elements; row = kept n row; steps = (finish_row n row).uses; last = (finish_row n row).last }

  chained : (n : ℕ) (i : Item) (row : List (ℕ × Tree ℕ)) → 2 ≤ n → n ≤ N → IsChained D N n (entry_of n i row)
  chained n i row two most = record { from_two = two; to_most = most; arity_is = refl; ideal_elements = ideal_elements; chain = (finish_row n row).chain }

  last_zero : (n : ℕ) (row : List (ℕ × Tree ℕ)) → n ≤ N → AllTerms row (IsShuffleTree (inputs_of D.presentation.generators) n) → InSpan (setting D.presentation D.compare elements) n row → SameSum D.presentation (finish_row n row).last []
  last_zero n row le valid span = chains_end_with_zero (labels D.presentation.generators) (setting D.presentation D.compare elements) (are_labels D.presentation field.wide) order complete.certified.monic N n
      complete.certified.s_elements le (kept n row) (finish_row n row).uses (finish_row n row).last (finish_row n row).chain (finish_row n row).finished
      (subst (InSpan (setting D.presentation D.compare elements) n) (sym (keep_same D.presentation field.wide n row valid)) span)

  record IsPairOf (x : EntryOf D) (t : Tree ℕ) (first second : List ℕ) : Type 0 where
    one : Element
    other : Element
    one_there : Mem one elements
    other_there : Mem other elements
    row_is : IsSElement D.presentation t first second one other x.row

  -- what holds of each entry that is made
  record Good (x : EntryOf D) : Type 0 where
    entry : IsEntry D N x
    finished : HasFinished x
    over_all : x.elements ≡ elements
    zero : IsRelationOrPair x.item → SameSum D.presentation x.last []
    pair : (z : Purpose) (t : Tree ℕ) (first second : List ℕ) → x.item ≡ two_places z t first second → IsPairOf x t first second

  good_relation : (k : ℕ) (r : Relation) → Nth k D.presentation.relations r → is_empty r.terms ≡ false → 2 ≤ r.arity → r.arity ≤ N → (w : List ℕ) → Mem w (orderings r.arity)
      → Good (entry_of r.arity (relabelling completion k w) (shuffled D.presentation (relabelled w r.terms)))
  good_relation k r at some two most w o = record {
    entry = (entries_come_about D N r.arity (entry_of r.arity (relabelling completion k w) row) (chained r.arity (relabelling completion k w) row two most)).relation completion k r w refl at refl some
        (((all_orderings r.arity).2 w).0 o) (same_row r.arity row valid);
    finished = (finish_row r.arity row).finished;
    over_all = refl;
    zero = λ h. last_zero r.arity row most valid (complete.certified.relations r (nth_is_member k D.presentation.relations r at) most w o);
    pair = λ z t first second e. absurd (cc e);
  }
    where
      row : List (ℕ × Tree ℕ)
      row = shuffled D.presentation (relabelled w r.terms)

      valid : AllTerms (shuffled D.presentation (relabelled w r.terms)) (IsShuffleTree (inputs_of D.presentation.generators) r.arity)
      valid = relabelled_trees D r.arity r.terms (field.sound r (nth_member k D.presentation.relations r at)) w (((all_orderings r.arity).2 w).0 o)

  good_pair : (m : ℕ) → m ≤ N → (g h : Element) → Mem g elements → Mem h elements → (t : Tree ℕ) (first second : List ℕ) → IsMultiple m g.lead h.lead t first second
      → Good (entry_of m (two_places completion t first second) (s_element D.presentation.q g h t first second))
  good_pair m most g h mg mh t first second i = record {
    entry = (entries_come_about D N m (entry_of m (two_places completion t first second) row) (chained m (two_places completion t first second) row two most)).pair elements ideal_elements g h mg mh
        completion t first second i refl (same_row m row valid);
    finished = (finish_row m row).finished;
    over_all = refl;
    zero = λ q. last_zero m row most valid span;
    pair = λ z u a b e. same_pair z u a b e;
  }
    where
      row : List (ℕ × Tree ℕ)
      row = s_element D.presentation.q g h t first second

      valid : AllTerms (s_element D.presentation.q g h t first second) (IsShuffleTree (inputs_of D.presentation.generators) m)
      valid = s_valid (setting D.presentation D.compare elements) order complete.certified.monic m g h mg mh t first second i

      two : 2 ≤ m
      two =
          let big = multiple_greater (setting D.presentation D.compare elements) complete.certified.monic complete.apart m g h mg mh t first second i in
          let least = two_or_more g mg in
          omega (arith, big.0, least)

      span : InSpan (setting D.presentation D.compare elements) m (s_element D.presentation.q g h t first second)
      span = let b = all_pairs (setting D.presentation D.compare elements) complete.certified.monic N complete.certified.s_elements m most g h mg mh t first second i in record { uses = b.uses; adds_up = b.adds_up }

      same_pair : (z : Purpose) (u : Tree ℕ) (a b : List ℕ) → two_places completion t first second ≡ two_places z u a b
          → IsPairOf (entry_of m (two_places completion t first second) (s_element D.presentation.q g h t first second)) u a b
      same_pair z u a b e =
          let tree : t ≡ u = cc e in
          let one : first ≡ a = cc e in
          let two_is : second ≡ b = cc e in
          subst (λ v. IsPairOf (entry_of m (two_places completion t first second) (s_element D.presentation.q g h t first second)) v a b) tree
          (subst (λ v. IsPairOf (entry_of m (two_places completion t first second) (s_element D.presentation.q g h t first second)) t v b) one
          (subst (λ v. IsPairOf (entry_of m (two_places completion t first second) (s_element D.presentation.q g h t first second)) t first v) two_is
          record { one = g; other = h; one_there = mg; other_there = mh; row_is = record { first_at = i.overlap.first_at; second_at = i.overlap.second_at; row_is = same_row m row valid } }))

  good_question : (k : ℕ) (q : Question) → Nth k D.questions q → 2 ≤ q.arity → q.arity ≤ N → Good (entry_of q.arity (question k) (shuffled D.presentation q.terms))
  good_question k q at two most = record {
    entry = (entries_come_about D N q.arity (entry_of q.arity (question k) (shuffled D.presentation q.terms)) (chained q.arity (question k) (shuffled D.presentation q.terms) two most)).asked k q refl at refl
        (same_row q.arity (shuffled D.presentation q.terms) (all_shuffles D.presentation q.arity q.terms (asks q (nth_member k D.questions q at))));
    finished = (finish_row q.arity (shuffled D.presentation q.terms)).finished;
    over_all = refl;
    zero = λ h. absurd h;
    pair = λ z t first second e. absurd (cc e);
  }

  -- ---- the candidates

  when : {A B : Type 0} → Dec A → Dec B → Bool → List (EntryOf D) → List (EntryOf D)
  when (yes _) (yes _) false l = l
  when (yes _) (yes _) true l = []
  when (yes _) (no _) b l = []
  when (no _) c b l = []

  abbrev relation_entry : ℕ → Relation → List ℕ → EntryOf D
  relation_entry k r w = entry_of r.arity (relabelling completion k w) (shuffled D.presentation (relabelled w r.terms))

  of_relation : ℕ → Relation → List (EntryOf D)
  of_relation k r = when (dec_lt 1 r.arity) (dec_lt r.arity (suc N)) (is_empty r.terms) (map (relation_entry k r) (orderings r.arity))

  relation_good : (k : ℕ) (r : Relation) → Nth k D.presentation.relations r → (x : EntryOf D) → Mem x (of_relation k r) → Good x
  unfolding of_relation when
  relation_good k r at x m = go (dec_lt 1 r.arity) (dec_lt r.arity (suc N)) (is_empty r.terms) refl m
    where
      go : (a : Dec (1 < r.arity)) (b : Dec (r.arity < suc N)) (c : Bool) → is_empty r.terms ≡ c → Mem x (when a b c (map (relation_entry k r) (orderings r.arity))) → Good x
      go (yes two) (yes most) false e h =
          let w = mem_of_map (relation_entry k r) x (orderings r.arity) h in
          subst Good (sym w.2) (good_relation k r at e (omega (arith, two)) (omega (arith, most)) w.0 w.1)
      go (yes two) (yes most) true e h = absurd h
      go (yes two) (no f) c e h = absurd h
      go (no f) b c e h = absurd h

  has_relation : (k : ℕ) (r : Relation) → is_empty r.terms ≡ false → 2 ≤ r.arity → r.arity ≤ N → (w : List ℕ) → Mem w (orderings r.arity) → Mem (relation_entry k r w) (of_relation k r)
  unfolding of_relation when
  has_relation k r some two most w o = go (dec_lt 1 r.arity) (dec_lt r.arity (suc N)) (is_empty r.terms) some
    where
      go : (a : Dec (1 < r.arity)) (b : Dec (r.arity < suc N)) (c : Bool) → c ≡ false → Mem (relation_entry k r w) (when a b c (map (relation_entry k r) (orderings r.arity)))
      go (yes _) (yes _) false e = mem_map (relation_entry k r) w (orderings r.arity) o
      go (yes _) (yes _) true e = absurd cc
      go (yes _) (no f) c e = absurd (f (omega (arith, most)))
      go (no f) b c e = absurd (f (omega (arith, two)))

  abbrev pair_entry : ℕ → Element → Element → Tree ℕ × List ℕ × List ℕ → EntryOf D
  pair_entry m g h x = entry_of m (two_places completion x.0 x.1 x.2) (s_element D.presentation.q g h x.0 x.1 x.2)

  of_pair : ℕ → Element → Element → List (EntryOf D)
  of_pair m g h = map (pair_entry m g h) (multiples g.lead h.lead m)

  of_arity : ℕ → List (EntryOf D)
  of_arity m = flat_map (λ g. flat_map (of_pair m g) elements) elements

  node_of : (g : Element) → Mem g elements → IsNode g.lead
  node_of g m = (complete.certified.monic.each g m).lead_node

  pair_good : (x : EntryOf D) → Mem x (flat_map of_arity (down_from N)) → Good x
  unfolding of_arity of_pair
  pair_good x i =
      let m = mem_of_flat of_arity x (down_from N) i in
      let g = mem_of_flat (λ a. flat_map (of_pair m.0 a) elements) x elements m.2 in
      let h = mem_of_flat (of_pair m.0 g.0) x elements g.2 in
      let y = mem_of_map (pair_entry m.0 g.0 h.0) x (multiples (g.0).lead (h.0).lead m.0) h.2 in
      let k = ((multiples_listed (g.0).lead (h.0).lead m.0 (node_of g.0 g.1) (node_of h.0 h.1)).0 (y.0).0 (y.0).1 (y.0).2).0 y.1 in
      subst Good (sym y.2) (good_pair m.0 (down_small N m.0 m.1).1 g.0 h.0 g.1 h.1 (y.0).0 (y.0).1 (y.0).2 k)

  has_pair : (m : ℕ) → 1 ≤ m → m ≤ N → (g h : Element) → Mem g elements → Mem h elements → (t : Tree ℕ) (first second : List ℕ) → IsMultiple m g.lead h.lead t first second
      → Mem (pair_entry m g h (t, first, second)) (flat_map of_arity (down_from N))
  unfolding of_arity of_pair
  has_pair m one most g h mg mh t first second i =
      mem_flat of_arity m (pair_entry m g h (t, first, second)) (down_from N) (in_down N m one most)
      (mem_flat (λ a. flat_map (of_pair m a) elements) g (pair_entry m g h (t, first, second)) elements mg
      (mem_flat (of_pair m g) h (pair_entry m g h (t, first, second)) elements mh
      (mem_map (pair_entry m g h) (t, first, second) (multiples g.lead h.lead m) (((multiples_listed g.lead h.lead m (node_of g mg) (node_of h mh)).0 t first second).1 i))))

  abbrev question_entry : ℕ → Question → EntryOf D
  question_entry k q = entry_of q.arity (question k) (shuffled D.presentation q.terms)

  of_question : ℕ → Question → List (EntryOf D)
  of_question k q = when (dec_lt 1 q.arity) (dec_lt q.arity (suc N)) false (question_entry k q ∷ [])

  question_good : (k : ℕ) (q : Question) → Nth k D.questions q → (x : EntryOf D) → Mem x (of_question k q) → Good x
  unfolding of_question when
  question_good k q at x m = go (dec_lt 1 q.arity) (dec_lt q.arity (suc N)) m
    where
      go : (a : Dec (1 < q.arity)) (b : Dec (q.arity < suc N)) → Mem x (when a b false (question_entry k q ∷ [])) → Good x
      go (yes two) (yes most) (inl e) = subst Good (sym e) (good_question k q at (omega (arith, two)) (omega (arith, most)))
      go (yes two) (yes most) (inr h) = absurd h
      go (yes two) (no f) h = absurd h
      go (no f) b h = absurd h

  has_question : (k : ℕ) (q : Question) → 2 ≤ q.arity → q.arity ≤ N → Mem (question_entry k q) (of_question k q)
  unfolding of_question when
  has_question k q two most = go (dec_lt 1 q.arity) (dec_lt q.arity (suc N))
    where
      go : (a : Dec (1 < q.arity)) (b : Dec (q.arity < suc N)) → Mem (question_entry k q) (when a b false (question_entry k q ∷ []))
      go (yes _) (yes _) = inl refl
      go (yes _) (no f) = absurd (f (omega (arith, most)))
      go (no f) b = absurd (f (omega (arith, two)))

  -- ---- a run of them, each item once

  record SoFar : Type 0 where
    run : List (EntryOf D)
    good : (x : EntryOf D) → Mem x run → Good x
    once : Distinct (map (λ x. x.item) run)

  has_or_not : (run : List (EntryOf D)) (i : Item) → HasItem run i ⊎ (HasItem run i → ⊥)
  has_or_not [] i = inr (λ h. absurd h.1)
  has_or_not (x ∷ run) i = go (item_discrete x.item i) (has_or_not run i)
    where
      later : HasItem run i → HasItem (x ∷ run) i
      later h = (h.0, inr h.1, h.2)

      never : (x.item ≡ i → ⊥) → (HasItem run i → ⊥) → (y : EntryOf D) → Mem y (x ∷ run) → y.item ≡ i → ⊥
      never f n y (inl e) k = f (ap (λ z. z.item) (sym e) ∙ k)
      never f n y (inr m) k = n (y, m, k)

      go : Dec (x.item ≡ i) → HasItem run i ⊎ (HasItem run i → ⊥) → HasItem (x ∷ run) i ⊎ (HasItem (x ∷ run) i → ⊥)
      go (yes e) r = inl (x, inl refl, e)
      go (no f) (inl h) = inl (later h)
      go (no f) (inr n) = inr (λ h. never f n h.0 h.1 h.2)

  record Added (l : List (EntryOf D)) (before : SoFar) : Type 0 where
    next : SoFar
    all : (x : EntryOf D) → Mem x l → HasItem next.run x.item
    still : (i : Item) → HasItem before.run i → HasItem next.run i

  add : (x : EntryOf D) → Good x → (r : SoFar) → Added (x ∷ []) r
  add x g r = go (has_or_not r.run x.item)
    where
      in_one : (y : EntryOf D) (run : List (EntryOf D)) → HasItem run x.item → Mem y (x ∷ []) → HasItem run y.item
      in_one y run h (inl e) = subst (λ z. HasItem run z.item) (sym e) h
      in_one y run h (inr m) = absurd m

      good : (y : EntryOf D) → Mem y (x ∷ r.run) → Good y
      good y (inl e) = subst Good (sym e) g
      good y (inr m) = r.good y m

      go : HasItem r.run x.item ⊎ (HasItem r.run x.item → ⊥) → Added (x ∷ []) r
      go (inl h) = record { next = r; all = λ y m. in_one y r.run h m; still = λ i k. k }
      go (inr n) = record {
        next = record { run = x ∷ r.run; good = good; once = (λ m. let k = mem_of_map (λ (z : EntryOf D). z.item) x.item r.run m in n (k.0, k.1, sym k.2), r.once) };
        all = λ y m. in_one y (x ∷ r.run) (x, inl refl, refl) m;
        still = λ i k. (k.0, inr k.1, k.2);
      }

  add_all : (l : List (EntryOf D)) → ((x : EntryOf D) → Mem x l → Good x) → (r : SoFar) → Added l r
  add_all [] g r = record { next = r; all = λ x m. absurd m; still = λ i k. k }
  add_all (x ∷ l) g r =
      let a = add x (g x (inl refl)) r in
      let b = add_all l (λ y m. g y (inr m)) a.next in
      record { next = b.next; all = λ y m. either y b.next.run (b.still x.item (a.all x (inl refl))) (b.all y) m; still = λ i k. b.still i (a.still i k) }
    where
      either : (y : EntryOf D) (run : List (EntryOf D)) → HasItem run x.item → (Mem y l → HasItem run y.item) → Mem y (x ∷ l) → HasItem run y.item
      either y run h k (inl e) = subst (λ z. HasItem run z.item) (sym e) h
      either y run h k (inr m) = k m

  relations_good : (x : EntryOf D) → Mem x (over of_relation 1 D.presentation.relations) → Good x
  relations_good x m =
      let c = source of_relation 1 D.presentation.relations x m in
      let e : 1 + c.place ≡ suc c.place = omega arith in
      relation_good (suc c.place) c.thing c.there x (subst (λ j. Mem x (of_relation j c.thing)) e c.member)

  questions_good : (x : EntryOf D) → Mem x (over of_question 1 D.questions) → Good x
  questions_good x m =
      let c = source of_question 1 D.questions x m in
      let e : 1 + c.place ≡ suc c.place = omega arith in
      question_good (suc c.place) c.thing c.there x (subst (λ j. Mem x (of_question j c.thing)) e c.member)

  with_relations : Added (over of_relation 1 D.presentation.relations) (record { run = []; good = λ x m. absurd m; once = tt })
  with_relations = add_all (over of_relation 1 D.presentation.relations) relations_good (record { run = []; good = λ x m. absurd m; once = tt })

  with_pairs : Added (flat_map of_arity (down_from N)) with_relations.next
  with_pairs = add_all (flat_map of_arity (down_from N)) pair_good with_relations.next

  whole : Added (over of_question 1 D.questions) with_pairs.next
  whole = add_all (over of_question 1 D.questions) questions_good with_pairs.next

  pub full_run : List (EntryOf D)
  full_run = whole.next.run

  -- ---- it is full

  each_good : (x : EntryOf D) → Mem x whole.next.run → Good x
  each_good = whole.next.good

  but_last : (l : List (EntryOf D)) → ((x : EntryOf D) → Mem x l → Good x) → AllButLast HasFinished l
  but_last [] g = tt
  but_last (x ∷ []) g = tt
  but_last (x ∷ (y ∷ l)) g = ((g x (inl refl)).finished, but_last (y ∷ l) (λ z m. g z (inr m)))

  in_sequence : (l : List (EntryOf D)) → ((x : EntryOf D) → Mem x l → Good x) → InSequence KeepsLead l
  in_sequence [] g = tt
  in_sequence (x ∷ l) g =
      ((λ y m a b e t lead. absurd ((last_leads_are_one D.presentation D.compare order x).1 ((g x (inl refl)).zero a) t lead)), in_sequence l (λ z m. g z (inr m)))

  held : (x : EntryOf D) → Mem x whole.next.run → (g : Element) → Mem g elements → HoldsElement D.presentation x.elements g
  held x m g mg = subst (λ l. HoldsElement D.presentation l g) (sym (each_good x m).over_all) record { by = g; member = mg; arity_is = refl; lead_is = refl; tail_is = λ t. refl }

  relation_item : (k : ℕ) (r : Relation) → Nth k D.presentation.relations r → is_empty r.terms ≡ false → 2 ≤ r.arity → r.arity ≤ N → (w : List ℕ) → IsOrdering r.arity w → HasItem whole.next.run (relabelling completion k w)
  relation_item zero r at some two most w o = absurd (none_at_zero D.presentation.relations r at)
    where
      none_at_zero : (l : List Relation) (x : Relation) → Nth 0 l x → ⊥
      none_at_zero [] x h = h
      none_at_zero (y ∷ l) x h = h
  relation_item (suc i) r at some two most w o =
      let e : suc i ≡ 1 + i = omega arith in
      let h = has_relation (suc i) r some two most w (((all_orderings r.arity).2 w).1 o) in
      whole.still (relabelling completion (suc i) w) (with_pairs.still (relabelling completion (suc i) w)
      (with_relations.all (relation_entry (suc i) r w) (found of_relation 1 i D.presentation.relations r (relation_entry (suc i) r w) at (subst (λ j. Mem (relation_entry (suc i) r w) (of_relation j r)) e h))))

  question_item : (k : ℕ) (q : Question) → Nth k D.questions q → 2 ≤ q.arity → q.arity ≤ N → HasItem whole.next.run (question k)
  question_item zero q at two most = absurd (none_at_zero D.questions q at)
    where
      none_at_zero : (l : List Question) (x : Question) → Nth 0 l x → ⊥
      none_at_zero [] x h = h
      none_at_zero (y ∷ l) x h = h
  question_item (suc i) q at two most =
      let e : suc i ≡ 1 + i = omega arith in
      whole.all (question_entry (suc i) q) (found of_question 1 i D.questions q (question_entry (suc i) q) at (subst (λ j. Mem (question_entry (suc i) q) (of_question j q)) e (has_question (suc i) q two most)))

  pair_item : (m : ℕ) → m ≤ N → (g h : Element) → Mem g elements → Mem h elements → (t : Tree ℕ) (first second : List ℕ) → IsMultiple m g.lead h.lead t first second → HasPair whole.next.run t first second g h
  pair_item m most g h mg mh t first second i =
      let big = multiple_greater (setting D.presentation D.compare elements) complete.certified.monic complete.apart m g h mg mh t first second i in
      let x = whole.still (two_places completion t first second) (with_pairs.all (pair_entry m g h (t, first, second)) (has_pair m (omega (arith, big.0)) most g h mg mh t first second i)) in
      let a = (each_good x.0 x.1).pair completion t first second x.2 in
      let same_one : a.one ≡ g = complete.certified.monic.apart a.one g a.one_there mg (sym a.row_is.first_at.divisor_is ∙ i.overlap.first_at.divisor_is) in
      let same_other : a.other ≡ h = complete.certified.monic.apart a.other h a.other_there mh (sym a.row_is.second_at.divisor_is ∙ i.overlap.second_at.divisor_is) in (
        x.0,
        x.1,
        inl record {
          purpose = completion;
          item_is = x.2;
          row_is = subst (λ z. IsSElement D.presentation t first second z h (x.0).row) same_one (subst (λ z. IsSElement D.presentation t first second a.one z (x.0).row) same_other a.row_is);
        },
      )

  pub is_full : IsFullRun D N elements full_run
  unfolding full_run
  is_full = record {
    reduced = complete_is_reduced D.presentation field.sound field.wide field.not_zero D.compare order elements N complete;
    finished = record {
      is_run = record { entries = λ x m. (each_good x m).entry; once = whole.next.once; finished = but_last whole.next.run each_good };
      all_finished = λ x m. (each_good x m).finished;
    };
    relations = λ k r at some two most w o. (completion, relation_item k r at some two most w o);
    multiples = pair_item;
    lower = λ x m g mg lt. held x m g mg;
    asked = λ x m a g mg le. held x m g mg;
    leads = in_sequence whole.next.run each_good;
  }

  pub all_asked : (k : ℕ) (q : Question) → Nth k D.questions q → 2 ≤ q.arity → q.arity ≤ N → HasItem full_run (question k)
  unfolding full_run
  all_asked k q at two most = question_item k q at two most
