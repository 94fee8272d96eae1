-- All tasks of an arity, one after the other.
use Rattle.std.proofs.Common.{◌≡◌, ℕ, suc, ◌*◌, ◌%◌, ◌<◌, ◌≤◌, List, [], ◌∷◌, map, refl, sym, ◌∙◌, ap, arith, subst, inl, inr, ◌⊎◌}
use mathlib.Core.List.{◌++◌}
use native.Mathlib.Decide.{ℕ_discrete}
use Rattle.std.specs.Prelude.{flat_map}
use Rattle.std.specs.declared.cmp.Ordering.{Ordering}
use Rattle.modular_sums.specs.Lists.{Mem, choose}
use Rattle.modular_sums.specs.Residues.{IsCongruent}
use Rattle.modular_sums.specs.Sums.{coef, AllTerms, Same}
use Rattle.modular_sums.proofs.Coefficients.{coef_nothing}
use Rattle.modular_sums.proofs.Images.{AllTerms-imp}
use Rattle.modular_sums.proofs.Lists.{mem_left, mem_right, mem_either, mem_map, mem_of_map, mem_flat, mem_of_flat}
use Rattle.labelled_trees.specs.Trees.{Tree}
use Rattle.labelled_trees.specs.Equality.{tree_discrete}
use Rattle.shuffle_insertions.specs.ShuffleTrees.{IsShuffleTree}
use Rattle.shuffle_insertions.specs.Orders.{IsTreeOrder}
use Rattle.shuffle_places.specs.AllMultiples.{multiples}
use Rattle.shuffle_places.specs.Multiples.{IsMultiple}
use Rattle.shuffle_places.proofs.Laws.{multiples_listed}
use Rattle.shuffle_bases.specs.Elements.{Element, Setting, AreMonic, Insertion}
use Rattle.shuffle_reductions.specs.Chains.{StandsIn, HasNoZeros, IsChain, IsFinished}
use Rattle.shuffle_reductions.specs.Extensions.{Extends}
use Rattle.shuffle_reductions.proofs.Greatest.{Greatest, greatest_or_none}
use Rattle.shuffle_reductions.proofs.Laws.{chains_end, chains_fall, chains_join, s_elements_by_chains, elements_extend_themselves}
use Rattle.shuffle_reductions.proofs.SElements.{members_in_order}
use Rattle.shuffle_reductions.proofs.Standing.{zero_of_not}
use Rattle.operad_ideals.specs.Presentations.{Relation, Presentation, arity_of}
use Rattle.shuffle_transfer.specs.Labels.{labels, inputs_of}
use Rattle.shuffle_transfer.specs.Orderings.{orderings}
use Rattle.shuffle_transfer.specs.Transfer.{relabelled, shuffled}
use Rattle.shuffle_transfer.specs.GroebnerBases.{setting}
use Rattle.shuffle_transfer.proofs.Labels.{are_labels}
use Rattle.shuffle_transfer.proofs.Orderings.{all_orderings}
use Rattle.shuffle_transfer.proofs.Spanning.{all_shuffles}
use Rattle.shuffle_transfer.proofs.TransferLaw.{labelled-relabelled}
use Rattle.shuffle_completion.specs.Completion.{Task, relation, multiple, task_sum, IsTask, AreAll, IsUnderway}
use Rattle.shuffle_completion.proofs.Laws.{task_ends_in_zero, task_ends_in_element}
use Rattle.shuffle_completion.proofs.Reduced.{node_of_two}
use Rattle.shuffle_completion.specs.Existence.{IsOverField}
use Rattle.shuffle_completion.proofs.LeadingTrees.{Sum, Any, leading, leading_arity, is_monic, is_multiple}

-- ---- the list of all tasks

of_relation : ℕ → Relation → List Task
of_relation n r = choose (ℕ_discrete r.arity n) (map (relation r) (orderings n)) []

of_pair : ℕ → Element → Element → List Task
of_pair n g h = map (λ m. multiple g h m.0 m.1 m.2) (multiples g.lead h.lead n)

pub all_tasks : Presentation → List Element → ℕ → List Task
all_tasks p elements n = flat_map (of_relation n) p.relations ++ flat_map (λ g. flat_map (of_pair n g) elements) elements

module _ (p : Presentation) (compare : Tree ℕ → Tree ℕ → Ordering) (elements : List Element) (n : ℕ) (monic : AreMonic (setting p compare elements)) where
  relation_is_task : (r : Relation) → Mem r p.relations → (x : Task) → Mem x (of_relation n r) → IsTask p elements n x
  unfolding of_relation
  relation_is_task r m x k = go (ℕ_discrete r.arity n) k
    where
      go : (d : Dec (r.arity ≡ n)) → Mem x (choose d (map (relation r) (orderings n)) []) → IsTask p elements n x
      go (yes e) i = let o = mem_of_map (relation r) x (orderings n) i in subst (IsTask p elements n) (sym o.2) (m, e, o.1)
      go (no f) i = absurd i

  pair_is_task : (g h : Element) → Mem g elements → Mem h elements → (x : Task) → Mem x (of_pair n g h) → IsTask p elements n x
  unfolding of_pair
  pair_is_task g h mg mh x k =
      let o = mem_of_map (λ m. multiple g h m.0 m.1 m.2) x (multiples g.lead h.lead n) k in
      subst (IsTask p elements n) (sym o.2) (mg, mh, ((multiples_listed g.lead h.lead n (monic.each g mg).lead_node (monic.each h mh).lead_node).0 (o.0).0 (o.0).1 (o.0).2).0 o.1)

  pub are_tasks : (x : Task) → Mem x (all_tasks p elements n) → IsTask p elements n x
  unfolding all_tasks
  are_tasks x m = go (mem_either x (flat_map (of_relation n) p.relations) (flat_map (λ g. flat_map (of_pair n g) elements) elements) m)
    where
      go : Mem x (flat_map (of_relation n) p.relations) ⊎ Mem x (flat_map (λ g. flat_map (of_pair n g) elements) elements) → IsTask p elements n x
      go (inl k) = let r = mem_of_flat (of_relation n) x p.relations k in relation_is_task r.0 r.1 x r.2
      go (inr k) =
          let g = mem_of_flat (λ g. flat_map (of_pair n g) elements) x elements k in
          let h = mem_of_flat (of_pair n g.0) x elements g.2 in
          pair_is_task g.0 h.0 g.1 h.1 x h.2

  has_relation : (r : Relation) → Mem r p.relations → r.arity ≡ n → (v : List ℕ) → Mem v (orderings n) → Mem (relation r v) (all_tasks p elements n)
  unfolding all_tasks of_relation
  has_relation r m e v o = mem_left (relation r v) (flat_map (of_relation n) p.relations) (flat_map (λ g. flat_map (of_pair n g) elements) elements)
      (mem_flat (of_relation n) r (relation r v) p.relations m (go (ℕ_discrete r.arity n)))
    where
      go : (d : Dec (r.arity ≡ n)) → Mem (relation r v) (choose d (map (relation r) (orderings n)) [])
      go (yes _) = mem_map (relation r) v (orderings n) o
      go (no f) = absurd (f e)

  has_pair : (g h : Element) → Mem g elements → Mem h elements → (t : Tree ℕ) (first second : List ℕ) → IsMultiple n g.lead h.lead t first second → Mem (multiple g h t first second) (all_tasks p elements n)
  unfolding all_tasks of_pair
  has_pair g h mg mh t first second k = mem_right (multiple g h t first second) (flat_map (of_relation n) p.relations) (flat_map (λ g. flat_map (of_pair n g) elements) elements)
      (mem_flat (λ g. flat_map (of_pair n g) elements) g (multiple g h t first second) elements mg
      (mem_flat (of_pair n g) h (multiple g h t first second) elements mh
      (mem_map (λ m. multiple g h m.0 m.1 m.2) (t, first, second) (multiples g.lead h.lead n)
      (((multiples_listed g.lead h.lead n (monic.each g mg).lead_node (monic.each h mh).lead_node).0 t first second).1 k))))

-- ---- one task

module _ (p : Presentation) (good : IsOverField p) (compare : Tree ℕ → Tree ℕ → Ordering) (order : IsTreeOrder (inputs_of p.generators) compare) (elements : List Element) (N : ℕ) (one : 1 ≤ N) where
  -- Some tasks are done; the elements are still there, and those of lower arity are the same.
  pub record Progress (done : List Task) : Type 0 where
    pub now : List Element
    pub underway : IsUnderway p compare now N done
    pub kept : (g : Element) → Mem g elements → Mem g now
    pub old : (g : Element) → Mem g now → g.arity < suc N → Mem g elements

  task_now : (now : List Element) → ((g : Element) → Mem g elements → Mem g now) → (x : Task) → IsTask p elements (suc N) x → IsTask p now (suc N) x
  task_now now kept (relation r v) h = h
  task_now now kept (multiple g h t first second) k = (kept g k.0, kept h k.1, k.2)

  module _ (done : List Task) (so_far : Progress done) (x : Task) (task : IsTask p elements (suc N) x) where
    abbrev now : List Element
    now = so_far.now

    abbrev s : Setting
    s = setting p compare so_far.now

    abbrev monic : AreMonic (setting p compare so_far.now)
    monic = so_far.underway.certified.monic

    extends : Extends (setting p compare so_far.now) so_far.now
    extends = elements_extend_themselves (setting p compare so_far.now) so_far.underway.certified.monic

    here : IsTask p so_far.now (suc N) x
    here = task_now so_far.now so_far.kept x task

    valid_of : (y : Task) → IsTask p so_far.now (suc N) y → AllTerms (task_sum p y) (IsShuffleTree (inputs_of p.generators) (suc N))
    valid_of (relation r v) k = subst (λ m. AllTerms (shuffled p (relabelled v r.terms)) (IsShuffleTree (inputs_of p.generators) m)) k.1
        (all_shuffles p r.arity (relabelled v r.terms) (labelled-relabelled (arity_of p) r.arity v (((all_orderings r.arity).2 v).0 (subst (λ m. Mem v (orderings m)) (sym k.1) k.2)) r.terms (good.sound r k.0)))
    valid_of (multiple g h t first second) k = (s_elements_by_chains (setting p compare so_far.now) order so_far.underway.certified.monic (suc N) g h k.0 k.1 t first second k.2).valid

    module _ (uses : List (ℕ × Insertion (setting p compare so_far.now) (suc N))) (f : Sum) (chain : IsChain (setting p compare so_far.now) (suc N) (task_sum p x) uses f)
        (finished : IsFinished (setting p compare so_far.now) f) (no_zeros : HasNoZeros p.q f) where
      f_valid : AllTerms f (IsShuffleTree (inputs_of p.generators) (suc N))
      f_valid = AllTerms-imp (StandsIn p.q f) (IsShuffleTree (inputs_of p.generators) (suc N)) f
          ((chains_fall (setting p compare so_far.now) order so_far.underway.certified.monic (suc N) (task_sum p x) uses f chain).valid (valid_of x here)) no_zeros

      solved_by_zero : ((u : Tree ℕ) → StandsIn p.q f u → Any u → ⊥) → Progress (x ∷ done)
      solved_by_zero nothing = record {
        now = so_far.now;
        underway = task_ends_in_zero p compare order so_far.now N done so_far.underway x here so_far.now extends uses
            ((chains_join (setting p compare so_far.now) (suc N)).0 (task_sum p x) (task_sum p x) uses f [] (λ t. refl) all_zero chain);
        kept = so_far.kept;
        old = so_far.old;
      }
        where
          all_zero : Same tree_discrete p.q f []
          all_zero t = zero_of_not tree_discrete p.q f t (λ k. nothing t k tt) ∙ ap (λ c. c % suc p.q) (sym (coef_nothing tree_discrete t))

      solved_by_element : Greatest (setting p compare so_far.now) order (suc N) f Any (λ t h. inl tt) → Progress (x ∷ done)
      solved_by_element g = record {
        now = so_far.now ++ (new ∷ []);
        underway = task_ends_in_element p good.sound good.not_zero compare order so_far.now N done so_far.underway x here so_far.now extends uses f chain finished new new_arity
            (is_monic (setting p compare so_far.now) order (suc N) f f_valid g inverse.0 inverse.1 (node_of_two (inputs_of p.generators) (suc N) g.tree g.valid (omega (arith, one))))
            (is_multiple (setting p compare so_far.now) order (suc N) f f_valid g inverse.0 inverse.1);
        kept = λ h m. mem_left h so_far.now (new ∷ []) (so_far.kept h m);
        old = λ h m lt. old_one h (mem_either h so_far.now (new ∷ []) m) lt;
      }
        where
          inverse : (d : ℕ) × IsCongruent p.q (d * coef tree_discrete f g.tree) 1
          inverse = good.inverses (coef tree_discrete f g.tree) g.there

          new : Element
          new = leading (setting p compare so_far.now) order (suc N) f f_valid g inverse.0 inverse.1

          new_arity : new.arity ≡ suc N
          new_arity = leading_arity (setting p compare so_far.now) order (suc N) f f_valid g inverse.0 inverse.1

          old_one : (h : Element) → Mem h so_far.now ⊎ Mem h (new ∷ []) → h.arity < suc N → Mem h elements
          old_one h (inl m) lt = so_far.old h m lt
          old_one h (inr (inl e)) lt = let a : h.arity ≡ new.arity = ap (λ y. y.arity) e in absurd (omega (arith, a, new_arity, lt))
          old_one h (inr (inr k)) lt = absurd k

      solved_by : Progress (x ∷ done)
      solved_by = go (greatest_or_none (setting p compare so_far.now) order (suc N) f Any (λ t h. inl tt) f_valid)
        where
          go : Greatest (setting p compare so_far.now) order (suc N) f Any (λ t h. inl tt) ⊎ ((u : Tree ℕ) → StandsIn p.q f u → Any u → ⊥) → Progress (x ∷ done)
          go (inl g) = solved_by_element g
          go (inr nothing) = solved_by_zero nothing

    pub one_more : Progress (x ∷ done)
    one_more =
        let r = chains_end (labels p.generators) (setting p compare so_far.now) (are_labels p good.wide) order so_far.underway.certified.monic (suc N) (task_sum p x) (valid_of x here) in
        solved_by r.0 r.1 r.2 r.3 r.4

  -- ---- all tasks

  pub record Done (todo done : List Task) : Type 0 where
    pub tasks : List Task
    pub progress : Progress tasks
    pub todo_done : (x : Task) → Mem x todo → Mem x tasks
    pub still_done : (x : Task) → Mem x done → Mem x tasks

  pub all_done : (todo done : List Task) → ((x : Task) → Mem x todo → IsTask p elements (suc N) x) → Progress done → Done todo done
  all_done [] done h so_far = record { tasks = done; progress = so_far; todo_done = λ x m. absurd m; still_done = λ x m. m }
  all_done (x ∷ todo) done h so_far =
      let r = all_done todo (x ∷ done) (λ y m. h y (inr m)) (one_more done so_far x (h x (inl refl))) in
      record { tasks = r.tasks; progress = r.progress; todo_done = λ y m. either r.tasks y r.todo_done (r.still_done x (inl refl)) m; still_done = λ y m. r.still_done y (inr m) }
    where
      either : (l : List Task) (y : Task) → ((z : Task) → Mem z todo → Mem z l) → Mem x l → Mem y (x ∷ todo) → Mem y l
      either l y rest first (inl e) = subst (λ z. Mem z l) (sym e) first
      either l y rest first (inr m) = rest y m

  -- the tasks that were done are all tasks of the arity over the elements as they are then
  pub are_all : (monic : AreMonic (setting p compare elements)) (done : List Task) (r : Done (all_tasks p elements (suc N)) done) → AreAll p r.progress.now (suc N) r.tasks
  are_all monic done r = record {
    relations = λ a m e some v o. r.todo_done (relation a v) (has_relation p compare elements (suc N) monic a m e v o);
    multiples = λ g h o lg lh t first second k.
        let q = members_in_order g h r.progress.now o in
        inl (r.todo_done (multiple g h t first second) (has_pair p compare elements (suc N) monic g h (r.progress.old g q.0 lg) (r.progress.old h q.1 lh) t first second k));
  }
