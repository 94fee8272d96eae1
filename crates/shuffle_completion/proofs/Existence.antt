-- Complete elements through each arity, and what they give.
use Rattle.std.proofs.Common.{◌≡◌, ℕ, zero, suc, ◌<◌, ◌≤◌, List, [], ◌∷◌, refl, arith, inl, inr, ◌⊎◌}
use native.Mathlib.Decide.{dec_lt}
use Rattle.std.specs.declared.cmp.Ordering.{Ordering}
use Rattle.modular_sums.specs.Lists.{Mem}
use Rattle.modular_sums.specs.Sums.{moved, AllTerms, scale}
use Rattle.modular_sums.proofs.Images.{AllTerms-imp}
use Rattle.labelled_trees.specs.Trees.{Tree}
use Rattle.labelled_trees.specs.Labelled.{IsLabelled}
use Rattle.shuffle_insertions.specs.ShuffleTrees.{IsShuffleTree}
use Rattle.shuffle_insertions.specs.Orders.{IsTreeOrder}
use Rattle.shuffle_bases.specs.Elements.{Element, IsLess, AreMonic}
use Rattle.shuffle_reductions.proofs.Laws.{chains_end, elements_extend_themselves}
use Rattle.operad_ideals.specs.Presentations.{Presentation, parts, arity_of}
use Rattle.shuffle_transfer.specs.Labels.{labels, inputs_of, symmetric_tree}
use Rattle.shuffle_transfer.specs.Transfer.{shuffled}
use Rattle.shuffle_transfer.specs.GroebnerBases.{setting}
use Rattle.shuffle_transfer.specs.NormalTrees.{normal_list, IsNormalTree, HasLabelledTrees, IsIndependent, IsSpanning, IsNormalSum, IsNormalForm}
use Rattle.operad_ideals.proofs.ReducedSums.{reduction}
use Rattle.shuffle_transfer.proofs.NormalForms.{rest_same}
use Rattle.shuffle_transfer.proofs.Labels.{are_labels}
use Rattle.shuffle_transfer.proofs.Spanning.{all_shuffles}
use Rattle.shuffle_completion.specs.Completion.{IsCompletedThrough, IsTailReduced, AreTailsReduced}
use Rattle.shuffle_completion.specs.ReducedBases.{IsReducedBasis}
use Rattle.shuffle_completion.proofs.Laws.{starts, arity_begins, arity_ends, complete_is_reduced, listing_is_normal, forms_by_chains}
use Rattle.shuffle_completion.proofs.Passing.{normal_zero}
use Rattle.shuffle_completion.specs.Existence.{IsOverField, AreThose}
use Rattle.shuffle_completion.proofs.LeadingTrees.{Sum}
use Rattle.shuffle_completion.proofs.TaskLists.{all_tasks, are_tasks, Progress, all_done, are_all}

-- ---- the tails of an arity reduced

module _ (p : Presentation) (good : IsOverField p) (compare : Tree ℕ → Tree ℕ → Ordering) (order : IsTreeOrder (inputs_of p.generators) compare) where
  module _ (elements : List Element) (n : ℕ) (monic : AreMonic (setting p compare elements)) where
    abbrev Reduced : Element → Type 0
    Reduced g = (h : Element) × (((g.arity < n) × (h ≡ g)) ⊎ ((g.arity ≡ n) × IsTailReduced (setting p compare elements) g h))

    tail_reduced : (g : Element) → Mem g elements → (h : Element) × IsTailReduced (setting p compare elements) g h
    tail_reduced g m =
        let v = AllTerms-imp (λ x. IsShuffleTree (inputs_of p.generators) g.arity x × IsLess (setting p compare elements) x g.lead) (IsShuffleTree (inputs_of p.generators) g.arity) g.tail (λ t k. k.0) (monic.each g m).tail_valid in
        let r = chains_end (labels p.generators) (setting p compare elements) (are_labels p good.wide) order monic g.arity g.tail v in (
          record { arity = g.arity; lead = g.lead; tail = r.1 },
          record {
            arity_is = refl;
            lead_is = refl;
            more = elements;
            extends = elements_extend_themselves (setting p compare elements) monic;
            uses = r.0;
            chain = r.2;
            finished = r.3;
            no_zeros = r.4;
          },
        )

    reduced_one : (g : Element) → Mem g elements → g.arity ≤ n → Reduced g
    reduced_one g m le = go (dec_lt g.arity n)
      where
        go : Dec (g.arity < n) → Reduced g
        go (yes lt) = (g, inl (lt, refl))
        go (no f) = let r = tail_reduced g m in (r.0, inr (omega (arith, f, le), r.1))

    all_reduced : (l : List Element) → ((g : Element) → Mem g l → Mem g elements × (g.arity ≤ n)) → (m : List Element) × AreTailsReduced (setting p compare elements) n l m
    all_reduced [] h = ([], tt)
    all_reduced (g ∷ l) h =
        let k = h g (inl refl) in
        let r = reduced_one g k.0 k.1 in
        let rest = all_reduced l (λ x m. h x (inr m)) in
        (r.0 ∷ rest.0, (r.1, rest.1))

  -- ---- one more arity

  next_arity : (elements : List Element) (N : ℕ) → 1 ≤ N → IsCompletedThrough p compare elements N → (more : List Element) × IsCompletedThrough p compare more (suc N)
  next_arity elements N one c =
      let monic = c.certified.monic in
      let start : Progress p good compare order elements N one [] = record { now = elements; underway = arity_begins p compare elements N c; kept = λ g m. m; old = λ g m lt. m } in
      let d = all_done p good compare order elements N one (all_tasks p elements (suc N)) [] (are_tasks p compare elements (suc N) monic) start in
      let u = d.progress.underway in
      let r = all_reduced d.progress.now (suc N) u.certified.monic d.progress.now (λ g m. (m, u.reached g m)) in
      (r.0, arity_ends p good.sound good.wide compare order d.progress.now N d.tasks u (are_all p good compare order elements N one monic [] d) r.0 r.1)

  through : (N : ℕ) → (elements : List Element) × IsCompletedThrough p compare elements (suc N)
  through zero = ([], starts p good.proper compare)
  through (suc N) = let c = through N in next_arity c.0 (suc N) (omega arith) c.1

  pub complete_through : (N : ℕ) → (elements : List Element) × IsCompletedThrough p compare elements N
  complete_through zero =
      let c = (through zero).1 in (
        [],
        record {
          certified = record {
            monic = record { each = λ g m. absurd m; apart = λ g h m n e. absurd m };
            once = tt;
            in_ideal = λ g m. absurd m;
            relations = λ r m le v o. (starts p good.proper compare).certified.relations r m (omega (arith, le)) v o;
            s_elements = λ m le g h o. absurd o;
          };
          reached = λ g m. absurd m;
          apart = λ g h m n set place. absurd m;
          tails_free = λ g m. absurd m;
        },
      )
  complete_through (suc N) = through N

  -- ---- normal forms

  pub some_form : (n : ℕ) (e : Sum) → AllTerms e (IsLabelled (arity_of p) n) → (f : Sum) × IsNormalForm p compare n e f
  some_form n e v =
      let c = complete_through n in
      let monic = c.1.certified.monic in
      let r = chains_end (labels p.generators) (setting p compare c.0) (are_labels p good.wide) order monic n (shuffled p e) (all_shuffles p n e v) in
      let f : Sum = moved (symmetric_tree p.generators) r.1 in
      let s : IsNormalSum p compare n e f = forms_by_chains p good.sound good.wide compare order c.0 n c.1.certified c.0 (elements_extend_themselves (setting p compare c.0) monic)
      n (omega arith) e v r.0 r.1 r.2 r.3 r.4 in
      let k = reduction p.q (parts p) (IsNormalTree p compare n) f s.normal (λ t h. h.sorted) in
      (k.sum, record { as_sum = record { normal = k.all; rest = rest_same p n e f k.sum k.same s.rest }; collected = k.reduced })

  -- ---- normal trees

  pub basis_through : (N : ℕ) → (basis : List Element) × IsReducedBasis p compare basis N
  basis_through N = let c = complete_through N in (c.0, complete_is_reduced p good.sound good.wide good.not_zero compare order c.0 N c.1)

  pub normal_trees : (n : ℕ) → (l : List (Tree ℕ)) × AreThose (IsNormalTree p compare n) l
  normal_trees n =
      let b = basis_through n in
      let l = listing_is_normal p good.sound good.wide good.proper compare order b.0 n b.1 n (omega arith) in
      (normal_list p.generators b.0 n, record { once = l.0; all = l.1 })

  module _ (n : ℕ) (l : List (Tree ℕ)) (are : AreThose (IsNormalTree p compare n) l) where
    all_normal : (e : Sum) → AllTerms e (λ t. Mem t l) → AllTerms e (IsNormalTree p compare n)
    all_normal e h = AllTerms-imp (λ t. Mem t l) (IsNormalTree p compare n) e (λ t m. (are.all t).0 m) h

    all_listed : (e : Sum) → AllTerms e (IsNormalTree p compare n) → AllTerms e (λ t. Mem t l)
    all_listed e h = AllTerms-imp (IsNormalTree p compare n) (λ t. Mem t l) e (λ t k. (are.all t).1 k) h

    labelled : HasLabelledTrees p n l
    labelled t m = ((are.all t).0 m).labelled

    pub independent : IsIndependent p n l
    independent = record { labelled = labelled; distinct = are.once; zero = λ e h m. normal_zero p good.sound compare order n e (all_normal e h) m }

    pub spanning : IsSpanning p n l
    unfolding scale
    spanning = record { labelled = labelled; spans = λ t h. let f = some_form n ((1, t) ∷ []) (h, tt) in (f.0, all_listed f.0 f.1.as_sum.normal, f.1.as_sum.rest) }
