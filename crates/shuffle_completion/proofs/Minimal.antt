-- The minimal trees of an arity are the leading trees of the reduced basis, passed back.
use Rattle.std.proofs.Common.{◌≡◌, ℕ, ◌≤◌, List, [], ◌∷◌, map, refl, sym, ◌∙◌, ap, arith, subst, inl, inr}
use native.Mathlib.Decide.{ℕ_discrete}
use Rattle.std.specs.declared.cmp.Ordering.{Ordering}
use Rattle.modular_sums.specs.Lists.{Mem, Distinct}
use Rattle.modular_sums.proofs.Lists.{mem_map}
use Rattle.labelled_trees.specs.Trees.{Tree}
use Rattle.shuffle_insertions.specs.ShuffleTrees.{IsShuffleTree}
use Rattle.shuffle_insertions.specs.Orders.{IsTreeOrder}
use Rattle.shuffle_bases.specs.Elements.{Element}
use Rattle.operad_ideals.specs.Presentations.{Presentation}
use Rattle.shuffle_transfer.specs.Labels.{inputs_of, shuffle_form, symmetric_tree}
use Rattle.shuffle_completion.specs.ReducedBases.{IsMinimal, IsReducedBasis}
use Rattle.shuffle_completion.proofs.Passing.{form_back, sorted_back}
use Rattle.shuffle_completion.specs.Existence.{IsOverField, AreThose}
use Rattle.shuffle_completion.proofs.Existence.{basis_through}

module _ (p : Presentation) (compare : Tree ℕ → Tree ℕ → Ordering) (n : ℕ) where
  -- t where a decided fact holds, before the others
  abbrev with_if : {A : Type 0} → Dec A → Tree ℕ → List (Tree ℕ) → List (Tree ℕ)
  with_if (yes _) t l = t ∷ l
  with_if (no _) t l = l

  -- the leading trees of the elements of arity n, passed back
  pub leads_back : List Element → List (Tree ℕ)
  leads_back [] = []
  leads_back (g ∷ l) = with_if (ℕ_discrete g.arity n) (symmetric_tree p.generators g.lead) (leads_back l)

  record Source (l : List Element) (t : Tree ℕ) : Type 0 where
    element : Element
    member : Mem element l
    arity_is : element.arity ≡ n
    tree_is : t ≡ symmetric_tree p.generators element.lead

  source_of : (l : List Element) (t : Tree ℕ) → Mem t (leads_back l) → Source l t
  unfolding leads_back
  source_of [] t m = absurd m
  source_of (g ∷ l) t m = go (ℕ_discrete g.arity n) m (source_of l t)
    where
      later : Source l t → Source (g ∷ l) t
      later s = record { element = s.element; member = inr s.member; arity_is = s.arity_is; tree_is = s.tree_is }

      go : (d : Dec (g.arity ≡ n)) → Mem t (with_if d (symmetric_tree p.generators g.lead) (leads_back l)) → (Mem t (leads_back l) → Source l t) → Source (g ∷ l) t
      go (yes e) (inl k) r = record { element = g; member = inl refl; arity_is = e; tree_is = k }
      go (yes e) (inr k) r = later (r k)
      go (no f) k r = later (r k)

  pub listed : (l : List Element) (g : Element) → Mem g l → g.arity ≡ n → Mem (symmetric_tree p.generators g.lead) (leads_back l)
  unfolding leads_back
  listed [] g m e = absurd m
  listed (h ∷ l) g m e = go (ℕ_discrete h.arity n) m (λ k. listed l g k e)
    where
      go : (d : Dec (h.arity ≡ n)) → Mem g (h ∷ l) → (Mem g l → Mem (symmetric_tree p.generators g.lead) (leads_back l)) → Mem (symmetric_tree p.generators g.lead) (with_if d (symmetric_tree p.generators h.lead) (leads_back l))
      go (yes _) (inl k) r = inl (ap (λ x. symmetric_tree p.generators x.lead) k)
      go (yes _) (inr k) r = inr (r k)
      go (no f) (inl k) r = absurd (f (sym (ap (λ x. x.arity) k) ∙ e))
      go (no f) (inr k) r = r k

  once : (l : List Element) → ((g : Element) → Mem g l → IsShuffleTree (inputs_of p.generators) g.arity g.lead) → Distinct (map (λ g. g.lead) l) → Distinct (leads_back l)
  unfolding leads_back
  once [] v d = tt
  once (g ∷ l) v d = go (ℕ_discrete g.arity n) (once l (λ h m. v h (inr m)) d.1)
    where
      go : (x : Dec (g.arity ≡ n)) → Distinct (leads_back l) → Distinct (with_if x (symmetric_tree p.generators g.lead) (leads_back l))
      go (no f) k = k
      go (yes e) k = (λ m. twice (source_of l (symmetric_tree p.generators g.lead) m), k)
        where
          twice : Source l (symmetric_tree p.generators g.lead) → ⊥
          twice s =
              let same : g.lead ≡ s.element.lead
              = sym (form_back p g.arity g.lead (v g (inl refl))) ∙ ap (λ t. shuffle_form p.generators t) s.tree_is ∙ form_back p s.element.arity s.element.lead (v s.element (inr s.member)) in
              d.0 (subst (λ t. Mem t (map (λ h. h.lead) l)) (sym same) (mem_map (λ h. h.lead) s.element l s.member))

  module _ (two : 2 ≤ n) (basis : List Element) (N : ℕ) (le : n ≤ N) (r : IsReducedBasis p compare basis N) where
    pub are_minimal : AreThose (IsMinimal p compare n) (leads_back basis)
    are_minimal = record { once = once basis (λ g m. (r.each g m).2.valid) r.once; all = λ t. (λ m. minimal t (source_of basis t m), λ k. there t k) }
      where
        minimal : (t : Tree ℕ) → Source basis t → IsMinimal p compare n t
        minimal t s = subst (IsMinimal p compare n) (sym s.tree_is) (subst (λ k. IsMinimal p compare k (symmetric_tree p.generators s.element.lead)) s.arity_is (r.each s.element s.member).2.minimal)

        there : (t : Tree ℕ) → IsMinimal p compare n t → Mem t (leads_back basis)
        there t k =
            let g = r.all n two le t k in
            subst (λ u. Mem u (leads_back basis)) (ap (symmetric_tree p.generators) g.3 ∙ sorted_back p n t k.leads.leads.labelled k.leads.leads.sorted) (listed basis g.0 g.1 g.2)

pub minimal_trees : (p : Presentation) → IsOverField p → (compare : Tree ℕ → Tree ℕ → Ordering) → IsTreeOrder (inputs_of p.generators) compare → (n : ℕ) → 2 ≤ n
    → (l : List (Tree ℕ)) × AreThose (IsMinimal p compare n) l
minimal_trees p good compare order n two = let b = basis_through p good compare order n in (leads_back p compare n b.0, are_minimal p compare n two b.0 n (omega arith) b.1)
