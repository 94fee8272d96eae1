-- Decisions on the entries of a certificate, and the lists of all small common multiples and all relabelled relations.
use Rattle.std.proofs.Common.{◌≡◌, ℕ, zero, suc, ◌≤◌, List, [], ◌∷◌, map, length, refl, sym, ◌∙◌, ap, arith, subst, inl, inr, ◌⊎◌}
use Rattle.std.specs.List.{AllByRecursion}
use mathlib.Core.Path.{ap₂}
use Rattle.std.specs.Prelude.{Option, Some, None, flat_map}
use Rattle.std.specs.declared.cmp.Ordering.{Ordering}
use native.Mathlib.Decide.{ℕ_discrete}
use Rattle.modular_sums.specs.Lists.{Mem, nth}
use Rattle.modular_sums.specs.Sums.{coef, Same}
use Rattle.modular_sums.proofs.Lists.{mem_map, mem_flat}
use Rattle.labelled_trees.specs.Trees.{Tree, leaf}
use Rattle.labelled_trees.specs.Leaves.{leaf_count}
use Rattle.labelled_trees.specs.Equality.{tree_discrete}
use Rattle.labelled_trees.specs.Labelled.{IsLabelled}
use Rattle.shuffle_insertions.specs.Listing.{upto}
use Rattle.shuffle_insertions.proofs.Upto.{in_upto}
use Rattle.shuffle_places.specs.Places.{IsPlace}
use Rattle.shuffle_places.specs.Multiples.{IsMultiple}
use Rattle.shuffle_places.specs.AllMultiples.{multiples}
use Rattle.shuffle_places.proofs.Laws.{multiples_listed}
use Rattle.operad_ideals.specs.Presentations.{Relation, Presentation, arity_of}
use Rattle.shuffle_transfer.specs.Orderings.{IsOrdering, orderings}
use Rattle.shuffle_transfer.specs.Labels.{shuffle_form, symmetric_tree, word_discrete}
use Rattle.shuffle_transfer.specs.Transfer.{relabelled, shuffled}
use Rattle.shuffle_transfer.proofs.Orderings.{all_orderings}
use Rattle.basis_certificates.specs.Certificates.{Red, ElemEntry, Multiple, RowEntry, Relabelling, RelabelEntry}
use Rattle.basis_certificates.specs.Entries.{HasOwnLeadingTree, HasUnit, IsFitReduction, reductions_sum, IsCommonMultiple, HasEveryRow, IsReductionBelow, IsRelabelling, HasEveryRelabel, IsRelabelRed, IsGoodRelabel}
use Rattle.basis_certificates.proofs.Lookups.{nth_within}
use Rattle.basis_certificates.proofs.Spellings.{spelled_back}
use Rattle.basis_certificates.proofs.Decisions.{dec_both, dec_not, dec_by, dec_under, dec_le, dec_less, dec_each, dec_members, dec_some, dec_mem, dec_all_terms, Kept, kept, look_up, dec_alike, dec_same}
use Rattle.basis_certificates.proofs.TreeDecisions.{dec_labelled, dec_spelled, dec_place, dec_multiple, multiple_nodes, dec_lead}

-- ---- entries for elements

module _ {C : Type 0} (p : Presentation) (cmp : Tree ℕ → Tree ℕ → Ordering) (earlier : List (ElemEntry C)) (x : ElemEntry C) where
  pub dec_has_lead : Dec (HasOwnLeadingTree p cmp earlier x)
  dec_has_lead = dec_under (dec_all_terms (IsLabelled (arity_of p) (leaf_count x.lead)) (λ t. dec_labelled (arity_of p) (leaf_count x.lead) t) x.element) (λ h. h.element_labelled)
      (λ l. dec_by (λ h. record { spelled = h.0.0; element_labelled = l; leads = h.0.1; new = h.1 }) (λ h. ((h.spelled, h.leads), h.new))
      (dec_both (dec_both (dec_spelled p x.lead) (dec_lead p cmp (leaf_count x.lead) x.element x.lead l))
      (dec_members (λ y. y.lead ≡ x.lead → ⊥) (λ y. dec_not (tree_discrete y.lead x.lead)) earlier)))

  pub dec_has_unit : Dec (HasUnit p x)
  dec_has_unit = dec_alike p.q (coef tree_discrete (shuffled p x.element) (shuffle_form p.generators x.lead)) 1

-- ---- reductions

module _ {C : Type 0} (p : Presentation) (elems : List (ElemEntry C)) where
  pub dec_fit : (r : Red) → Dec (IsFitReduction p.generators elems r)
  dec_fit r = go (look_up elems r.number)
    where
      go : ((x : ElemEntry C) × (nth elems r.number ≡ Some x)) ⊎ ((x : ElemEntry C) → nth elems r.number ≡ Some x → ⊥) → Dec (IsFitReduction p.generators elems r)
      go (inr n) = no (λ h. n h.entry h.named)
      go (inl x) = dec_by (λ h. record { entry = x.0; named = x.1; spelled = h.0; place = h.1 })
          (λ h. (h.spelled, let e : h.entry ≡ x.0 = cc (h.named, x.1) in subst (λ y. IsPlace (shuffle_form p.generators r.tree) r.set (shuffle_form p.generators y.lead)) e h.place))
          (dec_both (dec_spelled p r.tree) (dec_place (shuffle_form p.generators r.tree) r.set (shuffle_form p.generators x.0.lead)))

pub dec_below : (p : Presentation) (cmp : Tree ℕ → Tree ℕ → Ordering) (t : Tree ℕ) (r : Red) → Dec (IsReductionBelow p.generators cmp t r)
dec_below p cmp t r = dec_by (λ h. record { smaller = h.0; one_arity = h.1 }) (λ h. (h.smaller, h.one_arity))
    (dec_both (dec_less (cmp (shuffle_form p.generators r.tree) (shuffle_form p.generators t))) (ℕ_discrete (leaf_count r.tree) (leaf_count t)))

-- ---- small common multiples

same_multiple : (m k : Multiple) → Dec (m.one ≡ k.one) → Dec (m.other ≡ k.other) → Dec (m.tree ≡ k.tree) → Dec (m.first ≡ k.first) → Dec (m.second ≡ k.second) → Dec (m ≡ k)
same_multiple m k (yes a) (yes b) (yes c) (yes d) (yes e) = yes (
    ap (λ z. record { one = z; other = m.other; tree = m.tree; first = m.first; second = m.second }) a
    ∙ ap (λ z. record { one = k.one; other = z; tree = m.tree; first = m.first; second = m.second }) b
    ∙ ap (λ z. record { one = k.one; other = k.other; tree = z; first = m.first; second = m.second }) c
    ∙ ap (λ z. record { one = k.one; other = k.other; tree = k.tree; first = z; second = m.second }) d
    ∙ ap (λ z. record { one = k.one; other = k.other; tree = k.tree; first = k.first; second = z }) e)
same_multiple m k (no n) b c d e = no (λ h. n (ap (λ z. z.one) h))
same_multiple m k (yes a) (no n) c d e = no (λ h. n (ap (λ z. z.other) h))
same_multiple m k (yes a) (yes b) (no n) d e = no (λ h. n (ap (λ z. z.tree) h))
same_multiple m k (yes a) (yes b) (yes c) (no n) e = no (λ h. n (ap (λ z. z.first) h))
same_multiple m k (yes a) (yes b) (yes c) (yes d) (no n) = no (λ h. n (ap (λ z. z.second) h))

pub multiple_discrete : (m k : Multiple) → Dec (m ≡ k)
multiple_discrete m k = same_multiple m k (ℕ_discrete m.one k.one) (ℕ_discrete m.other k.other) (tree_discrete m.tree k.tree) (word_discrete m.first k.first) (word_discrete m.second k.second)

module _ {C : Type 0} (p : Presentation) (N : ℕ) (elems : List (ElemEntry C)) where
  abbrev F : Tree ℕ → Tree ℕ
  F = shuffle_form p.generators

  pub dec_common : (m : Multiple) → Dec (IsCommonMultiple p.generators N elems m)
  dec_common m = go (look_up elems m.one) (look_up elems m.other)
    where
      go : ((x : ElemEntry C) × (nth elems m.one ≡ Some x)) ⊎ ((x : ElemEntry C) → nth elems m.one ≡ Some x → ⊥)
          → ((y : ElemEntry C) × (nth elems m.other ≡ Some y)) ⊎ ((y : ElemEntry C) → nth elems m.other ≡ Some y → ⊥) → Dec (IsCommonMultiple p.generators N elems m)
      go (inr n) d = no (λ h. n h.one h.one_named)
      go (inl x) (inr n) = no (λ h. n h.other h.other_named)
      go (inl x) (inl y) = dec_by
          (λ h. record { one = x.0; other = y.0; one_named = x.1; other_named = y.1; in_order = h.0.0; few = h.0.1; spelled = h.1.0; multiple = h.1.1 })
          (λ h. (
            (h.in_order, h.few),
            (
              h.spelled,
              let a : h.one ≡ x.0 = cc (h.one_named, x.1) in
                  let b : h.other ≡ y.0 = cc (h.other_named, y.1) in
                  subst (λ z. IsMultiple (leaf_count m.tree) (F z.lead) (F y.0.lead) (F m.tree) m.first m.second) a
                  (subst (λ z. IsMultiple (leaf_count m.tree) (F h.one.lead) (F z.lead) (F m.tree) m.first m.second) b h.multiple),
            ),
          ))
          (dec_both (dec_both (dec_le m.one m.other) (dec_le (leaf_count m.tree) N))
          (dec_both (dec_spelled p m.tree) (dec_multiple (leaf_count m.tree) (F x.0.lead) (F y.0.lead) (F m.tree) m.first m.second)))

  -- the leading tree of an entry in shuffle form
  abbrev form_in : Option (ElemEntry C) → Tree ℕ
  form_in None = leaf 0
  form_in (Some x) = shuffle_form p.generators x.lead

  abbrev named : ℕ → ℕ → Tree ℕ × List ℕ × List ℕ → Multiple
  named i j t = record { one = i; other = j; tree = symmetric_tree p.generators t.0; first = t.1; second = t.2 }

  abbrev numbers : List ℕ
  numbers = upto (length elems)

  -- a list in which all small common multiples stand
  abbrev candidates : List Multiple
  candidates = flat_map (λ i. flat_map (λ j. flat_map (λ n. map (named i j) (multiples (form_in (nth elems i)) (form_in (nth elems j)) n)) (0 ∷ upto N)) numbers) numbers

  among : (m : Multiple) → IsCommonMultiple p.generators N elems m → Mem m candidates
  among m h =
      let i = nth_within elems m.one h.one h.one_named in
      let j = nth_within elems m.other h.other h.other_named in
      let nodes = multiple_nodes (leaf_count m.tree) (F h.one.lead) (F h.other.lead) (F m.tree) m.first m.second h.multiple in
      let listed = ((multiples_listed (F h.one.lead) (F h.other.lead) (leaf_count m.tree) nodes.0 nodes.1).0 (F m.tree) m.first m.second).1 h.multiple in
      mem_flat (λ i. flat_map (λ j. flat_map (λ n. map (named i j) (multiples (form_in (nth elems i)) (form_in (nth elems j)) n)) (0 ∷ upto N)) numbers) m.one m numbers
      (in_upto (length elems) m.one i.0 i.1)
      (mem_flat (λ j. flat_map (λ n. map (named m.one j) (multiples (form_in (nth elems m.one)) (form_in (nth elems j)) n)) (0 ∷ upto N)) m.other m numbers
      (in_upto (length elems) m.other j.0 j.1)
      (mem_flat (λ n. map (named m.one m.other) (multiples (form_in (nth elems m.one)) (form_in (nth elems m.other)) n)) (leaf_count m.tree) m (0 ∷ upto N)
      (arity_mem (leaf_count m.tree) h.few)
      (subst (λ z. Mem z (map (named m.one m.other) (multiples (form_in (nth elems m.one)) (form_in (nth elems m.other)) (leaf_count m.tree))))
      (ap (λ z. record { one = m.one; other = m.other; tree = z; first = m.first; second = m.second }) (spelled_back p m.tree h.spelled))
      (mem_map (named m.one m.other) (F m.tree, m.first, m.second) (multiples (form_in (nth elems m.one)) (form_in (nth elems m.other)) (leaf_count m.tree))
      (subst (λ o. Mem (F m.tree, m.first, m.second) (multiples (form_in o) (form_in (nth elems m.other)) (leaf_count m.tree))) (sym h.one_named)
      (subst (λ o. Mem (F m.tree, m.first, m.second) (multiples (F h.one.lead) (form_in o) (leaf_count m.tree))) (sym h.other_named) listed))))))
    where
      arity_mem : (n : ℕ) → n ≤ N → Mem n (0 ∷ upto N)
      arity_mem zero le = inl refl
      arity_mem (suc n) le = inr (in_upto N (suc n) (omega arith) le)

  -- all small common multiples of arity at most N, each once
  pub all_common : Kept (IsCommonMultiple p.generators N elems) candidates
  all_common = kept multiple_discrete (IsCommonMultiple p.generators N elems) dec_common candidates

  pub common_listed : (m : Multiple) → IsCommonMultiple p.generators N elems m → Mem m all_common.list
  common_listed m h = all_common.into m (among m h) h

  pub dec_every_row : (rows : List RowEntry) → Dec (HasEveryRow p.generators N elems rows)
  dec_every_row rows = dec_by (λ h m k. h m (common_listed m k)) (λ h m k. h m (all_common.holds m k))
      (dec_members (λ m. (x : RowEntry) × Mem x rows × (x.at ≡ m)) (λ m. dec_some (λ x. x.at ≡ m) (λ x. multiple_discrete x.at m) rows) all_common.list)

-- ---- relabelled relations

same_relabelling : (m k : Relabelling) → Dec (m.number ≡ k.number) → Dec (m.permutation ≡ k.permutation) → Dec (m ≡ k)
same_relabelling m k (yes a) (yes b) = yes (ap₂ (λ x y. record { number = x; permutation = y }) a b)
same_relabelling m k (no n) b = no (λ h. n (ap (λ z. z.number) h))
same_relabelling m k (yes a) (no n) = no (λ h. n (ap (λ z. z.permutation) h))

pub relabelling_discrete : (m k : Relabelling) → Dec (m ≡ k)
relabelling_discrete m k = same_relabelling m k (ℕ_discrete m.number k.number) (word_discrete m.permutation k.permutation)

pub dec_ordering : (m : ℕ) (v : List ℕ) → Dec (IsOrdering m v)
dec_ordering m v = dec_by ((all_orderings m).2 v).0 ((all_orderings m).2 v).1 (dec_mem word_discrete v (orderings m))

module _ (p : Presentation) (N : ℕ) where
  dec_terms : (e : List (ℕ × Tree ℕ)) → Dec (e ≡ [] → ⊥)
  dec_terms [] = no (λ f. f refl)
  dec_terms (x ∷ e) = yes (λ h. cc h)

  pub dec_relabelling : (m : Relabelling) → Dec (IsRelabelling p N m)
  dec_relabelling m = go (look_up p.relations m.number)
    where
      go : ((r : Relation) × (nth p.relations m.number ≡ Some r)) ⊎ ((r : Relation) → nth p.relations m.number ≡ Some r → ⊥) → Dec (IsRelabelling p N m)
      go (inr n) = no (λ h. n h.relation h.named)
      go (inl r) = dec_by
          (λ h. record { relation = r.0; named = r.1; has_terms = h.0.0; few = h.0.1; permutes = h.1 })
          (λ h. let e : h.relation ≡ r.0 = cc (h.named, r.1) in
          subst (λ z. ((z.terms ≡ [] → ⊥) × (z.arity ≤ N)) × IsOrdering z.arity m.permutation) e ((h.has_terms, h.few), h.permutes))
          (dec_both (dec_both (dec_terms r.0.terms) (dec_le r.0.arity N)) (dec_ordering r.0.arity m.permutation))

  abbrev arity_in : Option Relation → ℕ
  arity_in None = 0
  arity_in (Some r) = r.arity

  abbrev relabelling_of : ℕ → List ℕ → Relabelling
  relabelling_of k v = record { number = k; permutation = v }

  abbrev all_numbered : List Relabelling
  all_numbered = flat_map (λ k. map (relabelling_of k) (orderings (arity_in (nth p.relations k)))) (upto (length p.relations))

  among_numbered : (m : Relabelling) → IsRelabelling p N m → Mem m all_numbered
  among_numbered m h =
      let k = nth_within p.relations m.number h.relation h.named in
      mem_flat (λ k. map (relabelling_of k) (orderings (arity_in (nth p.relations k)))) m.number m (upto (length p.relations)) (in_upto (length p.relations) m.number k.0 k.1)
      (mem_map (relabelling_of m.number) m.permutation (orderings (arity_in (nth p.relations m.number)))
      (subst (λ o. Mem m.permutation (orderings (arity_in o))) (sym h.named) (((all_orderings h.relation.arity).2 m.permutation).1 h.permutes)))

  -- all relations with terms of arity at most N, with all permutations, each once
  pub all_relabellings : Kept (IsRelabelling p N) all_numbered
  all_relabellings = kept relabelling_discrete (IsRelabelling p N) dec_relabelling all_numbered

  pub relabelling_listed : (m : Relabelling) → IsRelabelling p N m → Mem m all_relabellings.list
  relabelling_listed m h = all_relabellings.into m (among_numbered m h) h

  pub dec_every_relabel : (relabels : List RelabelEntry) → Dec (HasEveryRelabel p N relabels)
  dec_every_relabel relabels = dec_by (λ h m k. h m (relabelling_listed m k)) (λ h m k. h m (all_relabellings.holds m k))
      (dec_members (λ m. (x : RelabelEntry) × Mem x relabels × (x.at ≡ m)) (λ m. dec_some (λ x. x.at ≡ m) (λ x. relabelling_discrete x.at m) relabels) all_relabellings.list)

module _ {C : Type 0} (p : Presentation) (N : ℕ) (elems : List (ElemEntry C)) where
  dec_relabel_red : (n : ℕ) (r : Red) → Dec (IsRelabelRed p.generators elems n r)
  dec_relabel_red n r = dec_by (λ h. record { fit = h.0; one_arity = h.1 }) (λ h. (h.fit, h.one_arity)) (dec_both (dec_fit p elems r) (ℕ_discrete (leaf_count r.tree) n))

  abbrev IsNew : List RelabelEntry → RelabelEntry → Type 0
  IsNew earlier x = (y : RelabelEntry) → Mem y earlier → y.at ≡ x.at → ⊥

  pub dec_good_relabel : (earlier : List RelabelEntry) (x : RelabelEntry) → Dec (IsGoodRelabel p N elems earlier x)
  dec_good_relabel earlier x = dec_under (dec_relabelling p N x.at) (λ h. h.relabelling) rest
    where
      rest : IsRelabelling p N x.at → Dec (IsGoodRelabel p N elems earlier x)
      rest k = dec_by
          (λ h. record { relabelling = k; new = h.0; reds = h.1.0; adds_up = h.1.1 })
          (λ h. (
            h.new,
            let e : h.relabelling.relation ≡ k.relation = cc (h.relabelling.named, k.named) in
                subst (λ r. AllByRecursion (IsRelabelRed p.generators elems r.arity) x.reds × Same tree_discrete p.q (shuffled p (relabelled x.at.permutation r.terms)) (reductions_sum p elems x.reds)) e (h.reds, h.adds_up),
          ))
          (dec_both (dec_members (λ y. y.at ≡ x.at → ⊥) (λ y. dec_not (relabelling_discrete y.at x.at)) earlier)
          (dec_both (dec_each (IsRelabelRed p.generators elems k.relation.arity) (dec_relabel_red k.relation.arity) x.reds)
          (dec_same tree_discrete p.q (shuffled p (relabelled x.at.permutation k.relation.terms)) (reductions_sum p elems x.reds))))
