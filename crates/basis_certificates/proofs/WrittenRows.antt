-- The entries of a certificate for small common multiples and relabelled relations are good.
use Rattle.std.proofs.Common.{◌≡◌, ℕ, zero, suc, ◌≤◌, List, [], ◌∷◌, map, refl, sym, ◌∙◌, ap, subst, inl, inr}
use Rattle.std.specs.List.{AllByRecursion}
use mathlib.Core.Path.{ap₂}
use Rattle.std.specs.Prelude.{Some}
use Rattle.std.specs.declared.cmp.Ordering.{Ordering}
use Rattle.std.specs.declared.cmp.Ordering.TheVariants.{Less}
use Rattle.modular_sums.specs.Lists.{Mem, nth}
use Rattle.modular_sums.specs.Sums.{coef, scale, moved, expand, Same, AllTerms}
use Rattle.modular_sums.specs.Laws.{SumLaw}
use Rattle.modular_sums.proofs.Residues.{congruent_mul}
use Rattle.modular_sums.proofs.Sums.{coef-scale}
use Rattle.modular_sums.proofs.Laws.{sum_law}
use Rattle.modular_sums.proofs.Images.{Same-moved}
use Rattle.labelled_trees.specs.Trees.{Tree}
use Rattle.labelled_trees.specs.Leaves.{leaf_count}
use Rattle.labelled_trees.specs.Equality.{tree_discrete}
use Rattle.shuffle_insertions.specs.ShuffleTrees.{IsShuffleTree}
use Rattle.shuffle_insertions.specs.Frames.{insert}
use Rattle.shuffle_places.specs.Places.{frame_at, IsPlace}
use Rattle.shuffle_places.specs.Multiples.{IsMultiple}
use Rattle.shuffle_places.proofs.Laws.{multiples_fit}
use Rattle.shuffle_bases.specs.Elements.{Element, terms, Setting, IsLess, AreMonic, inserted, Insertion, value_of, s_element}
use Rattle.operad_ideals.specs.Presentations.{Presentation}
use Rattle.shuffle_transfer.specs.Labels.{inputs_of, shuffle_form, symmetric_tree}
use Rattle.shuffle_transfer.specs.Transfer.{shuffled}
use Rattle.shuffle_transfer.specs.GroebnerBases.{setting}
use Rattle.basis_certificates.specs.Certificates.{Red, ElemEntry, Multiple, RowEntry, RelabelEntry, element_in}
use Rattle.basis_certificates.specs.Entries.{IsSpelled, IsFitReduction, insertion_of, reductions_sum, s_element_at, IsRowRed, IsCommonMultiple, IsGoodRow, IsRelabelRed, IsGoodRelabel}
use Rattle.basis_certificates.specs.Writing.{IsElemOf, AreElemsOf, IsRedOf, AreRedsOf, IsMultipleOfLeads, IsRowOf, IsRelabelOf}
use Rattle.basis_certificates.proofs.Lookups.{nth_mem}
use Rattle.basis_certificates.proofs.Spellings.{spelled_back, form_back, back_arity, back_spelled}

abbrev Sum : Type 0
Sum = List (ℕ × Tree ℕ)

abbrev laws : (q : ℕ) → SumLaw (Tree ℕ) tree_discrete q
laws q = sum_law (Tree ℕ) tree_discrete q

module _ {C : Type 0} (p : Presentation) where
  -- the entry of an element, by its number, and the element of an entry
  entry_of : (elements : List Element) (elems : List (ElemEntry C)) → AreElemsOf p elements elems → (k : ℕ) (g : Element) → nth elements k ≡ Some g
      → (x : ElemEntry C) × (nth elems k ≡ Some x) × IsElemOf p g x
  entry_of [] [] h k g e = absurd (cc e)
  entry_of [] (x ∷ xs) h k g e = absurd h
  entry_of (f ∷ gs) [] h k g e = absurd h
  entry_of (f ∷ gs) (x ∷ xs) h zero g e = absurd (cc e)
  entry_of (f ∷ gs) (x ∷ xs) h (suc zero) g e = let s : f ≡ g = cc e in (x, refl, subst (λ z. IsElemOf p z x) s h.0)
  entry_of (f ∷ gs) (x ∷ xs) h (suc (suc k)) g e = entry_of gs xs h.1 (suc k) g e

  element_of : (elements : List Element) (elems : List (ElemEntry C)) → AreElemsOf p elements elems → (k : ℕ) (x : ElemEntry C) → nth elems k ≡ Some x
      → (g : Element) × (nth elements k ≡ Some g) × IsElemOf p g x
  element_of [] [] h k x e = absurd (cc e)
  element_of [] (y ∷ xs) h k x e = absurd h
  element_of (f ∷ gs) [] h k x e = absurd h
  element_of (f ∷ gs) (y ∷ xs) h zero x e = absurd (cc e)
  element_of (f ∷ gs) (y ∷ xs) h (suc zero) x e = let s : y ≡ x = cc e in (f, refl, subst (IsElemOf p f) s h.0)
  element_of (f ∷ gs) (y ∷ xs) h (suc (suc k)) x e = element_of gs xs h.1 (suc k) x e

  pub member_of : (elements : List Element) (elems : List (ElemEntry C)) → AreElemsOf p elements elems → (x : ElemEntry C) → Mem x elems → (g : Element) × Mem g elements × IsElemOf p g x
  member_of [] [] h x m = absurd m
  member_of [] (y ∷ xs) h x m = absurd h
  member_of (f ∷ gs) [] h x m = absurd h
  member_of (f ∷ gs) (y ∷ xs) h x (inl e) = (f, inl refl, subst (IsElemOf p f) (sym e) h.0)
  member_of (f ∷ gs) (y ∷ xs) h x (inr m) = let k = member_of gs xs h.1 x m in (k.0, inr k.1, k.2)

  pub leads_of : (elements : List Element) (elems : List (ElemEntry C)) → AreElemsOf p elements elems → map (λ x. x.lead) elems ≡ map (λ g. symmetric_tree p.generators g.lead) elements
  leads_of [] [] h = refl
  leads_of [] (y ∷ xs) h = absurd h
  leads_of (f ∷ gs) [] h = absurd h
  leads_of (f ∷ gs) (y ∷ xs) h = ap₂ (λ a b. a ∷ b) h.0.lead (leads_of gs xs h.1)

module _ {C : Type 0} (p : Presentation) (cmp : Tree ℕ → Tree ℕ → Ordering) (elements : List Element) (monic : AreMonic (setting p cmp elements))
    (elems : List (ElemEntry C)) (are : AreElemsOf p elements elems) where
  abbrev s : Setting
  s = setting p cmp elements

  abbrev F : Tree ℕ → Tree ℕ
  F = shuffle_form p.generators

  abbrev T : Tree ℕ → Tree ℕ
  T = symmetric_tree p.generators

  pub lead_valid : (g : Element) → Mem g elements → IsShuffleTree (inputs_of p.generators) g.arity g.lead
  lead_valid g m = (monic.each g m).lead_valid

  -- the shuffle form of an entry's tree is the leading tree
  pub form_of : (g : Element) (x : ElemEntry C) → Mem g elements → IsElemOf p g x → F x.lead ≡ g.lead
  form_of g x m h = ap F h.lead ∙ form_back p g.arity g.lead (lead_valid g m)

  -- ---- reductions

  -- the element of an entry inserted in the tree of a shuffle tree is the element in shuffle form inserted there
  same_insertion : (n : ℕ) (k : ℕ) (g : Element) → nth elements k ≡ Some g → (t : Tree ℕ) → IsShuffleTree (inputs_of p.generators) n t → (u : Tree ℕ) → u ≡ T t → (set : List ℕ)
      → Same tree_discrete p.q (insertion_of p elems k u set) (inserted g t set)
  same_insertion n k g e t v u is set =
      let x = entry_of p elements elems are k g e in
      let form : F u ≡ t = ap F is ∙ form_back p n t v in
      let a : Same tree_discrete p.q (moved (insert (frame_at set t)) (shuffled p x.0.element)) (inserted g t set)
      = Same-moved tree_discrete tree_discrete p.q (insert (frame_at set t)) (shuffled p x.0.element) (terms g) x.2.element in
      subst (λ o. Same tree_discrete p.q (moved (insert (frame_at set (F u))) (shuffled p (element_in o))) (inserted g t set)) (sym x.1)
      (subst (λ z. Same tree_discrete p.q (moved (insert (frame_at set z)) (shuffled p x.0.element)) (inserted g t set)) (sym form) a)

  fit_of : (n : ℕ) (u : ℕ × Insertion s n) (r : Red) → IsRedOf p cmp elements u r → IsFitReduction p.generators elems r
  fit_of n u r h =
      let x = entry_of p elements elems are r.number u.1.of h.number in
      let form : F r.tree ≡ u.1.tree = ap F h.tree ∙ form_back p n u.1.tree u.1.valid in
      let lead : F x.0.lead ≡ u.1.of.lead = form_of u.1.of x.0 u.1.member x.2 in
      record {
        entry = x.0;
        named = x.1;
        spelled = subst (IsSpelled p.generators) (sym h.tree) (back_spelled p n u.1.tree u.1.valid);
        place = subst (λ t. IsPlace t r.set (F x.0.lead)) (sym form) (subst (IsPlace u.1.tree r.set) (sym lead) (subst (λ l. IsPlace u.1.tree l u.1.of.lead) (sym h.set) u.1.place));
      }

  red_arity : (n : ℕ) (u : ℕ × Insertion s n) (r : Red) → IsRedOf p cmp elements u r → leaf_count r.tree ≡ n
  red_arity n u r h = ap leaf_count h.tree ∙ back_arity p n u.1.tree u.1.valid

  same_sum_of : (n : ℕ) (uses : List (ℕ × Insertion s n)) (reds : List Red) → AreRedsOf p cmp elements uses reds → Same tree_discrete p.q (expand value_of uses) (reductions_sum p elems reds)
  unfolding expand
  same_sum_of n [] [] h = λ t. refl
  same_sum_of n [] (r ∷ rs) h = absurd h
  same_sum_of n (u ∷ us) [] h = absurd h
  same_sum_of n (u ∷ us) (r ∷ rs) h =
      (laws p.q).same_added (scale u.0 (value_of u.1)) (scale r.coefficient (insertion_of p elems r.number r.tree r.set)) (expand value_of us) (reductions_sum p elems rs)
      one (same_sum_of n us rs h.1)
    where
      one : Same tree_discrete p.q (scale u.0 (value_of u.1)) (scale r.coefficient (insertion_of p elems r.number r.tree r.set))
      one t =
          let a : Same tree_discrete p.q (insertion_of p elems r.number r.tree r.set) (value_of u.1)
          = subst (λ l. Same tree_discrete p.q (insertion_of p elems r.number r.tree r.set) (inserted u.1.of u.1.tree l)) h.0.set
          (same_insertion n r.number u.1.of h.0.number u.1.tree u.1.valid r.tree h.0.tree r.set) in
          rw (coef-scale tree_discrete u.0 (value_of u.1) t, coef-scale tree_discrete r.coefficient (insertion_of p elems r.number r.tree r.set) t)
          (congruent_mul p.q u.0 r.coefficient (coef tree_discrete (value_of u.1) t) (coef tree_discrete (insertion_of p elems r.number r.tree r.set) t) (sym h.0.coefficient) (sym (a t)))

  -- ---- rows

  module _ (N : ℕ) where
    tree_valid : (m : Multiple) (k : IsMultipleOfLeads p.generators elements N m) → IsShuffleTree (inputs_of p.generators) k.arity k.tree
    tree_valid m k = multiples_fit (inputs_of p.generators) k.one.arity k.other.arity k.arity k.one.lead k.other.lead k.tree m.first m.second
        (lead_valid k.one (nth_mem elements m.one k.one k.one_named)) (lead_valid k.other (nth_mem elements m.other k.other k.other_named)) k.multiple

    multiple_tree : (m : Multiple) (k : IsMultipleOfLeads p.generators elements N m) → F m.tree ≡ k.tree
    multiple_tree m k = ap F k.tree_is ∙ form_back p k.arity k.tree (tree_valid m k)

    multiple_arity : (m : Multiple) (k : IsMultipleOfLeads p.generators elements N m) → leaf_count m.tree ≡ k.arity
    multiple_arity m k = ap leaf_count k.tree_is ∙ back_arity p k.arity k.tree (tree_valid m k)

    pub common : (m : Multiple) → IsMultipleOfLeads p.generators elements N m → IsCommonMultiple p.generators N elems m
    common m k =
        let x = entry_of p elements elems are m.one k.one k.one_named in
        let y = entry_of p elements elems are m.other k.other k.other_named in
        let fx : F x.0.lead ≡ k.one.lead = form_of k.one x.0 (nth_mem elements m.one k.one k.one_named) x.2 in
        let fy : F y.0.lead ≡ k.other.lead = form_of k.other y.0 (nth_mem elements m.other k.other k.other_named) y.2 in
        record {
          one = x.0;
          other = y.0;
          one_named = x.1;
          other_named = y.1;
          in_order = k.in_order;
          spelled = subst (IsSpelled p.generators) (sym k.tree_is) (back_spelled p k.arity k.tree (tree_valid m k));
          few = subst (λ n. n ≤ N) (sym (multiple_arity m k)) k.few;
          multiple = subst (λ n. IsMultiple n (F x.0.lead) (F y.0.lead) (F m.tree) m.first m.second) (sym (multiple_arity m k))
              (subst (λ t. IsMultiple k.arity (F x.0.lead) (F y.0.lead) t m.first m.second) (sym (multiple_tree m k))
              (subst (λ l. IsMultiple k.arity l (F y.0.lead) k.tree m.first m.second) (sym fx)
              (subst (λ l. IsMultiple k.arity k.one.lead l k.tree m.first m.second) (sym fy) k.multiple)));
        }

    pub of_common : (m : Multiple) → IsCommonMultiple p.generators N elems m → IsMultipleOfLeads p.generators elements N m
    of_common m k =
        let g = element_of p elements elems are m.one k.one k.one_named in
        let h = element_of p elements elems are m.other k.other k.other_named in
        let fg : F k.one.lead ≡ g.0.lead = form_of g.0 k.one (nth_mem elements m.one g.0 g.1) g.2 in
        let fh : F k.other.lead ≡ h.0.lead = form_of h.0 k.other (nth_mem elements m.other h.0 h.1) h.2 in
        record {
          one = g.0;
          other = h.0;
          one_named = g.1;
          other_named = h.1;
          in_order = k.in_order;
          arity = leaf_count m.tree;
          few = k.few;
          tree = F m.tree;
          tree_is = sym (spelled_back p m.tree k.spelled);
          multiple = subst (λ l. IsMultiple (leaf_count m.tree) l h.0.lead (F m.tree) m.first m.second) fg
              (subst (λ l. IsMultiple (leaf_count m.tree) (F k.one.lead) l (F m.tree) m.first m.second) fh k.multiple);
        }

    row_reds : (n : ℕ) (t : Tree ℕ) (w : Tree ℕ) → F w ≡ t → leaf_count w ≡ n → (uses : List (ℕ × Insertion s n)) (reds : List Red)
        → AllTerms uses (λ i. IsLess s i.tree t) → AreRedsOf p cmp elements uses reds → AllByRecursion (IsRowRed p.generators cmp elems w) reds
    row_reds n t w e a [] [] l h = tt
    row_reds n t w e a [] (r ∷ rs) l h = absurd h
    row_reds n t w e a (u ∷ us) [] l h = absurd h
    row_reds n t w e a (u ∷ us) (r ∷ rs) l h =
        let form : F r.tree ≡ u.1.tree = ap F h.0.tree ∙ form_back p n u.1.tree u.1.valid in (
          record {
            fit = fit_of n u r h.0;
            below = record {
              smaller = subst (λ y. cmp (F r.tree) y ≡ Less) (sym e) (subst (λ y. cmp y t ≡ Less) (sym form) l.0);
              one_arity = red_arity n u r h.0 ∙ sym a;
            };
          },
          row_reds n t w e a us rs l.1 h.1,
        )

    pub good_row : (earlier : List RowEntry) (x : RowEntry) → IsRowOf p cmp elements N x → ((y : RowEntry) → Mem y earlier → y.at ≡ x.at → ⊥) → IsGoodRow p cmp N elems earlier x
    good_row earlier x h new =
        let k = h.at_multiple in
        let v = tree_valid x.at k in
        record {
          multiple = common x.at k;
          new = new;
          reds = row_reds k.arity k.tree x.at.tree (multiple_tree x.at k) (multiple_arity x.at k) h.reduces.uses x.reds h.reduces.lower h.reds;
          adds_up = λ t. same t ∙ h.reduces.adds_up t ∙ same_sum_of k.arity h.reduces.uses x.reds h.reds t;
        }
      where
        same : Same tree_discrete p.q (s_element_at p elems x.at) (s_element p.q h.at_multiple.one h.at_multiple.other h.at_multiple.tree x.at.first x.at.second)
        same =
            let k = h.at_multiple in
            (laws p.q).same_added (insertion_of p elems x.at.one x.at.tree x.at.first) (inserted k.one k.tree x.at.first)
            (scale p.q (insertion_of p elems x.at.other x.at.tree x.at.second)) (scale p.q (inserted k.other k.tree x.at.second))
            (same_insertion k.arity x.at.one k.one k.one_named k.tree (tree_valid x.at k) x.at.tree k.tree_is x.at.first)
            ((laws p.q).same_scaled p.q (insertion_of p elems x.at.other x.at.tree x.at.second) (inserted k.other k.tree x.at.second)
            (same_insertion k.arity x.at.other k.other k.other_named k.tree (tree_valid x.at k) x.at.tree k.tree_is x.at.second))

    -- ---- relations

    relabel_reds : (n : ℕ) (uses : List (ℕ × Insertion s n)) (reds : List Red) → AreRedsOf p cmp elements uses reds → AllByRecursion (IsRelabelRed p.generators elems n) reds
    relabel_reds n [] [] h = tt
    relabel_reds n [] (r ∷ rs) h = absurd h
    relabel_reds n (u ∷ us) [] h = absurd h
    relabel_reds n (u ∷ us) (r ∷ rs) h = (record { fit = fit_of n u r h.0; one_arity = red_arity n u r h.0 }, relabel_reds n us rs h.1)

    pub good_relabel : (earlier : List RelabelEntry) (x : RelabelEntry) → IsRelabelOf p cmp elements N x → ((y : RelabelEntry) → Mem y earlier → y.at ≡ x.at → ⊥) → IsGoodRelabel p N elems earlier x
    good_relabel earlier x h new = record {
      relabelling = h.relabelling;
      new = new;
      reds = relabel_reds h.relabelling.relation.arity h.spanned.uses x.reds h.reds;
      adds_up = λ t. h.spanned.adds_up t ∙ same_sum_of h.relabelling.relation.arity h.spanned.uses x.reds h.reds t;
    }
