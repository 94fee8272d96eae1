-- A certificate that holds certifies its elements.
use Rattle.std.proofs.Common.{◌≡◌, ℕ, ◌≤◌, List, [], ◌∷◌, refl, sym, ◌∙◌, ap, subst}
use Rattle.std.specs.List.{AllByRecursion}
use mathlib.Core.List.{◌++◌}
use Rattle.std.specs.Prelude.{Option, Some}
use Rattle.std.specs.declared.cmp.Ordering.{Ordering}
use Rattle.std.specs.declared.cmp.Ordering.TheVariants.{Less}
use Rattle.modular_sums.specs.Lists.{Distinct, Mem, nth}
use Rattle.modular_sums.specs.Sums.{scale, moved, expand, Same, AllTerms, IsLinearCombination}
use Rattle.modular_sums.specs.Laws.{SumLaw}
use Rattle.modular_sums.proofs.Laws.{sum_law}
use Rattle.modular_sums.proofs.Lists.{mem_map, mem_of_map}
use Rattle.modular_sums.proofs.Images.{Same-moved}
use Rattle.modular_sums.proofs.Links.{member_zero}
use Rattle.labelled_trees.specs.Trees.{Tree}
use Rattle.labelled_trees.specs.Leaves.{leaf_count}
use Rattle.labelled_trees.specs.Equality.{tree_discrete}
use Rattle.shuffle_insertions.specs.ShuffleTrees.{IsShuffleTree}
use Rattle.shuffle_insertions.specs.Frames.{insert}
use Rattle.shuffle_insertions.specs.Orders.{IsTreeOrder}
use Rattle.shuffle_places.specs.Places.{frame_at}
use Rattle.shuffle_places.specs.Multiples.{IsMultiple}
use Rattle.shuffle_bases.specs.Elements.{Element, terms, Setting, IsMonic, AreMonic, inserted, Insertion, value_of, s_element}
use Rattle.shuffle_bases.specs.Reductions.{ReducesBelow, SElementsReduce}
use Rattle.operad_ideals.specs.Presentations.{Relation, Presentation, IsSound, IsProper}
use Rattle.operad_ideals.specs.Ideals.{InIdeal}
use Rattle.shuffle_transfer.specs.Orderings.{orderings}
use Rattle.shuffle_transfer.specs.Labels.{inputs_of, shuffle_form, symmetric_tree}
use Rattle.shuffle_transfer.specs.Transfer.{relabelled, shuffled, IsSumOfInsertions}
use Rattle.shuffle_transfer.specs.GroebnerBases.{setting, IsGroebnerBasis}
use Rattle.shuffle_transfer.proofs.Orderings.{all_orderings}
use Rattle.basis_certificates.specs.Certificates.{Red, ElemEntry, RowEntry, Relabelling, RelabelEntry, Certificate, element_in}
use Rattle.basis_certificates.specs.Entries.{HasOwnLeadingTree, HasUnit, IsGoodElem, IsFitReduction, insertion_of, reductions_sum, s_element_at, IsRowRed, IsCommonMultiple, IsGoodRow, HasEveryRow, IsRelabelling, IsRelabelRed, IsGoodRelabel, HasEveryRelabel}
use Rattle.basis_certificates.specs.Holding.{AreGood, CertificateHolds}
use Rattle.basis_certificates.specs.ShuffleElements.{shuffle_element, shuffle_elements}
use Rattle.basis_certificates.specs.Laws.{ShowMembers}
use Rattle.basis_certificates.proofs.Lookups.{nth_mem, mem_nth, nth_of_map, in_order_nth}
use Rattle.basis_certificates.proofs.Goodness.{distinct_map, each_once, good_member, one_key}
use Rattle.basis_certificates.proofs.Spellings.{form_valid, one_form, form_back, back_arity}
use Rattle.basis_certificates.proofs.Multiples.{named, multiple_valid, common_of_form}
use Rattle.basis_certificates.proofs.Elements.{same_element, entry_monic, entry_in_ideal}

abbrev Sum : Type 0
Sum = List (ℕ × Tree ℕ)

abbrev laws : (q : ℕ) → SumLaw (Tree ℕ) tree_discrete q
laws q = sum_law (Tree ℕ) tree_discrete q

module _ {C : Type 0} (Shown : List (ℕ × Tree ℕ) → C → Type 0) (p : Presentation) (sound : IsSound p) (proper : IsProper p) (cmp : Tree ℕ → Tree ℕ → Ordering) (order : IsTreeOrder (inputs_of p.generators) cmp)
    (elems : List (ElemEntry C)) (members : ShowMembers Shown p elems) (good : AreGood (IsGoodElem p cmp Shown) [] elems) where
  abbrev F : Tree ℕ → Tree ℕ
  F = shuffle_form p.generators

  abbrev E : ElemEntry C → Element
  E = shuffle_element p cmp

  abbrev s : Setting
  s = setting p cmp (shuffle_elements p cmp elems)

  -- ---- the elements

  pub record GoodEntry (x : ElemEntry C) : Type 0 where
    pub earlier : List (ElemEntry C)
    pub lead : HasOwnLeadingTree p cmp earlier x
    pub unit : HasUnit p x
    pub member : InIdeal p (leaf_count x.lead) x.element

  entry_good : (x : ElemEntry C) → Mem x elems → GoodEntry x
  entry_good x m =
      let k = good_member (IsGoodElem p cmp Shown) [] elems good x m in
      record { earlier = k.earlier; lead = k.good.lead; unit = k.good.unit; member = members x m (leaf_count x.lead) k.good.lead.element_labelled k.good.shown }

  one_lead : (x y : ElemEntry C) → Mem x elems → Mem y elems → F x.lead ≡ F y.lead → x ≡ y
  one_lead x y m n e = one_key (IsGoodElem p cmp Shown) (λ z. z.lead) (λ earlier z h w k. h.lead.new w k) [] elems good x y m n
      (one_form p x.lead y.lead (entry_good x m).lead.spelled (entry_good y n).lead.spelled e)

  pub once : Distinct (shuffle_elements p cmp elems)
  once = distinct_map E elems (λ x y m n e. one_lead x y m n (ap (λ g. g.lead) e)) (each_once (IsGoodElem p cmp Shown) (λ z. z.lead) (λ earlier z h w k. h.lead.new w k) [] elems good)

  monic : AreMonic s
  monic = record {
    each = λ g m. let k = mem_of_map E g elems m in let h = entry_good k.0 k.1 in
        subst (IsMonic s) (sym k.2) (entry_monic p cmp order h.earlier k.0 h.lead sound proper h.member (shuffle_elements p cmp elems));
    apart = λ g h m n e.
        let k = mem_of_map E g elems m in
        let l = mem_of_map E h elems n in
        k.2 ∙ ap E (one_lead k.0 l.0 k.1 l.1 (sym (ap (λ z. z.lead) k.2) ∙ e ∙ ap (λ z. z.lead) l.2)) ∙ sym l.2;
  }

  in_ideal : (g : Element) → Mem g (shuffle_elements p cmp elems) → IsSumOfInsertions p g.arity (terms g)
  in_ideal g m =
      let k = mem_of_map E g elems m in
      let h = entry_good k.0 k.1 in
      subst (λ z. IsSumOfInsertions p z.arity (terms z)) (sym k.2) (entry_in_ideal p cmp order h.earlier k.0 h.lead sound h.member h.unit)

  -- an entry's element, inserted somewhere, is that of the shuffle form
  same_inserted : (x : ElemEntry C) → Mem x elems → (t : Tree ℕ) (set : List ℕ) → Same tree_discrete p.q (inserted (shuffle_element p cmp x) t set) (moved (insert (frame_at set t)) (shuffled p x.element))
  same_inserted x m t set =
      let h = entry_good x m in
      Same-moved tree_discrete tree_discrete p.q (insert (frame_at set t)) (terms (E x)) (shuffled p x.element) (same_element p cmp order h.earlier x h.lead h.unit)

  -- ---- reductions

  -- the sum of reductions as a sum of insertions in trees of one arity with a property
  pub record Uses (n : ℕ) (Q : Tree ℕ → Type 0) (e : Sum) : Type 0 where
    pub uses : List (ℕ × Insertion s n)
    pub all : AllTerms uses (λ i. Q i.tree)
    pub adds_up : Same tree_discrete p.q e (expand value_of uses)

  insertion_for : (n : ℕ) (r : Red) → IsFitReduction p.generators elems r → leaf_count r.tree ≡ n → Insertion s n
  insertion_for n r fit e = record {
    of = E fit.entry;
    member = mem_map E fit.entry elems (nth_mem elems r.number fit.entry fit.named);
    tree = F r.tree;
    set = r.set;
    valid = subst (λ k. IsShuffleTree (inputs_of p.generators) k (F r.tree)) e (form_valid p r.tree fit.spelled);
    place = fit.place;
  }

  same_value : (n : ℕ) (r : Red) (fit : IsFitReduction p.generators elems r) (e : leaf_count r.tree ≡ n) → Same tree_discrete p.q (insertion_of p elems r.number r.tree r.set) (value_of (insertion_for n r fit e))
  unfolding insertion_for
  same_value n r fit e =
      subst (λ o. Same tree_discrete p.q (moved (insert (frame_at r.set (F r.tree))) (shuffled p (element_in o))) (inserted (E fit.entry) (F r.tree) r.set)) (sym fit.named)
      (λ t. sym (same_inserted fit.entry (nth_mem elems r.number fit.entry fit.named) (F r.tree) r.set t))

  uses_of : (n : ℕ) (Q : Tree ℕ → Type 0) (reds : List Red) → AllByRecursion (λ r. IsFitReduction p.generators elems r × (leaf_count r.tree ≡ n) × Q (F r.tree)) reds → Uses n Q (reductions_sum p elems reds)
  unfolding expand insertion_for
  uses_of n Q [] h = record { uses = []; all = tt; adds_up = λ t. refl }
  uses_of n Q (r ∷ reds) h =
      let k : Uses n Q (reductions_sum p elems reds) = uses_of n Q reds h.1 in
      let i : Insertion s n = insertion_for n r h.0.0 h.0.1 in
      record {
        uses = (r.coefficient, i) ∷ k.uses;
        all = (h.0.2, k.all);
        adds_up = (laws p.q).same_added (scale r.coefficient (insertion_of p elems r.number r.tree r.set)) (scale r.coefficient (value_of i)) (reductions_sum p elems reds) (expand value_of k.uses)
            ((laws p.q).same_scaled r.coefficient (insertion_of p elems r.number r.tree r.set) (value_of i) (same_value n r h.0.0 h.0.1)) k.adds_up;
      }

  -- ---- S-elements

  module _ (N : ℕ) (rows : List RowEntry) (good_rows : AreGood (IsGoodRow p cmp N elems) [] rows) where
    row_reduces : (x : RowEntry) → Mem x rows → Uses (leaf_count x.at.tree) (λ u. cmp u (F x.at.tree) ≡ Less) (s_element_at p elems x.at)
    row_reduces x m =
        let h = (good_member (IsGoodRow p cmp N elems) [] rows good_rows x m).good in
        let k = uses_of (leaf_count x.at.tree) (λ u. cmp u (F x.at.tree) ≡ Less) x.reds (each_red x.reds h.reds) in
        record { uses = k.uses; all = k.all; adds_up = λ t. h.adds_up t ∙ k.adds_up t }
      where
        each_red : (reds : List Red) → AllByRecursion (IsRowRed p.generators cmp elems x.at.tree) reds
            → AllByRecursion (λ r. IsFitReduction p.generators elems r × (leaf_count r.tree ≡ leaf_count x.at.tree) × (cmp (F r.tree) (F x.at.tree) ≡ Less)) reds
        each_red [] h = tt
        each_red (r ∷ reds) h = ((h.0.fit, h.0.below.one_arity, h.0.below.smaller), each_red reds h.1)

    -- the S-element of two entries in shuffle form is that of their elements
    of_uses : (m : ℕ) (x y : ElemEntry C) → Mem x elems → Mem y elems → (t : Tree ℕ) (first second : List ℕ)
        → Uses m (λ u. cmp u t ≡ Less) (moved (insert (frame_at first t)) (shuffled p x.element) ++ scale p.q (moved (insert (frame_at second t)) (shuffled p y.element)))
        → ReducesBelow s m t (s_element p.q (E x) (E y) t first second)
    of_uses m x y mx my t first second d = record { uses = d.uses; lower = d.all; adds_up = λ u. same u ∙ d.adds_up u }
      where
        same : Same tree_discrete p.q (s_element p.q (E x) (E y) t first second)
            (moved (insert (frame_at first t)) (shuffled p x.element) ++ scale p.q (moved (insert (frame_at second t)) (shuffled p y.element)))
        same = (laws p.q).same_added (inserted (E x) t first) (moved (insert (frame_at first t)) (shuffled p x.element))
            (scale p.q (inserted (E y) t second)) (scale p.q (moved (insert (frame_at second t)) (shuffled p y.element)))
            (same_inserted x mx t first)
            ((laws p.q).same_scaled p.q (inserted (E y) t second) (moved (insert (frame_at second t)) (shuffled p y.element)) (same_inserted y my t second))

    module _ (every : HasEveryRow p.generators N elems rows) where
      -- the S-element of the elements of two entries there
      abbrev s_sum : ℕ → ℕ → Tree ℕ → List ℕ → List ℕ → Sum
      s_sum i j t first second =
          moved (insert (frame_at first t)) (shuffled p (element_in (nth elems i))) ++ scale p.q (moved (insert (frame_at second t)) (shuffled p (element_in (nth elems j))))

      found : (i j : ℕ) (t : Tree ℕ) (first second : List ℕ) → IsCommonMultiple p.generators N elems (named p i j t first second)
          → Uses (leaf_count (symmetric_tree p.generators t)) (λ u. cmp u (F (symmetric_tree p.generators t)) ≡ Less) (s_sum i j (F (symmetric_tree p.generators t)) first second)
      found i j t first second h =
          let row = every (named p i j t first second) h in
          subst (λ z. Uses (leaf_count z.tree) (λ u. cmp u (F z.tree) ≡ Less) (s_element_at p elems z)) row.2 (row_reduces row.0 row.1)

      -- the tree stands for the shuffle tree, so what is a sum of insertions below the one is one below the other
      found_there : (i j m : ℕ) (t : Tree ℕ) (first second : List ℕ) → IsCommonMultiple p.generators N elems (named p i j t first second) → leaf_count (symmetric_tree p.generators t) ≡ m → F (symmetric_tree p.generators t) ≡ t
          → Uses m (λ u. cmp u t ≡ Less) (s_sum i j t first second)
      found_there i j m t first second h arity form =
          subst (λ k. Uses k (λ u. cmp u t ≡ Less) (s_sum i j t first second)) arity
          (subst (λ z. Uses (leaf_count (symmetric_tree p.generators t)) (λ u. cmp u z ≡ Less) (s_sum i j z first second)) form (found i j t first second h))

      at_multiple : (m : ℕ) → m ≤ N → (i j : ℕ) (x y : ElemEntry C) → nth elems i ≡ Some x → nth elems j ≡ Some y → i ≤ j → (t : Tree ℕ) (first second : List ℕ)
          → IsMultiple m (F x.lead) (F y.lead) t first second → ReducesBelow s m t (s_element p.q (E x) (E y) t first second)
      at_multiple m le i j x y ex ey ij t first second mult =
          let mx : Mem x elems = nth_mem elems i x ex in
          let my : Mem y elems = nth_mem elems j y ey in
          let v : IsShuffleTree (inputs_of p.generators) m t = multiple_valid p x.lead y.lead (entry_good x mx).lead.spelled (entry_good y my).lead.spelled m t first second mult in
          let c : Uses m (λ u. cmp u t ≡ Less) (s_sum i j t first second)
          = found_there i j m t first second (common_of_form p N elems i j x y ex ey ij (entry_good x mx).lead.spelled (entry_good y my).lead.spelled m le t first second mult) (back_arity p m t v) (form_back p m t v) in
          of_uses m x y mx my t first second
          (subst (λ (o : Option (ElemEntry C)). Uses m (λ u. cmp u t ≡ Less) (moved (insert (frame_at first t)) (shuffled p (element_in o)) ++ scale p.q (moved (insert (frame_at second t)) (shuffled p y.element)))) ex
          (subst (λ (o : Option (ElemEntry C)). Uses m (λ u. cmp u t ≡ Less) (moved (insert (frame_at first t)) (shuffled p (element_in (nth elems i))) ++ scale p.q (moved (insert (frame_at second t)) (shuffled p (element_in o))))) ey c))

      reduce : SElementsReduce s N
      reduce m le g h o t first second mult =
          let k = in_order_nth g h (shuffle_elements p cmp elems) o in
          let x = nth_of_map E elems k.0 g k.2 in
          let y = nth_of_map E elems k.1 h k.3 in
          subst (λ z. ReducesBelow s m t (s_element p.q z h t first second)) (sym x.2)
          (subst (λ z. ReducesBelow s m t (s_element p.q (E x.0) z t first second)) (sym y.2)
          (at_multiple m le k.0 k.1 x.0 y.0 x.1 y.1 k.5 t first second
          (subst (λ z. IsMultiple m (F x.0.lead) z.lead t first second) y.2 (subst (λ z. IsMultiple m z.lead h.lead t first second) x.2 mult))))

  -- ---- relations

  module _ (N : ℕ) (relabels : List RelabelEntry) (good_relabels : AreGood (IsGoodRelabel p N elems) [] relabels) (every : HasEveryRelabel p N relabels) where
    abbrev Spanned : Relation → List ℕ → Type 0
    Spanned r v = IsLinearCombination tree_discrete (value_of {s = setting p cmp (shuffle_elements p cmp elems)} {n = r.arity}) p.q (shuffled p (relabelled v r.terms))

    record EntryFor (m : Relabelling) : Type 0 where
      relation : Relation
      named : nth p.relations m.number ≡ Some relation
      spanned : Spanned relation m.permutation

    entry_for : (x : RelabelEntry) → Mem x relabels → EntryFor x.at
    entry_for x m =
        let h = (good_member (IsGoodRelabel p N elems) [] relabels good_relabels x m).good in
        let r : Relation = h.relabelling.relation in
        let k = uses_of r.arity (λ u. Unit {0}) x.reds (each_red r.arity x.reds h.reds) in
        record { relation = r; named = h.relabelling.named; spanned = record { uses = k.uses; adds_up = λ t. h.adds_up t ∙ k.adds_up t } }
      where
        each_red : (n : ℕ) (reds : List Red) → AllByRecursion (IsRelabelRed p.generators elems n) reds → AllByRecursion (λ r. IsFitReduction p.generators elems r × (leaf_count r.tree ≡ n) × Unit {0}) reds
        each_red n [] h = tt
        each_red n (r ∷ reds) h = ((h.0.fit, h.0.one_arity, tt), each_red n reds h.1)

    entry_there : (m : Relabelling) → IsRelabelling p N m → EntryFor m
    entry_there m h = let x = every m h in subst EntryFor x.2 (entry_for x.0 x.1)

    of_entry : (r : Relation) (m : Relabelling) → nth p.relations m.number ≡ Some r → EntryFor m → Spanned r m.permutation
    of_entry r m e h = let one : h.relation ≡ r = cc (h.named, e) in subst (λ z. Spanned z m.permutation) one h.spanned

    spanned_relation : (r : Relation) → Mem r p.relations → r.arity ≤ N → (v : List ℕ) → Mem v (orderings r.arity) → Spanned r v
    spanned_relation r m le v o = go r.terms refl (mem_nth r p.relations m)
      where
        go : (l : Sum) → r.terms ≡ l → (k : ℕ) × (nth p.relations k ≡ Some r) → Spanned r v
        go [] e k = subst (λ l. IsLinearCombination tree_discrete (value_of {s = s} {n = r.arity}) p.q (shuffled p (relabelled v l))) (sym e) (member_zero tree_discrete value_of p.q)
        go (y ∷ l) e k =
            of_entry r (record { number = k.0; permutation = v }) k.1
            (entry_there (record { number = k.0; permutation = v }) (record { relation = r; named = k.1; has_terms = λ z. cc (e, z); few = le; permutes = ((all_orderings r.arity).2 v).0 o }))

-- the elements of a certificate that holds through N are certified through N
pub certify : {C : Type 0} (Shown : List (ℕ × Tree ℕ) → C → Type 0) (p : Presentation) → IsSound p → IsProper p → (cmp : Tree ℕ → Tree ℕ → Ordering) → IsTreeOrder (inputs_of p.generators) cmp
    → (N : ℕ) (cert : Certificate C) → ShowMembers Shown p cert.elems → CertificateHolds Shown p cmp N cert → IsGroebnerBasis p cmp (shuffle_elements p cmp cert.elems) N
certify Shown p sound proper cmp order N cert members holds = record {
  monic = monic Shown p sound proper cmp order cert.elems members holds.elems;
  once = once Shown p sound proper cmp order cert.elems members holds.elems;
  in_ideal = in_ideal Shown p sound proper cmp order cert.elems members holds.elems;
  relations = spanned_relation Shown p sound proper cmp order cert.elems members holds.elems N cert.relabels holds.relabels holds.every_relabel;
  s_elements = reduce Shown p sound proper cmp order cert.elems members holds.elems N cert.rows holds.rows holds.every_row;
}
