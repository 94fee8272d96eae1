-- An example: the certificate of the Lie presentation through arity 4 holds.
use Rattle.std.proofs.Common.{◌≡◌, ℕ, zero, suc, ◌%◌, ◌≤◌, List, [], ◌∷◌, Bool, true, refl, sym, ◌∙◌, ap, arith, subst, inl, inr, ◌⊎◌}
use Rattle.std.specs.List.{AllByRecursion}
use mathlib.Core.Path.{ap₂}
use Rattle.std.specs.Prelude.{Some}
use Rattle.std.specs.declared.cmp.Ordering.{Ordering}
use Rattle.std.specs.declared.cmp.Ordering.TheVariants.{Less}
use native.Mathlib.Decide.{ℕ_discrete}
use Rattle.modular_sums.specs.Residues.{IsCongruent}
use Rattle.modular_sums.specs.Lists.{Mem, has_by, nth}
use Rattle.modular_sums.specs.Sums.{coef, scale, AllTerms, Same}
use Rattle.modular_sums.proofs.Lists.{has_by_mem}
use Rattle.modular_sums.proofs.Sameness.{same_if_agree}
use Rattle.labelled_trees.specs.Trees.{Tree, leaf}
use Rattle.labelled_trees.specs.Leaves.{leaf_count}
use Rattle.labelled_trees.specs.Equality.{same_leaf, same_node, same_more, tree_discrete_by, row_discrete_by, tree_discrete}
use Rattle.labelled_trees.specs.Labelled.{IsLabelled}
use Rattle.shuffle_insertions.specs.ShuffleTrees.{IsShuffleTree}
use Rattle.shuffle_insertions.specs.Orders.{IsTreeOrder}
use Rattle.shuffle_insertions.specs.Listing.{all_trees}
use Rattle.shuffle_insertions.proofs.Laws.{listed}
use Rattle.shuffle_insertions.proofs.Examples.{l, t1, t2, t3, comb}
use Rattle.shuffle_places.specs.Places.{IsPlace}
use Rattle.shuffle_places.specs.AllPlaces.{places}
use Rattle.shuffle_places.specs.Multiples.{IsMultiple}
use Rattle.shuffle_places.specs.AllMultiples.{multiples}
use Rattle.shuffle_places.proofs.Laws.{places_listed, multiples_listed}
use Rattle.shuffle_places.proofs.Examples.{top_two, lower_two, multiples_of_t1, comb_multiple}
use Rattle.operad_ideals.specs.Presentations.{Relation, arity_of, IsProper}
use Rattle.shuffle_transfer.specs.Orderings.{IsOrdering, orderings}
use Rattle.shuffle_transfer.specs.Labels.{labels, inputs_of, shuffle_form, symmetric_tree, word_discrete, same_cons, letter_discrete, same_letter}
use Rattle.shuffle_transfer.specs.Transfer.{relabelled, shuffled}
use Rattle.shuffle_transfer.specs.NormalTrees.{by_path, compare}
use Rattle.shuffle_transfer.proofs.Labels.{are_labels}
use Rattle.shuffle_transfer.proofs.Orderings.{all_orderings}
use Rattle.shuffle_transfer.proofs.NormalTrees.{order_of}
use Rattle.shuffle_transfer.proofs.Jacobi.{jacobi_relation, lie, wide}
use Rattle.basis_certificates.specs.Certificates.{Red, ElemEntry, Multiple, RowEntry, Relabelling, RelabelEntry, Certificate}
use Rattle.basis_certificates.specs.Entries.{IsSpelled, HasOwnLeadingTree, IsGoodElem, IsFitReduction, reductions_sum, s_element_at, IsCommonMultiple, HasEveryRow, IsRowRed, IsGoodRow, IsRelabelling, HasEveryRelabel, IsGoodRelabel}
use Rattle.basis_certificates.specs.Holding.{AreGood, CertificateHolds}
use Rattle.basis_certificates.specs.Laws.{Passes}
use Rattle.basis_certificates.proofs.Lookups.{nth_within}
use Rattle.basis_certificates.proofs.Goodness.{each_mem}
use Rattle.basis_certificates.proofs.Spellings.{one_form, back_spelled}
use Rattle.basis_certificates.proofs.Elements.{holds_or_zero}
use Rattle.shuffle_places.proofs.FewMultiples.{no_multiples}

abbrev pub cmp : Tree ℕ → Tree ℕ → Ordering
cmp = compare lie.generators by_path

pub order : IsTreeOrder (inputs_of lie.generators) cmp
order = order_of lie.generators by_path

pub proper : IsProper lie
proper r (inl e) = subst (λ x. (x.terms ≡ []) ⊎ (2 ≤ x.arity)) (sym e) (inr (omega arith))
proper r (inr m) = absurd m

-- ---- the certificate, line by line; there is nothing to be shown by cofactors here

abbrev pub red : ℕ → Tree ℕ → List ℕ → Red
red c t set = record { coefficient = c; number = 1; tree = t; set = set }

-- elem l(l(1,2),3) ; -l(1,l(2,3)) + l(l(1,2),3) - l(l(1,3),2)
abbrev pub elem : ElemEntry (Unit {0})
elem = record { lead = t1; element = (100, t3) ∷ ((1, t1) ∷ ((100, t2) ∷ [])); cofactors = tt }

abbrev pub elems : List (ElemEntry (Unit {0}))
elems = elem ∷ []

abbrev u1 : Tree ℕ
u1 = l (l (l (leaf 1) (leaf 2)) (leaf 4)) (leaf 3)

abbrev u2 : Tree ℕ
u2 = l (l (leaf 1) (leaf 2)) (l (leaf 3) (leaf 4))

abbrev u3 : Tree ℕ
u3 = l (l (l (leaf 1) (leaf 3)) (leaf 2)) (leaf 4)

abbrev pub u4 : Tree ℕ
u4 = l (l (leaf 1) (l (leaf 2) (leaf 3))) (leaf 4)

abbrev u5 : Tree ℕ
u5 = l (l (l (leaf 1) (leaf 4)) (leaf 2)) (leaf 3)

abbrev u6 : Tree ℕ
u6 = l (l (leaf 1) (l (leaf 2) (leaf 4))) (leaf 3)

abbrev u7 : Tree ℕ
u7 = l (l (l (leaf 1) (leaf 3)) (leaf 4)) (leaf 2)

abbrev u8 : Tree ℕ
u8 = l (leaf 1) (l (l (leaf 2) (leaf 3)) (leaf 4))

abbrev pub the_multiple : Multiple
the_multiple = record { one = 1; other = 1; tree = comb; first = top_two; second = lower_two }

-- row 1 ; 1 ; l(l(l(1,2),3),4) ; 1 2 ; 2 3
abbrev pub row : RowEntry
row = record {
  at = the_multiple;
  reds = red 100 u1 lower_two ∷ (red 100 u2 top_two ∷ (red 1 u3 top_two ∷ (red 1 u4 top_two
      ∷ (red 100 u5 top_two ∷ (red 100 u6 top_two ∷ (red 1 u7 lower_two ∷ (red 1 u8 lower_two ∷ [])))))));
}

abbrev pub relabel : List ℕ → ℕ → RelabelEntry
relabel v c = record { at = record { number = 1; permutation = v }; reds = red c t1 top_two ∷ [] }

abbrev pub v1 : List ℕ
v1 = 1 ∷ (2 ∷ (3 ∷ []))

abbrev pub v2 : List ℕ
v2 = 1 ∷ (3 ∷ (2 ∷ []))

abbrev pub v3 : List ℕ
v3 = 2 ∷ (1 ∷ (3 ∷ []))

abbrev pub v4 : List ℕ
v4 = 2 ∷ (3 ∷ (1 ∷ []))

abbrev pub v5 : List ℕ
v5 = 3 ∷ (1 ∷ (2 ∷ []))

abbrev pub v6 : List ℕ
v6 = 3 ∷ (2 ∷ (1 ∷ []))

abbrev pub five : List RelabelEntry
five = relabel v1 1 ∷ (relabel v2 100 ∷ (relabel v3 100 ∷ (relabel v4 1 ∷ (relabel v5 1 ∷ []))))

abbrev pub six : List RelabelEntry
six = relabel v1 1 ∷ (relabel v2 100 ∷ (relabel v3 100 ∷ (relabel v4 1 ∷ (relabel v5 1 ∷ (relabel v6 100 ∷ [])))))

abbrev pub cert : Certificate (Unit {0})
cert = record { elems = elems; rows = row ∷ []; relabels = six }

abbrev pub test : List (ℕ × Tree ℕ) → Unit {0} → Bool
test e c = true

-- ---- trees and places

-- a tree that is its own shuffle form, and a place of t1 in it
pub record IsHost (n : ℕ) (t : Tree ℕ) (set : List ℕ) : Type 0 where
  pub among : has_by tree_discrete (all_trees (labels lie.generators) (inputs_of lie.generators) n) t ≡ true
  pub back : symmetric_tree lie.generators t ≡ t
  pub form : shuffle_form lie.generators t ≡ t
  pub place : has_by word_discrete (places t1 1 t) set ≡ true

module _ (n : ℕ) (t : Tree ℕ) (set : List ℕ) (h : IsHost n t set) where
  pub host_valid : IsShuffleTree (inputs_of lie.generators) n t
  host_valid = (listed (labels lie.generators) (inputs_of lie.generators) (are_labels lie wide) n).0.only t (has_by_mem tree_discrete (all_trees (labels lie.generators) (inputs_of lie.generators) n) t h.among)

  host_spelled : IsSpelled lie.generators t
  host_spelled = subst (IsSpelled lie.generators) h.back (back_spelled lie n t host_valid)

  host_place : IsPlace (shuffle_form lie.generators t) set t1
  host_place = subst (λ u. IsPlace u set t1) (sym h.form) (((places_listed t1 t tt).0 set).0 (has_by_mem word_discrete (places t1 1 t) set h.place))

pub form_t1 : shuffle_form lie.generators t1 ≡ t1
unfolding word_discrete same_cons letter_discrete same_letter ℕ_discrete
form_t1 = refl

pub fit : (n c : ℕ) (t : Tree ℕ) (set : List ℕ) → IsHost n t set → IsFitReduction lie.generators elems (red c t set)
fit n c t set h = record { entry = elem; named = refl; spelled = host_spelled n t set h; place = subst (IsPlace (shuffle_form lie.generators t) set) (sym form_t1) (host_place n t set h) }

pub host_t1 : IsHost 3 t1 top_two
unfolding word_discrete same_cons letter_discrete same_letter ℕ_discrete tree_discrete tree_discrete_by row_discrete_by same_leaf same_node same_more
host_t1 = record { among = refl; back = refl; form = refl; place = refl }

pub host_comb : IsHost 4 comb top_two
unfolding word_discrete same_cons letter_discrete same_letter ℕ_discrete tree_discrete tree_discrete_by row_discrete_by same_leaf same_node same_more
host_comb = record { among = refl; back = refl; form = refl; place = refl }

hosts : (IsHost 4 u1 lower_two) × (IsHost 4 u2 top_two) × (IsHost 4 u3 top_two) × (IsHost 4 u4 top_two) × (IsHost 4 u5 top_two) × (IsHost 4 u6 top_two) × (IsHost 4 u7 lower_two) × (IsHost 4 u8 lower_two)
unfolding word_discrete same_cons letter_discrete same_letter ℕ_discrete tree_discrete tree_discrete_by row_discrete_by same_leaf same_node same_more
hosts = (
  record { among = refl; back = refl; form = refl; place = refl },
  record { among = refl; back = refl; form = refl; place = refl },
  record { among = refl; back = refl; form = refl; place = refl },
  record { among = refl; back = refl; form = refl; place = refl },
  record { among = refl; back = refl; form = refl; place = refl },
  record { among = refl; back = refl; form = refl; place = refl },
  record { among = refl; back = refl; form = refl; place = refl },
  record { among = refl; back = refl; form = refl; place = refl },
)

-- ---- the element

labelled_at : (n : ℕ) (t : Tree ℕ) → has_by tree_discrete (all_trees (labels lie.generators) (inputs_of lie.generators) n) t ≡ true → symmetric_tree lie.generators t ≡ t → leaf_count t ≡ n → IsLabelled (arity_of lie) n t
labelled_at n t h e k = subst (λ m. IsLabelled (arity_of lie) m t) k (subst (IsSpelled lie.generators) e (back_spelled lie n t
    ((listed (labels lie.generators) (inputs_of lie.generators) (are_labels lie wide) n).0.only t (has_by_mem tree_discrete (all_trees (labels lie.generators) (inputs_of lie.generators) n) t h)))).labelled

pub element_labelled : AllTerms elem.element (IsLabelled (arity_of lie) 3)
unfolding word_discrete same_cons letter_discrete same_letter ℕ_discrete tree_discrete tree_discrete_by row_discrete_by same_leaf same_node same_more
element_labelled = (labelled_at 3 t3 refl refl refl, (labelled_at 3 t1 refl refl refl, (labelled_at 3 t2 refl refl refl, tt)))

abbrev pub entry : List (ℕ × Tree ℕ) → ElemEntry (Unit {0})
entry e = record { lead = t1; element = e; cofactors = tt }

-- t1 leads an element of arity 3 in which it stands, and no greater tree
pub lead_with : (e : List (ℕ × Tree ℕ)) → AllTerms e (IsLabelled (arity_of lie) 3) → AllTerms (shuffled lie e) (λ s. cmp t1 s ≡ Less → ⊥)
    → (IsCongruent 100 (coef tree_discrete (shuffled lie e) (shuffle_form lie.generators t1)) 0 → ⊥) → HasOwnLeadingTree lie cmp [] (entry e)
lead_with e labelled below there = record {
  spelled = host_spelled 3 t1 top_two host_t1;
  element_labelled = labelled;
  leads = record { labelled = (host_spelled 3 t1 top_two host_t1).labelled; sorted = (host_spelled 3 t1 top_two host_t1).sorted; there = there; above = λ s v less. above s (holds_or_zero (λ s. cmp t1 s ≡ Less → ⊥) (shuffled lie e) below s) (subst (λ t. cmp t s ≡ Less) form_t1 less) };
  new = λ y m. absurd m;
}
  where
    above : (s : Tree ℕ) → (cmp t1 s ≡ Less → ⊥) ⊎ (coef tree_discrete (shuffled lie e) s ≡ 0) → cmp t1 s ≡ Less → IsCongruent 100 (coef tree_discrete (shuffled lie e) s) 0
    above s (inl n) less = absurd (n less)
    above s (inr z) less = ap (λ k. k % 101) z

not_less : AllTerms (shuffled lie elem.element) (λ s. cmp t1 s ≡ Less → ⊥)
unfolding word_discrete same_cons letter_discrete same_letter ℕ_discrete
not_less = ((λ e. cc e), ((λ e. cc e), ((λ e. cc e), tt)))

unit_of : coef tree_discrete (shuffled lie elem.element) (shuffle_form lie.generators t1) ≡ 1
unfolding word_discrete same_cons letter_discrete same_letter ℕ_discrete tree_discrete tree_discrete_by row_discrete_by same_leaf same_node same_more coef
unit_of = refl

pub has_lead : HasOwnLeadingTree lie cmp [] elem
has_lead = lead_with elem.element element_labelled not_less (λ z. let k : 1 % 101 ≡ 0 % 101 = rw unit_of at z in absurd (omega (arith, k)))

pub good_elem : IsGoodElem lie cmp (Passes test) [] elem
good_elem = record { lead = has_lead; unit = ap (λ k. k % 101) unit_of; shown = refl }

-- ---- the row

row_red : (c : ℕ) (t : Tree ℕ) (set : List ℕ) → IsHost 4 t set → cmp (shuffle_form lie.generators t) (shuffle_form lie.generators comb) ≡ Less → leaf_count t ≡ 4 → IsRowRed lie.generators cmp elems comb (red c t set)
row_red c t set h less k = record { fit = fit 4 c t set h; below = record { smaller = less; one_arity = k } }

row_reds : AllByRecursion (IsRowRed lie.generators cmp elems comb) row.reds
unfolding word_discrete same_cons letter_discrete same_letter ℕ_discrete
row_reds = (
  row_red 100 u1 lower_two hosts.0 refl refl,
  (
    row_red 100 u2 top_two hosts.1 refl refl,
    (
      row_red 1 u3 top_two hosts.2 refl refl,
      (
        row_red 1 u4 top_two hosts.3 refl refl,
        (row_red 100 u5 top_two hosts.4 refl refl, (row_red 100 u6 top_two hosts.5 refl refl, (row_red 1 u7 lower_two hosts.6 refl refl, (row_red 1 u8 lower_two hosts.7 refl refl, tt)))),
      ),
    ),
  ),
)

row_adds_up : Same tree_discrete 100 (s_element_at lie elems the_multiple) (reductions_sum lie elems row.reds)
unfolding word_discrete same_cons letter_discrete same_letter ℕ_discrete tree_discrete tree_discrete_by row_discrete_by same_leaf same_node same_more coef scale
row_adds_up = same_if_agree tree_discrete 100 (s_element_at lie elems the_multiple) (reductions_sum lie elems row.reds) refl

pub is_common : IsCommonMultiple lie.generators 4 elems the_multiple
is_common = record {
  one = elem;
  other = elem;
  one_named = refl;
  other_named = refl;
  in_order = omega arith;
  spelled = host_spelled 4 comb top_two host_comb;
  few = omega arith;
  multiple = subst (λ a. IsMultiple 4 a a (shuffle_form lie.generators comb) top_two lower_two) (sym form_t1)
      (subst (λ t. IsMultiple 4 t1 t1 t top_two lower_two) (sym host_comb.form) comb_multiple);
}

pub good_row : IsGoodRow lie cmp 4 elems [] row
good_row = record { multiple = is_common; new = λ y m. absurd m; reds = row_reds; adds_up = row_adds_up }

-- ---- relabelled relations

pub is_relabelling : (v : List ℕ) → Mem v (orderings 3) → IsRelabelling lie 4 (record { number = 1; permutation = v })
is_relabelling v m = record { relation = jacobi_relation; named = refl; has_terms = λ z. cc z; few = omega arith; permutes = ((all_orderings 3).2 v).0 m }

abbrev AddsUp : List ℕ → ℕ → Type 0
AddsUp v c = Same tree_discrete 100 (shuffled lie (relabelled v jacobi_relation.terms)) (reductions_sum lie elems (red c t1 top_two ∷ []))

adds_up_by : (AddsUp v1 1) × (AddsUp v2 100) × (AddsUp v3 100) × (AddsUp v4 1) × (AddsUp v5 1) × (AddsUp v6 100)
unfolding word_discrete same_cons letter_discrete same_letter ℕ_discrete tree_discrete tree_discrete_by row_discrete_by same_leaf same_node same_more coef scale
adds_up_by = (
  same_if_agree tree_discrete 100 (shuffled lie (relabelled v1 jacobi_relation.terms)) (reductions_sum lie elems (red 1 t1 top_two ∷ [])) refl,
  same_if_agree tree_discrete 100 (shuffled lie (relabelled v2 jacobi_relation.terms)) (reductions_sum lie elems (red 100 t1 top_two ∷ [])) refl,
  same_if_agree tree_discrete 100 (shuffled lie (relabelled v3 jacobi_relation.terms)) (reductions_sum lie elems (red 100 t1 top_two ∷ [])) refl,
  same_if_agree tree_discrete 100 (shuffled lie (relabelled v4 jacobi_relation.terms)) (reductions_sum lie elems (red 1 t1 top_two ∷ [])) refl,
  same_if_agree tree_discrete 100 (shuffled lie (relabelled v5 jacobi_relation.terms)) (reductions_sum lie elems (red 1 t1 top_two ∷ [])) refl,
  same_if_agree tree_discrete 100 (shuffled lie (relabelled v6 jacobi_relation.terms)) (reductions_sum lie elems (red 100 t1 top_two ∷ [])) refl,
)

-- the entry is good, where no earlier one has its permutation
good_relabel : (earlier : List RelabelEntry) (v : List ℕ) (c : ℕ) → Mem v (orderings 3) → AddsUp v c → ((y : RelabelEntry) → Mem y earlier → y.at.permutation ≡ v → ⊥)
    → IsGoodRelabel lie 4 elems earlier (relabel v c)
unfolding is_relabelling
good_relabel earlier v c m sum new = record {
  relabelling = is_relabelling v m;
  new = λ y k e. new y k (ap (λ z. z.permutation) e);
  reds = (record { fit = fit 3 c t1 top_two host_t1; one_arity = refl }, tt);
  adds_up = sum;
}

-- the entries before it have other permutations
abbrev Others : List ℕ → List RelabelEntry → Type 0
Others v earlier = AllByRecursion (λ y. y.at.permutation ≡ v → ⊥) earlier

good_by : (earlier : List RelabelEntry) (v : List ℕ) (c : ℕ) → Mem v (orderings 3) → AddsUp v c → Others v earlier → IsGoodRelabel lie 4 elems earlier (relabel v c)
good_by earlier v c m sum others = good_relabel earlier v c m sum (each_mem (λ y. y.at.permutation ≡ v → ⊥) earlier others)

pub good_six : AreGood (IsGoodRelabel lie 4 elems) [] six
good_six = (
  good_by [] v1 1 (inl refl) adds_up_by.0 tt,
  (
    good_by (relabel v1 1 ∷ []) v2 100 (inr (inl refl)) adds_up_by.1 ((λ e. cc e), tt),
    (
      good_by (relabel v1 1 ∷ (relabel v2 100 ∷ [])) v3 100 (inr (inr (inl refl))) adds_up_by.2 ((λ e. cc e), ((λ e. cc e), tt)),
      (
        good_by (relabel v1 1 ∷ (relabel v2 100 ∷ (relabel v3 100 ∷ []))) v4 1 (inr (inr (inr (inl refl)))) adds_up_by.3 ((λ e. cc e), ((λ e. cc e), ((λ e. cc e), tt))),
        (
          good_by (relabel v1 1 ∷ (relabel v2 100 ∷ (relabel v3 100 ∷ (relabel v4 1 ∷ [])))) v5 1 (inr (inr (inr (inr (inl refl))))) adds_up_by.4 ((λ e. cc e), ((λ e. cc e), ((λ e. cc e), ((λ e. cc e), tt)))),
          (good_by five v6 100 (inr (inr (inr (inr (inr (inl refl)))))) adds_up_by.5 ((λ e. cc e), ((λ e. cc e), ((λ e. cc e), ((λ e. cc e), ((λ e. cc e), tt))))), tt),
        ),
      ),
    ),
  ),
)

-- ---- every multiple and every relabelled relation

abbrev Triple : Type 0
Triple = Tree ℕ × List ℕ × List ℕ

listed_multiple : (n : ℕ) (t : Tree ℕ) (first second : List ℕ) → IsMultiple n t1 t1 t first second → Mem {X = Triple} (t, first, second) (multiples t1 t1 n)
listed_multiple n t first second h = ((multiples_listed t1 t1 n tt tt).0 t first second).1 h

lone : (x : Triple) → Mem x ((comb, top_two, lower_two) ∷ []) → x ≡ (comb, top_two, lower_two)
lone x (inl e) = e
lone x (inr m) = absurd m

one_multiple : (n : ℕ) → n ≤ 4 → (t : Tree ℕ) (first second : List ℕ) → IsMultiple n t1 t1 t first second → ◌≡◌ {A = Triple} (t, first, second) (comb, top_two, lower_two)
one_multiple zero le t first second h = absurd (subst (Mem {X = Triple} (t, first, second)) no_multiples.0 (listed_multiple 0 t first second h))
one_multiple (suc zero) le t first second h = absurd (subst (Mem {X = Triple} (t, first, second)) no_multiples.1 (listed_multiple 1 t first second h))
one_multiple (suc (suc zero)) le t first second h = absurd (subst (Mem {X = Triple} (t, first, second)) no_multiples.2 (listed_multiple 2 t first second h))
one_multiple (suc (suc (suc zero))) le t first second h = absurd (subst (Mem {X = Triple} (t, first, second)) no_multiples.3 (listed_multiple 3 t first second h))
one_multiple (suc (suc (suc (suc zero)))) le t first second h =
    lone (t, first, second) (subst (Mem {X = Triple} (t, first, second)) multiples_of_t1 (listed_multiple 4 t first second h))
one_multiple (suc (suc (suc (suc (suc n))))) le t first second h = absurd (omega (arith, le))

-- a number that names an entry is 1, and the entry is the one there is
only_entry : (k : ℕ) (x : ElemEntry (Unit {0})) → nth elems k ≡ Some x → (k ≡ 1) × (x ≡ elem)
only_entry k x e =
    let w = nth_within elems k x e in
    let one : k ≡ 1 = omega (arith, w.0, w.1) in
    let f : Some elem ≡ Some x = subst (λ i. nth elems i ≡ Some x) one e in
    (one, cc f)

only_multiple : (m : Multiple) → IsCommonMultiple lie.generators 4 elems m → the_multiple ≡ m
only_multiple m h =
    let x = only_entry m.one h.one h.one_named in
    let y = only_entry m.other h.other h.other_named in
    let at : IsMultiple (leaf_count m.tree) t1 t1 (shuffle_form lie.generators m.tree) m.first m.second
    = subst (λ a. IsMultiple (leaf_count m.tree) a t1 (shuffle_form lie.generators m.tree) m.first m.second) form_t1
    (subst (λ b. IsMultiple (leaf_count m.tree) (shuffle_form lie.generators t1) b (shuffle_form lie.generators m.tree) m.first m.second) form_t1
    (subst (λ z. IsMultiple (leaf_count m.tree) (shuffle_form lie.generators z.lead) (shuffle_form lie.generators t1) (shuffle_form lie.generators m.tree) m.first m.second) x.1
    (subst (λ z. IsMultiple (leaf_count m.tree) (shuffle_form lie.generators h.one.lead) (shuffle_form lie.generators z.lead) (shuffle_form lie.generators m.tree) m.first m.second) y.1 h.multiple))) in
    let t = one_multiple (leaf_count m.tree) h.few (shuffle_form lie.generators m.tree) m.first m.second at in
    let tree : comb ≡ m.tree
    = one_form lie comb m.tree (host_spelled 4 comb top_two host_comb) h.spelled (host_comb.form ∙ sym (ap (λ (z : Triple). z.0) t)) in
    ap (λ z. record { one = z; other = 1; tree = comb; first = top_two; second = lower_two }) (sym x.0)
    ∙ ap (λ z. record { one = m.one; other = z; tree = comb; first = top_two; second = lower_two }) (sym y.0)
    ∙ ap (λ z. record { one = m.one; other = m.other; tree = z; first = top_two; second = lower_two }) tree
    ∙ ap (λ z. record { one = m.one; other = m.other; tree = m.tree; first = z; second = lower_two }) (sym (ap (λ (z : Triple). z.1) t))
    ∙ ap (λ z. record { one = m.one; other = m.other; tree = m.tree; first = m.first; second = z }) (sym (ap (λ (z : Triple). z.2) t))

pub every_row : HasEveryRow lie.generators 4 elems (row ∷ [])
every_row m h = (row, inl refl, only_multiple m h)

only_relation : (k : ℕ) (r : Relation) → nth lie.relations k ≡ Some r → (k ≡ 1) × (r ≡ jacobi_relation)
only_relation k r e =
    let w = nth_within lie.relations k r e in
    let one : k ≡ 1 = omega (arith, w.0, w.1) in
    let f : Some jacobi_relation ≡ Some r = subst (λ i. nth lie.relations i ≡ Some r) one e in
    (one, cc f)

every_relabel : HasEveryRelabel lie 4 six
every_relabel m h =
    let r = only_relation m.number h.relation h.named in
    by m (sym r.0) (((all_orderings 3).2 m.permutation).1 (subst (λ z. IsOrdering z.arity m.permutation) r.1 h.permutes))
  where
    at : (m : Relabelling) (v : List ℕ) → 1 ≡ m.number → m.permutation ≡ v → record { number = 1; permutation = v } ≡ m
    at m v a b = ap₂ (λ k w. record { number = k; permutation = w }) a (sym b)

    by : (m : Relabelling) → 1 ≡ m.number → Mem m.permutation (orderings 3) → (x : RelabelEntry) × Mem x six × (x.at ≡ m)
    by m a (inl e) = (relabel v1 1, inl refl, at m v1 a e)
    by m a (inr (inl e)) = (relabel v2 100, inr (inl refl), at m v2 a e)
    by m a (inr (inr (inl e))) = (relabel v3 100, inr (inr (inl refl)), at m v3 a e)
    by m a (inr (inr (inr (inl e)))) = (relabel v4 1, inr (inr (inr (inl refl))), at m v4 a e)
    by m a (inr (inr (inr (inr (inl e))))) = (relabel v5 1, inr (inr (inr (inr (inl refl)))), at m v5 a e)
    by m a (inr (inr (inr (inr (inr (inl e)))))) = (relabel v6 100, inr (inr (inr (inr (inr (inl refl))))), at m v6 a e)
    by m a (inr (inr (inr (inr (inr (inr n)))))) = absurd n

-- ---- it holds

pub holds : CertificateHolds (Passes test) lie cmp 4 cert
holds = record { elems = (good_elem, tt); rows = (good_row, tt); relabels = good_six; every_row = every_row; every_relabel = every_relabel }
