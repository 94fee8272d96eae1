-- Small common multiples of entries, by shuffle trees.
use Rattle.std.proofs.Common.{◌≡◌, ℕ, ◌≤◌, List, sym, subst}
use Rattle.std.specs.Prelude.{Some}
use Rattle.modular_sums.specs.Lists.{Mem, nth}
use Rattle.labelled_trees.specs.Trees.{Tree}
use Rattle.labelled_trees.specs.Leaves.{leaf_count}
use Rattle.shuffle_insertions.specs.ShuffleTrees.{IsShuffleTree}
use Rattle.shuffle_places.specs.Multiples.{IsMultiple}
use Rattle.shuffle_places.proofs.Laws.{multiples_fit}
use Rattle.operad_ideals.specs.Presentations.{Presentation}
use Rattle.shuffle_transfer.specs.Labels.{inputs_of, shuffle_form, symmetric_tree}
use Rattle.basis_certificates.specs.Certificates.{ElemEntry, Multiple, RowEntry}
use Rattle.basis_certificates.specs.Entries.{IsSpelled, IsCommonMultiple, HasEveryRow}
use Rattle.basis_certificates.proofs.Spellings.{spelled_back, form_valid, form_back, back_arity, back_spelled}

module _ (p : Presentation) where
  -- the multiple that two numbers, a shuffle tree and two places in it name
  abbrev pub named : ℕ → ℕ → Tree ℕ → List ℕ → List ℕ → Multiple
  named i j t first second = record { one = i; other = j; tree = symmetric_tree p.generators t; first = first; second = second }

  pub multiple_valid : (a b : Tree ℕ) → IsSpelled p.generators a → IsSpelled p.generators b → (n : ℕ) (t : Tree ℕ) (first second : List ℕ)
      → IsMultiple n (shuffle_form p.generators a) (shuffle_form p.generators b) t first second → IsShuffleTree (inputs_of p.generators) n t
  multiple_valid a b ha hb n t first second h =
      multiples_fit (inputs_of p.generators) (leaf_count a) (leaf_count b) n (shuffle_form p.generators a) (shuffle_form p.generators b) t first second (form_valid p a ha) (form_valid p b hb) h

  module _ {C : Type 0} (N : ℕ) (elems : List (ElemEntry C)) where
    pub common_of_form : (i j : ℕ) (x y : ElemEntry C) → nth elems i ≡ Some x → nth elems j ≡ Some y → i ≤ j → IsSpelled p.generators x.lead → IsSpelled p.generators y.lead
        → (n : ℕ) → n ≤ N → (t : Tree ℕ) (first second : List ℕ) → IsMultiple n (shuffle_form p.generators x.lead) (shuffle_form p.generators y.lead) t first second
        → IsCommonMultiple p.generators N elems (named i j t first second)
    common_of_form i j x y ex ey ij hx hy n le t first second mult =
        let v : IsShuffleTree (inputs_of p.generators) n t = multiple_valid x.lead y.lead hx hy n t first second mult in
        record {
          one = x;
          other = y;
          one_named = ex;
          other_named = ey;
          in_order = ij;
          spelled = back_spelled p n t v;
          few = subst (λ k. k ≤ N) (sym (back_arity p n t v)) le;
          multiple = subst (λ k. IsMultiple k (shuffle_form p.generators x.lead) (shuffle_form p.generators y.lead) (shuffle_form p.generators (symmetric_tree p.generators t)) first second) (sym (back_arity p n t v))
              (subst (λ u. IsMultiple n (shuffle_form p.generators x.lead) (shuffle_form p.generators y.lead) u first second) (sym (form_back p n t v)) mult);
        }

    -- each small common multiple has an entry where each shuffle tree with two places that is one has an entry
    pub every_row_by_forms : (rows : List RowEntry)
        → ((i j : ℕ) (x y : ElemEntry C) → nth elems i ≡ Some x → nth elems j ≡ Some y → i ≤ j → (n : ℕ) → n ≤ N → (t : Tree ℕ) (first second : List ℕ)
        → IsMultiple n (shuffle_form p.generators x.lead) (shuffle_form p.generators y.lead) t first second → (r : RowEntry) × Mem r rows × (r.at ≡ named i j t first second))
        → HasEveryRow p.generators N elems rows
    every_row_by_forms rows every m h =
        subst (λ t. (r : RowEntry) × Mem r rows × (r.at ≡ record { one = m.one; other = m.other; tree = t; first = m.first; second = m.second })) (spelled_back p m.tree h.spelled)
        (every m.one m.other h.one h.other h.one_named h.other_named h.in_order (leaf_count m.tree) h.few (shuffle_form p.generators m.tree) m.first m.second h.multiple)
