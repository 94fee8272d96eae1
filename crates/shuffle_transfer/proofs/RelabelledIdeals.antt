-- The ideal is kept by relabelling.
use Rattle.std.proofs.Common.{◌≡◌, ℕ, zero, suc, ◌<◌, ◌≤◌, List, [], ◌∷◌, map, length, refl, sym, ◌∙◌, ap, arith, subst}
use Rattle.std.specs.Prelude.{flat_map}
use mathlib.Core.Path.{ap₂}
use mathlib.Core.List.{◌++◌}
use native.Mathlib.Decide.{ℕ_discrete, dec_lt}
use Rattle.modular_sums.specs.Sums.{scale, Same, moved, AllTerms}
use Rattle.modular_sums.proofs.Lists.{mem_of_map}
use Rattle.modular_sums.proofs.Images.{moved-append, moved-moved, moved_ext, moved_eq, moved-scale, Same-moved}
use Rattle.labelled_trees.specs.Trees.{Tree, leaf, graft}
use Rattle.labelled_trees.specs.Leaves.{one_if, occurs}
use Rattle.labelled_trees.specs.Equality.{tree_discrete}
use Rattle.labelled_trees.specs.Labelled.{IsLabelled}
use Rattle.labelled_trees.specs.Insertions.{at_zero, item}
use Rattle.labelled_trees.proofs.Leaves.{sum_leaves-same, AllLeaves-each, by_leaf}
use Rattle.labelled_trees.proofs.Grafts.{graft_assoc}
use Rattle.labelled_trees.proofs.GraftLeaves.{sum_leaves-graft, graft_ext}
use Rattle.operad_ideals.specs.Presentations.{Presentation, arity_of}
use Rattle.operad_ideals.specs.Rules.{rule_terms}
use Rattle.operad_ideals.specs.Ideals.{placed, Instance, element, InIdeal}
use Rattle.shuffle_transfer.specs.Orderings.{IsOrdering, entry}
use Rattle.shuffle_transfer.specs.Transfer.{relabelled}
use Rattle.shuffle_transfer.proofs.Orderings.{entry_within}
use Rattle.shuffle_transfer.proofs.TransferLaw.{labelled-relabelled}
use Rattle.shuffle_transfer.specs.RelabelledIdeals.{IdealIsRelabelled}
use Rattle.modular_sums.specs.Lists.{choose}

pub entry_zero : (v : List ℕ) → entry v 0 ≡ 0
entry_zero [] = refl
entry_zero (x ∷ v) = refl

-- a labelled tree, relabelled by two functions that agree on 1 to n
pub relabelled_ext : (arity : ℕ → ℕ) (n : ℕ) (f g : ℕ → ℕ) → ((i : ℕ) → 0 < i → i ≤ n → f i ≡ g i) → (t : Tree ℕ) → IsLabelled arity n t → graft t (λ i. leaf (f i)) ≡ graft t (λ i. leaf (g i))
relabelled_ext arity n f g e t h = graft_ext t (λ i. leaf (f i)) (λ i. leaf (g i)) (by_leaf t (λ i. leaf (f i) ≡ leaf (g i)) (λ i o. let r = h.only i o in let k = e i r.0 r.1 in cc))

abbrev acted : List ℕ → Tree ℕ → Tree ℕ
acted w t = graft t (λ i. leaf (entry w i))

-- ---- a change of the leaves that moves no other leaf to 0 than 0

module _ (s : ℕ → ℕ) (stays : s 0 ≡ 0) (others : (i : ℕ) → 0 < i → 0 < s i) where
  abbrev R : Tree ℕ → Tree ℕ
  R t = graft t (λ i. leaf (s i))

  same_zero : (i : ℕ) → one_if (ℕ_discrete (s i) 0) ≡ one_if (ℕ_discrete i 0)
  same_zero i = go (ℕ_discrete (s i) 0) (ℕ_discrete i 0)
    where
      go : (d : Dec (s i ≡ 0)) (e : Dec (i ≡ 0)) → one_if d ≡ one_if e
      go (yes a) (yes b) = refl
      go (yes a) (no b) = absurd (let k : 0 < s i = others i (omega (arith, b)) in omega (arith, a, k))
      go (no a) (yes b) = absurd (a (ap s b ∙ stays))
      go (no a) (no b) = refl

  pub zeros_stay : (t : Tree ℕ) → occurs 0 (R t) ≡ occurs 0 t
  zeros_stay t = sum_leaves-graft t (λ i. leaf (s i)) (λ i. one_if (ℕ_discrete i 0))
      ∙ sum_leaves-same t (λ i. one_if (ℕ_discrete (s i) 0)) (λ i. one_if (ℕ_discrete i 0)) (AllLeaves-each t (λ i. one_if (ℕ_discrete (s i) 0) ≡ one_if (ℕ_discrete i 0)) same_zero)

  item_moved : (l : List (Tree ℕ)) (i : ℕ) → item (map R l) i ≡ R (item l i)
  item_moved [] i = ap leaf (sym stays)
  item_moved (t ∷ l) zero = ap leaf (sym stays)
  item_moved (t ∷ l) (suc zero) = refl
  item_moved (t ∷ l) (suc (suc i)) = item_moved l (suc i)

  at_positive : (y : Tree ℕ) (i : ℕ) → 0 < i → at_zero y i ≡ leaf i
  at_positive y zero p = absurd (omega (arith, p))
  at_positive y (suc i) p = refl

  at_moved : (y z : Tree ℕ) → y ≡ R z → (i : ℕ) → at_zero y (s i) ≡ R (at_zero z i)
  at_moved y z e zero = ap (at_zero y) stays ∙ e
  at_moved y z e (suc i) = at_positive y (s (suc i)) (others (suc i) (omega arith))

  -- what is placed, with its context and its inputs changed
  pub placed_moved : (context : Tree ℕ) (inputs : List (Tree ℕ)) (x : Tree ℕ) → placed (R context) (map R inputs) x ≡ R (placed context inputs x)
  placed_moved context inputs x =
      let y : Tree ℕ = graft x (item (map R inputs)) in
      let z : Tree ℕ = graft x (item inputs) in
      let e : y ≡ R z
      = graft_ext x (item (map R inputs)) (λ i. R (item inputs i)) (AllLeaves-each x (λ i. item (map R inputs) i ≡ R (item inputs i)) (item_moved inputs))
      ∙ sym (graft_assoc x (item inputs) (λ i. leaf (s i))) in
      graft_assoc context (λ i. leaf (s i)) (at_zero y)
      ∙ graft_ext context (λ i. at_zero y (s i)) (λ i. R (at_zero z i)) (AllLeaves-each context (λ i. at_zero y (s i) ≡ R (at_zero z i)) (at_moved y z e))
      ∙ sym (graft_assoc context (at_zero z) (λ i. leaf (s i)))

-- ---- instances

length-map : {A B : Type 0} (f : A → B) (l : List A) → length (map f l) ≡ length l
length-map f [] = refl
length-map f (x ∷ l) = ap suc (length-map f l)

module _ (p : Presentation) (n : ℕ) (w : List ℕ) (o : IsOrdering n w) where
  abbrev Labelled : Tree ℕ → Type 0
  Labelled = IsLabelled (arity_of p) n

  -- the permutation on 1 to n, and the identity elsewhere
  moves : ℕ → ℕ
  moves i = choose (dec_lt n i) i (entry w i)

  moves_within : (i : ℕ) → 0 < i → i ≤ n → moves i ≡ entry w i
  unfolding moves
  moves_within i low high = go (dec_lt n i)
    where
      go : (d : Dec (n < i)) → choose d i (entry w i) ≡ entry w i
      go (yes h) = absurd (omega (arith, h, high))
      go (no h) = refl

  moves_zero : moves 0 ≡ 0
  unfolding moves
  moves_zero = go (dec_lt n 0)
    where
      go : (d : Dec (n < 0)) → choose d 0 (entry w 0) ≡ 0
      go (yes h) = refl
      go (no h) = entry_zero w

  moves_others : (i : ℕ) → 0 < i → 0 < moves i
  unfolding moves
  moves_others i low = go (dec_lt n i)
    where
      go : (d : Dec (n < i)) → 0 < choose d i (entry w i)
      go (yes h) = low
      go (no h) = (entry_within n w o i low (omega (arith, h))).0

  abbrev C : Tree ℕ → Tree ℕ
  C t = graft t (λ i. leaf (moves i))

  changed_terms : (e : List (ℕ × Tree ℕ)) → AllTerms e Labelled → moved C e ≡ relabelled w e
  changed_terms e h = moved_eq C (acted w) Labelled e h (λ t k. relabelled_ext (arity_of p) n moves (entry w) moves_within t k)

  module _ (i : Instance p n) where
    abbrev terms : List (ℕ × Tree ℕ)
    terms = moved (placed i.context i.inputs) (rule_terms p i.rule)

    same_terms : moved (placed (C i.context) (map C i.inputs)) (rule_terms p i.rule) ≡ relabelled w terms
    same_terms =
        moved_ext (placed (C i.context) (map C i.inputs)) (λ x. C (placed i.context i.inputs x)) (rule_terms p i.rule) (placed_moved moves moves_zero moves_others i.context i.inputs)
        ∙ sym (moved-moved (placed i.context i.inputs) C (rule_terms p i.rule)) ∙ changed_terms terms i.labelled

    -- the instance, with its context and its inputs relabelled
    changed : Instance p n
    changed = record {
      residue = i.residue;
      context = C i.context;
      rule = i.rule;
      inputs = map C i.inputs;
      is_context = zeros_stay moves moves_zero moves_others i.context ∙ i.is_context;
      as_many = length-map C i.inputs ∙ i.as_many;
      no_zero = λ t m. let k = mem_of_map C t i.inputs m in ap (occurs 0) k.2 ∙ zeros_stay moves moves_zero moves_others k.0 ∙ i.no_zero k.0 k.1;
      labelled = subst (λ e. AllTerms e Labelled) (sym same_terms) (labelled-relabelled (arity_of p) n w o terms i.labelled);
    }

    changed_element : element p n changed ≡ relabelled w (element p n i)
    unfolding changed
    changed_element = ap (scale i.residue) same_terms ∙ sym (moved-scale (acted w) i.residue terms)

  changed_elements : (l : List (Instance p n)) → relabelled w (flat_map (element p n) l) ≡ flat_map (element p n) (map changed l)
  changed_elements [] = refl
  changed_elements (i ∷ l) = moved-append (acted w) (element p n i) (flat_map (element p n) l) ∙ ap₂ (λ d e. d ++ e) (sym (changed_element i)) (changed_elements l)

  pub ideal-relabelled : (e : List (ℕ × Tree ℕ)) → InIdeal p n e → InIdeal p n (relabelled w e)
  ideal-relabelled e h = record {
    instances = map changed h.instances;
    adds_up = subst (Same tree_discrete p.q (relabelled w e)) (changed_elements h.instances)
        (Same-moved tree_discrete tree_discrete p.q (acted w) e (flat_map (element p n) h.instances) h.adds_up);
  }

pub ideal_is_relabelled : IdealIsRelabelled
ideal_is_relabelled = ideal-relabelled
