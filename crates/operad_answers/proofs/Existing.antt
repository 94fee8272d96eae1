-- The texts exist, and normal listings are bases of the quotient by the ideal.
use Rattle.std.proofs.Common.{◌≡◌, ℕ, zero, suc, ◌+◌, ◌-◌, ◌≤◌, List, [], ◌∷◌, map, refl, sym, ap, arith, subst, inl, inr}
use mathlib.Core.List.{◌++◌}
use Rattle.std.specs.List.{AllByRecursion, flat_map}
use Rattle.modular_sums.specs.Lists.{Mem}
use Rattle.modular_sums.specs.Sums.{AllTerms}
use Rattle.labelled_trees.specs.Trees.{Tree}
use Rattle.operad_ideals.specs.Presentations.{parts}
use Rattle.operad_ideals.specs.Spelling.{IsSorted}
use Rattle.shuffle_transfer.specs.NormalTrees.{IsNormalTree}
use Rattle.shuffle_completion.specs.ReducedBases.{IsMinimal}
use Rattle.shuffle_completion.specs.Existence.{IsOverField}
use Rattle.shuffle_completion.proofs.Existence.{normal_trees, independent, spanning}
use Rattle.shuffle_completion.proofs.Minimal.{minimal_trees}
use Rattle.symmetric_trees.specs.Trees.{IsLabelled}
use Rattle.presentation_text.specs.LineReadings.{Asked}
use Rattle.presentation_text.specs.SumText.{sum_text}
use Rattle.presentation_text.specs.TreeText.{tree_text}
use Rattle.operad_answers.specs.OrderedPresentations.{OrderedPresentation, presentation, comparison, IsWellFormed}
use Rattle.operad_answers.specs.Parts.{line, part_text, AreParts, ListsInOrder}
use Rattle.operad_answers.specs.Texts.{Sum, EachWith, queries, IsNormalPart, IsBasisPart, IsBasisOfQuotient, IsForm, IsAnswer, IsFormsText, IsNormalText, rule_text}
use Rattle.operad_answers.specs.Laws.{TextsExist, NormalTextsAreBases}
use Rattle.operad_ideals.proofs.TreeLists.{sorted, all_members}
use Rattle.operad_answers.proofs.Ordered.{in_order, those_of_order}
use Rattle.operad_answers.proofs.Forms.{has_form}
use Rattle.operad_answers.proofs.WellFormed.{well_formed_over_field, order_in}

-- ---- parts

pub parts_exist : (IsPart : ℕ → List ℕ → Type 0) (first : ℕ) → ((n : ℕ) → first ≤ n → (text : List ℕ) × IsPart n text) → (k : ℕ) → (text : List ℕ) × AreParts IsPart first k text
parts_exist IsPart first part zero = ([], refl)
parts_exist IsPart first part (suc k) =
    let front = parts_exist IsPart first part k in
    let last = part (first + k) (omega arith) in
    (front.0 ++ last.0, (front.0, last.0, front.1, last.1, refl))

pub parts_are : (IsPart IsOther : ℕ → List ℕ → Type 0) → ((n : ℕ) (text : List ℕ) → IsPart n text → IsOther n text) → (first k : ℕ) (text : List ℕ) → AreParts IsPart first k text → AreParts IsOther first k text
parts_are IsPart IsOther f first zero text h = h
parts_are IsPart IsOther f first (suc k) text h = (h.0, h.1, parts_are IsPart IsOther f first k h.0 h.2, f (first + k) h.1 h.3, h.4)

module _ (o : OrderedPresentation) (well_formed : IsWellFormed o) where
  pub field : IsOverField (presentation o)
  field = well_formed_over_field o well_formed

  -- ---- normal trees

  normal_part : (n : ℕ) → (text : List ℕ) × IsNormalPart o n text
  normal_part n =
      let l = normal_trees (presentation o) field (comparison o) (order_in o) n in
      (part_text n (tree_text o.generators) (sorted l.0), record { trees = sorted l.0; are_normal = in_order (IsNormalTree (presentation o) (comparison o) n) l.0 l.1; text_is = refl })

  unfoldable pub basis_of : (n : ℕ) (text : List ℕ) → IsNormalPart o n text → IsBasisOfQuotient o n text
  basis_of n text h =
      let those = those_of_order (IsNormalTree (presentation o) (comparison o) n) h.trees h.are_normal in
      record {
        trees = h.trees;
        sorted = all_members (IsSorted (parts (presentation o))) h.trees (λ t m. ((h.are_normal.all t).0 m).sorted);
        ascending = h.are_normal.ascending;
        independent = independent (presentation o) field (comparison o) (order_in o) n h.trees those;
        spanning = spanning (presentation o) field (comparison o) (order_in o) n h.trees those;
        text_is = h.text_is;
      }

  pub are_bases : (N : ℕ) (text : List ℕ) → IsNormalText o N text → AreParts (IsBasisOfQuotient o) 1 N text
  are_bases N text h = parts_are (IsNormalPart o) (IsBasisOfQuotient o) basis_of 1 N text h

  -- ---- the reduced basis

  abbrev Rule : Type 0
  Rule = Tree ℕ × Sum

  record Rules (n : ℕ) (l : List (Tree ℕ)) : Type 0 where
    rules : List Rule
    trees : map (λ rule. rule.0) rules ≡ l
    forms : AllByRecursion (λ rule. IsForm o n ((1, rule.0) ∷ []) rule.1) rules

  rules_of : (n : ℕ) (l : List (Tree ℕ)) → ((t : Tree ℕ) → Mem t l → IsLabelled o.generators n t) → Rules n l
  rules_of n [] h = record { rules = []; trees = refl; forms = tt }
  rules_of n (t ∷ l) h =
      let f = has_form o well_formed n ((1, t) ∷ []) (h t (inl refl), tt) in
      let rest = rules_of n l (λ u m. h u (inr m)) in
      record { rules = (t, f.0) ∷ rest.rules; trees = ap (λ k. t ∷ k) rest.trees; forms = (f.1, rest.forms) }

  basis_part : (n : ℕ) → 2 ≤ n → (text : List ℕ) × IsBasisPart o n text
  basis_part n two =
      let l = minimal_trees (presentation o) field (comparison o) (order_in o) n two in
      let listing = in_order (IsMinimal (presentation o) (comparison o) n) l.0 l.1 in
      let r = rules_of n (sorted l.0) (λ t m. ((listing.all t).0 m).leads.leads.labelled) in (
        part_text n (rule_text o) r.rules,
        record {
          rules = r.rules;
          are_minimal = subst (ListsInOrder (IsMinimal (presentation o) (comparison o) n)) (sym r.trees) listing;
          forms = r.forms;
          text_is = refl;
        },
      )

  -- ---- answers

  answer_to : (n : ℕ) (e : Sum) → AllTerms e (IsLabelled o.generators n) → (answer : List ℕ) × IsAnswer o e answer
  answer_to n e v =
      let f = has_form o well_formed n e v in
      (sum_text o.field o.generators f.0, record { arity = n; labelled = v; form = f.0; is_form = f.1; answer_is = refl })

  answers_to : (es : List Sum) → ((e : Sum) → Mem e es → (n : ℕ) × AllTerms e (IsLabelled o.generators n)) → (answers : List (List ℕ)) × EachWith (IsAnswer o) es answers
  answers_to [] h = ([], tt)
  answers_to (e ∷ es) h =
      let v = h e (inl refl) in
      let a = answer_to v.0 e v.1 in
      let rest = answers_to es (λ f m. h f (inr m)) in
      (a.0 ∷ rest.0, (a.1, rest.1))

  forms_text : (asks : List Asked) → ((e : Sum) → Mem e (queries asks) → (n : ℕ) × AllTerms e (IsLabelled o.generators n)) → (text : List ℕ) × IsFormsText o asks text
  forms_text asks h = let a = answers_to (queries asks) h in (flat_map line a.0, record { answers = a.0; are_answers = a.1; text_is = refl })

pub texts_exist : TextsExist
texts_exist o well_formed = record {
  normal = λ N. parts_exist (IsNormalPart o) 1 (λ n l. normal_part o well_formed n) N;
  basis = λ N. parts_exist (IsBasisPart o) 2 (basis_part o well_formed) (N - 1);
  answer = answer_to o well_formed;
  forms = forms_text o well_formed;
}

pub normal_texts_are_bases : NormalTextsAreBases
normal_texts_are_bases = are_bases
