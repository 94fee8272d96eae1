-- The rules of the text for `basis` are those of each list that is the reduced basis.
use Rattle.std.proofs.Common.{◌≡◌, ℕ, zero, suc, ◌+◌, ◌-◌, ◌<◌, ◌≤◌, List, [], ◌∷◌, map, refl, sym, ◌∙◌, ap, arith, subst}
use mathlib.Core.List.{◌++◌}
use Rattle.std.specs.List.{AllByRecursion}
use Rattle.std.specs.declared.cmp.Ordering.TheVariants.{Less}
use Rattle.modular_sums.specs.Lists.{Mem}
use Rattle.modular_sums.specs.Sums.{scale, moved}
use Rattle.modular_sums.proofs.Differences.{same_gone}
use Rattle.modular_sums.proofs.Lists.{mem_map, mem_of_map}
use Rattle.labelled_trees.specs.Trees.{Tree}
use Rattle.labelled_trees.specs.Equality.{tree_discrete}
use Rattle.operad_ideals.proofs.Ideals.{ideal_zero, ideal-same}
use Rattle.shuffle_bases.specs.Elements.{Element}
use Rattle.shuffle_transfer.specs.Labels.{symmetric_tree}
use Rattle.shuffle_completion.specs.ReducedBases.{IsMinimal, IsReducedBasis, IsReducedElement}
use Rattle.shuffle_completion.proofs.Laws.{complete_is_reduced, normal_sums_decide}
use Rattle.shuffle_completion.proofs.Passing.{sorted_back}
use Rattle.shuffle_completion.proofs.Existence.{complete_through}
use Rattle.operad_ideals.specs.SpellingOrder.{order}
use Rattle.operad_ideals.specs.Pairs.{Pairs}
use Rattle.operad_answers.specs.OrderedPresentations.{OrderedPresentation, presentation, comparison, IsWellFormed}
use Rattle.operad_answers.specs.Parts.{AreParts}
use Rattle.operad_answers.specs.Texts.{Sum, IsForm, IsBasisPart, IsBasisText, IsPrintedRule, IsRulePart, IsTextOfReducedBasis}
use Rattle.operad_ideals.proofs.TreeLists.{Ascending, each_member}
use Rattle.operad_answers.proofs.WellFormed.{well_formed_over_field, order_in}
use Rattle.shuffle_transfer.specs.NormalTrees.{IsNormalSum}
use Rattle.operad_answers.proofs.Forms.{form_reduced}

abbrev Rule : Type 0
Rule = Tree ℕ × Sum

rule_before : (t : Tree ℕ) (l : List Rule) → AllByRecursion (λ u. order t u ≡ Less) (map (λ r. r.0) l) → AllByRecursion (λ s. order t s.0 ≡ Less) l
rule_before t [] h = tt
rule_before t (r ∷ l) h = (h.0, rule_before t l h.1)

rules_ascending : (l : List Rule) → Ascending (map (λ r. r.0) l) → Pairs (λ r s. order r.0 s.0 ≡ Less) l
rules_ascending [] h = tt
rules_ascending (r ∷ l) h = (rule_before r.0 l h.0, rules_ascending l h.1)

parts_within : (IsPart IsOther : ℕ → List ℕ → Type 0) (first most : ℕ) → ((n : ℕ) (text : List ℕ) → first ≤ n → n < most → IsPart n text → IsOther n text)
    → (k : ℕ) → first + k ≤ most → (text : List ℕ) → AreParts IsPart first k text → AreParts IsOther first k text
parts_within IsPart IsOther first most f zero le text h = h
parts_within IsPart IsOther first most f (suc k) le text h =
    (h.0, h.1, parts_within IsPart IsOther first most f k (omega (arith, le)) h.0 h.2, f (first + k) h.1 (omega arith) (omega (arith, le)) h.3, h.4)

module _ (o : OrderedPresentation) (well_formed : IsWellFormed o) (N : ℕ) (elements : List Element) (basis : IsReducedBasis (presentation o) (comparison o) elements N) where
  abbrev S : Tree ℕ → Tree ℕ
  S = symmetric_tree (presentation o).generators

  abbrev q : ℕ
  q = o.field - 1

  -- a rule with the tree of an element is that of the element: a tree has one normal form
  rule_is : (n : ℕ) (r : Rule) (g : Element) → Mem g elements → g.arity ≡ n → r.0 ≡ S g.lead → IsForm o n ((1, r.0) ∷ []) r.1 → IsPrintedRule o g r
  rule_is n r g m arity tree form =
      let e : IsReducedElement (presentation o) (comparison o) g = (basis.each g m).2 in
      let own : IsNormalSum (presentation o) (comparison o) n ((1, r.0) ∷ []) (scale q (moved S g.tail))
      = subst (λ t. IsNormalSum (presentation o) (comparison o) n ((1, t) ∷ []) (scale q (moved S g.tail))) (sym tree)
      (subst (λ k. IsNormalSum (presentation o) (comparison o) k ((1, S g.lead) ∷ []) (scale q (moved S g.tail))) arity e.normal_form) in
      record {
        tree_is = tree;
        tail_is = (normal_sums_decide (presentation o) well_formed.sound (comparison o) (order_in o) n ((1, r.0) ∷ []) ((1, r.0) ∷ []) r.1 (scale q (moved S g.tail)) form.as_sum own).0
            (ideal-same (presentation o) n (((1, r.0) ∷ []) ++ scale q ((1, r.0) ∷ [])) [] (same_gone tree_discrete q ((1, r.0) ∷ [])) (ideal_zero (presentation o) n));
        reduced = form_reduced o well_formed n ((1, r.0) ∷ []) r.1 form;
      }

  rule_part : (n : ℕ) (text : List ℕ) → 2 ≤ n → n ≤ N → IsBasisPart o n text → IsRulePart o elements n text
  rule_part n text two most h = record { rules = h.rules; ascending = rules_ascending h.rules h.are_minimal.ascending; each = each; all = all; text_is = h.text_is }
    where
      form_of : (r : Rule) → Mem r h.rules → IsForm o n ((1, r.0) ∷ []) r.1
      form_of r m = each_member (λ s. IsForm o n ((1, s.0) ∷ []) s.1) h.rules r h.forms m

      each : (r : Rule) → Mem r h.rules → (g : Element) × Mem g elements × (g.arity ≡ n) × IsPrintedRule o g r
      each r m =
          let k : IsMinimal (presentation o) (comparison o) n r.0 = (h.are_minimal.all r.0).0 (mem_map (λ (s : Rule). s.0) r h.rules m) in
          let g = basis.all n two most r.0 k in
          let tree : r.0 ≡ S (g.0).lead = sym (ap S g.3 ∙ sorted_back (presentation o) n r.0 k.leads.leads.labelled k.leads.leads.sorted) in
          (g.0, g.1, g.2, rule_is n r g.0 g.1 g.2 tree (form_of r m))

      all : (g : Element) → Mem g elements → g.arity ≡ n → (r : Rule) × Mem r h.rules × IsPrintedRule o g r
      all g m arity =
          let k : IsMinimal (presentation o) (comparison o) n (S g.lead) = subst (λ j. IsMinimal (presentation o) (comparison o) j (S g.lead)) arity (basis.each g m).2.minimal in
          let r = mem_of_map (λ (s : Rule). s.0) (S g.lead) h.rules ((h.are_minimal.all (S g.lead)).1 k) in
          (r.0, r.1, rule_is n r.0 g m arity (sym r.2) (form_of r.0 r.1))

  -- the parts go up to arity N
  pub rule_parts : (text : List ℕ) → IsBasisText o N text → AreParts (IsRulePart o elements) 2 (N - 1) text
  rule_parts text h = go N refl h
    where
      go : (m : ℕ) → m ≡ N → AreParts (IsBasisPart o) 2 (m - 1) text → AreParts (IsRulePart o elements) 2 (m - 1) text
      go zero e k = k
      go (suc m) e k =
          let last : suc m - 1 ≡ m = omega arith in
          subst (λ j. AreParts (IsRulePart o elements) 2 j text) (sym last)
          (parts_within (IsBasisPart o) (IsRulePart o elements) 2 (2 + m) (λ n part two below. rule_part n part two (omega (arith, below, e))) m (omega arith) text
          (subst (λ j. AreParts (IsBasisPart o) 2 j text) last k))

pub reduced_rules : (o : OrderedPresentation) → IsWellFormed o → (N : ℕ) (text : List ℕ) → IsBasisText o N text → IsTextOfReducedBasis o N text
reduced_rules o well_formed N text h =
    let field = well_formed_over_field o well_formed in
    let c = complete_through (presentation o) field (comparison o) (order_in o) N in
    record {
      basis = c.0;
      is_basis = complete_is_reduced (presentation o) field.sound field.wide field.not_zero (comparison o) (order_in o) c.0 N c.1;
      printed = λ elements basis. rule_parts o well_formed N elements basis text h;
    }
