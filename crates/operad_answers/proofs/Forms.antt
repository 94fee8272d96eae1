-- Normal forms that are collected: there is one, and they decide the ideal.
use Rattle.std.proofs.Common.{◌≡◌, ◌↔◌, ℕ, zero, suc, ◌-◌, ◌<◌, ◌≤◌, ◌^◌, List, [], ◌∷◌, sym, ◌∙◌, ap, arith, subst}
use mathlib.Core.List.{◌++◌}
use Rattle.std.specs.List.{All}
use Rattle.modular_sums.specs.Sums.{scale, Same, AllTerms}
use Rattle.modular_sums.proofs.Differences.{same_gone}
use Rattle.modular_sums.proofs.Images.{AllTerms-imp}
use Rattle.labelled_trees.specs.Trees.{Tree}
use Rattle.labelled_trees.specs.Leaves.{AllLeaves}
use Rattle.labelled_trees.specs.Equality.{tree_discrete}
use Rattle.labelled_trees.proofs.Leaves.{by_leaf}
use Rattle.shuffle_reductions.specs.Chains.{StandsIn}
use Rattle.shuffle_reductions.proofs.Standing.{has_all, has_same}
use Rattle.operad_ideals.specs.Presentations.{Presentation}
use Rattle.operad_ideals.specs.Ideals.{InIdeal}
use Rattle.operad_ideals.proofs.Ideals.{ideal_zero, ideal-same}
use Rattle.shuffle_transfer.specs.NormalTrees.{IsNormalTree, IsNormalSum}
use Rattle.shuffle_transfer.proofs.NormalForms.{rest_same}
use Rattle.shuffle_completion.proofs.Laws.{normal_forms_decide}
use Rattle.shuffle_completion.proofs.Existence.{some_form}
use Rattle.symmetric_trees.specs.Generators.{parts_at}
use Rattle.symmetric_trees.specs.Trees.{IsLabelled}
use Rattle.operad_ideals.specs.Collected.{IsReduced}
use Rattle.symmetric_sums.proofs.Expansions.{one_label}
use Rattle.presentation_text.specs.SumText.{IsPrintable, sum_text}
use Rattle.presentation_text.proofs.PrintedSums.{read_back}
use Rattle.operad_answers.specs.OrderedPresentations.{OrderedPresentation, presentation, comparison, IsWellFormed}
use Rattle.operad_answers.specs.Texts.{Sum, IsForm, IsAnswer}
use Rattle.operad_answers.proofs.Collected.{reduced_stands}
use Rattle.operad_answers.proofs.WellFormed.{well_formed_over_field, order_in, prime_above}

module _ (o : OrderedPresentation) (well_formed : IsWellFormed o) where
  abbrev p : Presentation
  p = presentation o

  pub whole : suc (o.field - 1) ≡ o.field
  whole = let above = prime_above o.field well_formed.prime in omega (arith, above)

  positive : 0 < o.field
  positive = let above = prime_above o.field well_formed.prime in omega (arith, above)

  -- the numbers of a normal form are residues modulo the prime
  pub form_reduced : (n : ℕ) (e f : Sum) → IsForm o n e f → IsReduced o.field (parts_at o.generators) f
  form_reduced n e f h = subst (λ m. IsReduced m (parts_at o.generators) f) whole h.collected

  nothing_reduced : IsReduced (suc (o.field - 1)) (parts_at o.generators) []
  nothing_reduced = record { sorted = λ k d l. absurd (omega (arith, l)); ascending = λ i j d l w. absurd (omega (arith, w)); residues = λ k d l. absurd (omega (arith, l)) }

  -- zero is its own normal form, in each arity
  pub zero_form : (n : ℕ) → IsForm o n [] []
  zero_form n = record { as_sum = record { normal = tt; rest = ideal-same (presentation o) n ([] ++ scale (presentation o).q []) [] (same_gone tree_discrete (presentation o).q []) (ideal_zero (presentation o) n) }; collected = nothing_reduced }

  pub decided : (n : ℕ) (d e f g : Sum) → IsForm o n d f → IsForm o n e g → InIdeal (presentation o) n (d ++ scale (presentation o).q e) ↔ (f ≡ g)
  decided = normal_forms_decide (presentation o) well_formed.sound (comparison o) (order_in o)

  pub one_form : (n : ℕ) (e f g : Sum) → IsForm o n e f → IsForm o n e g → f ≡ g
  one_form n e f g a b = (decided n e e f g a b).0 (ideal-same (presentation o) n (e ++ scale (presentation o).q e) [] (same_gone tree_discrete (presentation o).q e) (ideal_zero (presentation o) n))

  -- a normal form in one arity is one in each arity that the element has
  pub form_at : (m n : ℕ) (e f : Sum) → AllTerms e (IsLabelled o.generators m) → AllTerms e (IsLabelled o.generators n) → IsForm o m e f → IsForm o n e f
  form_at m n [] f a b h = subst (IsForm o n []) (one_form m [] [] f (zero_form m) h) (zero_form n)
  form_at m n (x ∷ e) f a b h = subst (λ k. IsForm o k (x ∷ e) f) (one_label o.generators m n x.1 a.0 b.0) h

  -- ---- normal forms are labelled, and may be printed

  pub form_labelled : (n : ℕ) (e f : Sum) → IsForm o n e f → AllTerms f (IsLabelled o.generators n)
  form_labelled n e f h = AllTerms-imp (IsNormalTree (presentation o) (comparison o) n) (IsLabelled o.generators n) f (λ t k. k.labelled) h.as_sum.normal

  small_leaves : (n : ℕ) (t : Tree ℕ) → n ≤ 9 → IsLabelled o.generators n t → AllLeaves t (λ i. (0 < i) × (i < 10 ^ 18))
  small_leaves n t few h = by_leaf t (λ i. (0 < i) × (i < 10 ^ 18)) (λ i k. let w = h.only i k in (w.0, omega (arith, w.1, few)))

  printable : (n : ℕ) (f : Sum) → n ≤ 9 → All (λ x. (0 < x.0) × (x.0 < o.field)) f → AllTerms f (IsLabelled o.generators n) → IsPrintable o.field o.generators f
  printable n [] few r h k d l = absurd (omega (arith, l))
  printable n (x ∷ f) few r h zero d l = let one = r 0 x (omega arith) in (one.0, one.1, h.0.fits, small_leaves n x.1 few h.0)
  printable n (x ∷ f) few r h (suc k) d l = printable n f few (λ j c s. r (suc j) c (omega (arith, s))) h.1 k d (omega (arith, l))

  pub form_printable : (n : ℕ) (e f : Sum) → n ≤ 9 → IsForm o n e f → IsPrintable o.field o.generators f
  form_printable n e f few h = printable n f few (form_reduced n e f h).residues (form_labelled n e f h)

  -- ---- answers

  pub one_answer : (e : Sum) (answer other : List ℕ) → IsAnswer o e answer → IsAnswer o e other → answer ≡ other
  one_answer e answer other a b =
      let same : a.form ≡ b.form = one_form a.arity e a.form b.form a.is_form (form_at b.arity a.arity e b.form b.labelled a.labelled b.is_form) in
      a.answer_is ∙ ap (sum_text o.field o.generators) same ∙ sym b.answer_is

  pub decide : (n : ℕ) → n ≤ 9 → (d e : Sum) → AllTerms d (IsLabelled o.generators n) → AllTerms e (IsLabelled o.generators n)
      → (answer other : List ℕ) → IsAnswer o d answer → IsAnswer o e other → (answer ≡ other) ↔ InIdeal (presentation o) n (d ++ scale (presentation o).q e)
  decide n few d e ld le answer other a b = (
    λ same. law.1 (apart (sym a.answer_is ∙ same ∙ b.answer_is)),
    λ m. a.answer_is ∙ ap (sum_text o.field o.generators) (law.0 m) ∙ sym b.answer_is,
  )
    where
      one : IsForm o n d a.form
      one = form_at a.arity n d a.form a.labelled ld a.is_form

      two : IsForm o n e b.form
      two = form_at b.arity n e b.form b.labelled le b.is_form

      law : InIdeal (presentation o) n (d ++ scale (presentation o).q e) ↔ (a.form ≡ b.form)
      law = decided n d e a.form b.form one two

      apart : sum_text o.field o.generators a.form ≡ sum_text o.field o.generators b.form → a.form ≡ b.form
      apart = (read_back o.field o.generators well_formed.prime well_formed.table well_formed.words).apart a.form b.form
          (form_printable n d a.form few one) (form_printable n e b.form few two)

  -- ---- normal forms that are the same, and reduced

  pub form_of_same : (n : ℕ) (e f h : Sum) → IsNormalSum (presentation o) (comparison o) n e f → Same tree_discrete (presentation o).q h f → IsReduced o.field (parts_at o.generators) h → IsForm o n e h
  form_of_same n e f h a same r = record {
    as_sum = record {
      normal = AllTerms-imp (StandsIn (presentation o).q h) (IsNormalTree (presentation o) (comparison o) n) h
          (λ t k. has_all tree_discrete (presentation o).q (IsNormalTree (presentation o) (comparison o) n) f a.normal t (has_same tree_discrete (presentation o).q h f same t k))
          (reduced_stands o.field (parts_at o.generators) h positive r);
      rest = rest_same (presentation o) n e f h same a.rest;
    };
    collected = subst (λ m. IsReduced m (parts_at o.generators) h) (sym whole) r;
  }

  -- each element has one
  pub has_form : (n : ℕ) (e : Sum) → AllTerms e (IsLabelled o.generators n) → (f : Sum) × IsForm o n e f
  has_form n e v = some_form (presentation o) (well_formed_over_field o well_formed) (comparison o) (order_in o) n e v
