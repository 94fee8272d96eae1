-- An example: over the document of the Jacobi relation a basis certificate holds through 4, with a block for its element.
use Rattle.std.proofs.Common.{◌≡◌, ◌↔◌, ℕ, ◌%◌, ◌≤◌, List, [], ◌∷◌, refl, sym, ◌∙◌, arith, subst, inl, inr}
use Rattle.std.specs.List.{All}
use Rattle.std.proofs.lemmas.List.Elements.{All-from_recursion}
use native.Mathlib.Decide.{ℕ_discrete}
use Rattle.modular_sums.specs.Lists.{Mem}
use Rattle.modular_sums.specs.Sums.{coef, Same, AllTerms}
use Rattle.modular_sums.proofs.Sameness.{same_if_agree}
use Rattle.labelled_trees.specs.Trees.{Tree}
use Rattle.labelled_trees.specs.Labelled.{IsLabelled}
use Rattle.labelled_trees.specs.Equality.{same_leaf, same_node, same_more, tree_discrete_by, row_discrete_by, tree_discrete}
use Rattle.shuffle_insertions.proofs.Examples.{t1, t3}
use Rattle.shuffle_bases.specs.Elements.{Element, AreMonic, terms}
use Rattle.shuffle_bases.proofs.Examples.{jacobi}
use Rattle.operad_ideals.specs.Presentations.{parts, arity_of}
use Rattle.operad_ideals.specs.SpelledSums.{spelled_sum}
use Rattle.shuffle_transfer.specs.Labels.{word_discrete, same_cons, letter_discrete, same_letter}
use Rattle.shuffle_transfer.specs.Transfer.{shuffled}
use Rattle.shuffle_transfer.specs.NormalTrees.{by_path, compare}
use Rattle.shuffle_transfer.specs.GroebnerBases.{setting}
use Rattle.shuffle_transfer.specs.NormalLaws.{NormalLaw}
use Rattle.shuffle_transfer.proofs.Jacobi.{lie, certified}
use Rattle.symmetric_trees.specs.Generators.{parts_at}
use Rattle.operad_ideals.specs.Collected.{IsCollected}
use Rattle.symmetric_sums.specs.Membership.{IsElement}
use Rattle.symmetric_sums.specs.Terms.{terms_of}
use Rattle.certificate_text.specs.declared.block.Step.{Step}
use Rattle.basis_certificates.specs.Certificates.{ElemEntry, Certificate}
use Rattle.basis_certificates.specs.Faults.{Cause}
use Rattle.basis_certificates.specs.Laws.{IsUndividedSpelling}
use Rattle.basis_certificates.specs.Writing.{IsElemOf, IsWritten}
use Rattle.basis_certificates.proofs.Collected.{same_forms}
use Rattle.basis_certificates.proofs.WrittenRows.{member_of}
use Rattle.basis_certificates.proofs.Writers.{has_certificate}
use Rattle.basis_certificates.proofs.Lie.{element_labelled}
use Rattle.operad_answers.specs.CertifiedDocuments.{BlockShows, HoldsOver, IsFaultOver, HasElementSteps}
use Rattle.operad_answers.specs.OrderedPresentations.{presentation, comparison, written, IsWellFormed}
use Rattle.operad_answers.specs.Texts.{Sum}
use Rattle.symmetric_sums.proofs.MadeSums.{program_terms, made_terms}
use Rattle.operad_answers.proofs.CertificateLaws.{held_certificates, one_fault, written_over}
use Rattle.operad_answers.proofs.WellFormed.{documents_well_formed}
use Rattle.operad_answers.proofs.LieTexts.{generators}
use Rattle.operad_answers.proofs.LieDocument.{lie_bytes, lie_document, lie_is_read, lie_is_written}
use Rattle.operad_answers.proofs.LieProof.{step_one, step_sum, element_is, step_reduced, Collects, collected_step, holds}

-- ---- it shows each element with the shuffle form of the Jacobi element

shuffled_step : Same tree_discrete 100 (shuffled lie step_sum) (terms jacobi)
unfolding word_discrete same_cons letter_discrete same_letter ℕ_discrete tree_discrete tree_discrete_by row_discrete_by same_leaf same_node same_more coef
shuffled_step = same_if_agree tree_discrete 100 (shuffled lie step_sum) (terms jacobi) refl

shows : (e : Sum) → AllTerms e (IsLabelled (arity_of lie) 3) → Same tree_discrete 100 (shuffled lie e) (terms jacobi) → BlockShows lie_document e (step_one ∷ [])
shows e h same = record {
  want = program_terms e;
  wants = made_terms e;
  holds = record {
    steps_hold = holds.steps_hold;
    wanted = (step_sum, subst Collects (sym (made_terms e)) wanted, subst Collects (sym element_is) collected_step.0);
  };
}
  where
    spelled : Same tree_discrete 100 (spelled_sum 100 (parts lie) step_sum) (spelled_sum 100 (parts lie) e)
    spelled = (same_forms lie 3 3 step_sum e element_labelled h).0 (λ t. shuffled_step t ∙ sym (same t))

    wanted : IsCollected 101 (parts_at generators) e step_sum
    wanted = record { reduced = step_reduced; same = λ t. collected_step.0.same t ∙ spelled t }

-- ---- the certificate

abbrev pub LieCertificate : Type 0
LieCertificate = (cert : Certificate (List Step)) × IsWritten lie (compare lie.generators by_path) (jacobi ∷ []) 4 cert
    × ((x : ElemEntry (List Step)) → Mem x cert.elems → (x.cofactors ≡ step_one ∷ []))

pub lie_certificate : LieCertificate
lie_certificate = let k = has_certificate (λ g. step_one ∷ []) lie (compare lie.generators by_path) (jacobi ∷ []) 4 certified in (k.0, k.1, λ x m. (k.2 x m).2)

one_shown : (x : ElemEntry (List Step)) → Mem x lie_certificate.0.elems → BlockShows lie_document x.element x.cofactors
one_shown x m =
    let k = member_of lie (jacobi ∷ []) lie_certificate.0.elems lie_certificate.1.elems x m in
    subst (BlockShows lie_document x.element) (sym (lie_certificate.2 x m)) (by k.0 k.1 k.2)
  where
    by : (g : Element) → Mem g (jacobi ∷ []) → IsElemOf lie g x → BlockShows lie_document x.element (step_one ∷ [])
    by g (inl e) h = let j = subst (λ y. IsElemOf lie y x) e h in shows x.element j.labelled j.element
    by g (inr n) h = absurd n

formed : IsWellFormed (written lie_document)
formed = documents_well_formed.1 lie_bytes lie_document lie_is_read

pub lie_holds : HoldsOver lie_document 4 lie_certificate.0
lie_holds = written_over lie_document formed (jacobi ∷ []) (subst (λ o. AreMonic (setting (presentation o) (comparison o) (jacobi ∷ []))) (sym (lie_is_written lie_document.asks)) certified.monic) ((λ m. m), tt) 4
    lie_certificate.0 (subst (λ o. IsWritten (presentation o) (comparison o) (jacobi ∷ []) 4 lie_certificate.0) (sym (lie_is_written lie_document.asks)) lie_certificate.1) one_shown

element_steps : HasElementSteps lie_document lie_certificate.0
element_steps x m = subst (λ (steps : List Step). All (λ (step : Step). IsElement generators (terms_of step.element)) steps) (sym (lie_certificate.2 x m))
    (All-from_recursion (λ (step : Step). IsElement generators (terms_of step.element)) (step_one ∷ []) (subst (IsElement generators) (sym element_is) element_labelled, tt))

-- so the sorted spellings that l(l(1,2),3) doesn't divide are the normal trees
pub lie_listed : (n : ℕ) → n ≤ 4 → (trees : List (Tree ℕ)) × ((t : Tree ℕ) → Mem t trees ↔ IsUndividedSpelling (presentation (written lie_document)).generators lie_certificate.0.elems n t)
    × NormalLaw (presentation (written lie_document)) (comparison (written lie_document)) n trees
lie_listed = (held_certificates lie_document formed 4 lie_certificate.0 element_steps lie_holds).1

-- and the certificate has no fault
pub lie_faultless : (k : ℕ) (cause : Cause) → IsFaultOver lie_document 4 lie_certificate.0 k cause → ⊥
lie_faultless k cause = (one_fault lie_document 4 lie_certificate.0).0 k cause lie_holds

-- ---- the same steps don't show another element, be it one or not of the ideal

coefs_at_t3 : (coef tree_discrete (spelled_sum 100 (parts lie) ((1, t1) ∷ [])) t3 % 101 ≡ 0) × (coef tree_discrete (spelled_sum 100 (parts lie) step_sum) t3 % 101 ≡ 100)
unfolding ℕ_discrete tree_discrete tree_discrete_by row_discrete_by same_leaf same_node same_more coef
coefs_at_t3 = (refl, refl)

pub other_unshown : BlockShows lie_document ((1, t1) ∷ []) (step_one ∷ []) → ⊥
other_unshown b =
    let w = b.holds.wanted in
    let one = subst (λ (e : Sum). IsCollected 101 (parts_at generators) e w.0) b.wants w.1 in
    let two = subst (λ (e : Sum). IsCollected 101 (parts_at generators) e w.0) element_is w.2 in
    let k : 0 ≡ 100 = sym coefs_at_t3.0 ∙ sym (one.same t3) ∙ two.same t3 ∙ coefs_at_t3.1 in
    absurd (omega (arith, k))
