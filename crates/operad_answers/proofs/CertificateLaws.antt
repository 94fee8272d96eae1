-- The laws of certificates over documents, proved.
use Rattle.std.proofs.Common.{◌≡◌, ℕ, ◌<◌, List, [], ◌∷◌, map, refl, sym, subst, arith, inl, inr, ◌⊎◌}
use Rattle.std.specs.List.{All, AllByRecursion}
use Rattle.std.proofs.lemmas.List.Elements.{All-from_recursion}
use Rattle.modular_sums.specs.Lists.{Mem}
use Rattle.modular_sums.specs.Sums.{AllTerms}
use Rattle.labelled_trees.specs.Labelled.{IsLabelled}
use Rattle.labelled_trees.proofs.Counts.{leaf_count-labelled}
use Rattle.operad_ideals.specs.Presentations.{Relation, Presentation, arity_of}
use Rattle.operad_ideals.specs.Ideals.{InIdeal}
use Rattle.operad_ideals.proofs.Ideals.{ideal_zero}
use Rattle.shuffle_completion.specs.Existence.{IsOverField}
use Rattle.symmetric_trees.specs.Trees.{IsLabelled as IsLabelledOver}
use Rattle.symmetric_trees.specs.declared.generators.Generator.{Generator}
use Rattle.symmetric_sums.specs.declared.term.Term.{Term}
use Rattle.symmetric_sums.specs.Terms.{terms_of}
use Rattle.symmetric_sums.specs.Instances.{element_arity}
use Rattle.symmetric_sums.specs.Membership.{relation_of, IsElement}
use Rattle.presentation_text.specs.declared.document.Document.{Document}
use Rattle.certificate_text.specs.declared.block.Step.{Step}
use Rattle.certificate_check.proofs.HeldBlocks.{held_blocks}
use Rattle.basis_certificates.specs.Certificates.{Certificate}
use Rattle.basis_certificates.specs.Laws.{ShowMembers}
use Rattle.basis_certificates.proofs.Certify.{certify}
use Rattle.basis_certificates.proofs.Normal.{undivided_are_normal}
use Rattle.basis_certificates.proofs.Writing.{written_holds}
use Rattle.basis_certificates.proofs.Faults.{no_fault, only_fault}
use Rattle.operad_answers.specs.OrderedPresentations.{presentation, comparison, written, IsWellFormed}
use Rattle.operad_answers.specs.Texts.{Sum}
use Rattle.operad_answers.specs.CertifiedDocuments.{BlockShows, HasElementSteps}
use Rattle.operad_answers.specs.CertificateLaws.{HeldCertificatesListNormalTrees, OneFaultOverDocuments, WrittenCertificatesHoldOver}
use Rattle.operad_answers.proofs.WellFormed.{prime_above, well_formed_over_field, order_in}

-- an element on trees labelled by 1 to n has arity n, unless it has no terms
arity_is : (p : Presentation) (n : ℕ) (e : Sum) → AllTerms e (IsLabelled (arity_of p) n) → (e ≡ []) ⊎ (element_arity e ≡ n)
arity_is p n [] h = inl refl
arity_is p n (x ∷ e) h = inr (leaf_count-labelled (arity_of p) n x.1 h.0)

-- relations that are sound are elements
elements_of : (generators : List Generator) (rels : List (List Term)) → ((r : Relation) → Mem r (map relation_of rels) → AllTerms r.terms (IsLabelledOver generators r.arity))
    → AllByRecursion (λ rel. IsElement generators (terms_of rel)) rels
elements_of generators [] h = tt
elements_of generators (rel ∷ rels) h = (h (relation_of rel) (inl refl), elements_of generators rels (λ r m. h r (inr m)))

module _ (d : Document) (given : IsWellFormed (written d)) where
  abbrev p : Presentation
  p = presentation (written d)

  field : IsOverField p
  field = well_formed_over_field (written d) given

  positive : 0 < d.field
  positive = let k = prime_above d.field given.prime in omega (arith, k)

  rels_are : All (λ rel. IsElement d.gens (terms_of rel)) d.rels
  rels_are = All-from_recursion (λ rel. IsElement d.gens (terms_of rel)) d.rels (elements_of d.gens d.rels given.sound)

  -- what a block that holds wants is in the ideal
  shown_member : (n : ℕ) (e : Sum) (steps : List Step) → All (λ (step : Step). IsElement d.gens (terms_of step.element)) steps
      → AllTerms e (IsLabelled (arity_of p) n) → BlockShows d e steps → InIdeal p n e
  shown_member n e steps elements h b = go (arity_is p n e h)
    where
      go : (e ≡ []) ⊎ (element_arity e ≡ n) → InIdeal p n e
      go (inl none) = subst (InIdeal p n) (sym none) (ideal_zero p n)
      go (inr same) =
          let want_is : IsElement d.gens (terms_of b.want) = subst (IsElement d.gens) (sym b.wants) (subst (λ k. AllTerms e (IsLabelled (arity_of p) k)) (sym same) h) in
          let held = held_blocks d.field d.gens d.rels b.want steps positive record { rels_are = rels_are; want_is = want_is; steps_are = elements } b.holds in
          subst (λ k. InIdeal p k e) same (subst (λ f. InIdeal p (element_arity f) f) b.wants held)

  members : (cert : Certificate (List Step)) → HasElementSteps d cert → ShowMembers (BlockShows d) p cert.elems
  members cert elements x m n h shown = shown_member n x.element x.cofactors (elements x m) h shown

pub held_certificates : HeldCertificatesListNormalTrees
held_certificates d given N cert elements holds =
    let o = written d in
    let p = presentation o in
    let f = well_formed_over_field o given in
    let shown = members d given cert elements in (
      certify (BlockShows d) p f.sound f.proper (comparison o) (order_in o) N cert shown holds,
      undivided_are_normal (BlockShows d) p f.sound f.wide f.proper f.not_zero (comparison o) (order_in o) N cert shown holds,
    )

pub one_fault : OneFaultOverDocuments
one_fault d N cert = (
  no_fault (BlockShows d) (presentation (written d)) (comparison (written d)) N cert,
  only_fault (BlockShows d) (presentation (written d)) (comparison (written d)) N cert,
)

pub written_over : WrittenCertificatesHoldOver
written_over d given elements monic distinct N cert is_written shown =
    let o = written d in
    written_holds (BlockShows d) (presentation o) (well_formed_over_field o given).not_zero (comparison o) (order_in o) elements monic distinct N cert is_written shown
