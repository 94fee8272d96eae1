-- What it says that a basis certificate holds over a document.
use Rattle.std.specs.Prelude.{ℕ, ◌≡◌, ◌↔◌, ◌≤◌, List}
use Rattle.modular_sums.specs.Lists.{Mem, Distinct}
use Rattle.labelled_trees.specs.Trees.{Tree}
use Rattle.shuffle_bases.specs.Elements.{Element, AreMonic}
use Rattle.shuffle_transfer.specs.GroebnerBases.{setting, IsGroebnerBasis}
use Rattle.shuffle_transfer.specs.NormalLaws.{NormalLaw}
use Rattle.presentation_text.specs.declared.document.Document.{Document}
use Rattle.certificate_text.specs.declared.block.Step.{Step}
use Rattle.basis_certificates.specs.Certificates.{ElemEntry, Certificate}
use Rattle.basis_certificates.specs.Faults.{Cause}
use Rattle.basis_certificates.specs.ShuffleElements.{shuffle_elements}
use Rattle.basis_certificates.specs.Writing.{IsWritten}
use Rattle.basis_certificates.specs.Laws.{IsUndividedSpelling}
use Rattle.operad_answers.specs.OrderedPresentations.{presentation, comparison, written, IsWellFormed}
use Rattle.operad_answers.specs.CertifiedDocuments.{BlockShows, HoldsOver, IsFaultOver, HasElementSteps}

-- Where a certificate holds over a well-formed document through N, whoever wrote it, its elements in shuffle form are a Groebner basis through N, and
-- in each arity up to N the sorted spellings that no leading tree of it divides are the normal trees, independent and spanning.
abbrev pub HeldCertificatesListNormalTrees : Type 0
HeldCertificatesListNormalTrees = (d : Document) → IsWellFormed (written d) → (N : ℕ) (cert : Certificate (List Step)) → HasElementSteps d cert → HoldsOver d N cert
    → IsGroebnerBasis (presentation (written d)) (comparison (written d)) (shuffle_elements (presentation (written d)) (comparison (written d)) cert.elems) N
    × ((n : ℕ) → n ≤ N → (l : List (Tree ℕ)) × ((t : Tree ℕ) → Mem t l ↔ IsUndividedSpelling (presentation (written d)).generators cert.elems n t) × NormalLaw (presentation (written d)) (comparison (written d)) n l)

-- A certificate that holds over a document has no fault there, and no certificate has two.
abbrev pub OneFaultOverDocuments : Type 0
OneFaultOverDocuments = (d : Document) (N : ℕ) (cert : Certificate (List Step))
    → ((k : ℕ) (cause : Cause) → HoldsOver d N cert → IsFaultOver d N cert k cause → ⊥)
    × ((k l : ℕ) (cause other : Cause) → IsFaultOver d N cert k cause → IsFaultOver d N cert l other → (k ≡ l) × (cause ≡ other))

-- A certificate written for monic elements, each of which stands once, holds over a well-formed document where each entry has a block that
-- wants its element and holds.
abbrev pub WrittenCertificatesHoldOver : Type 0
WrittenCertificatesHoldOver = (d : Document) → IsWellFormed (written d) → (elements : List Element) → AreMonic (setting (presentation (written d)) (comparison (written d)) elements) → Distinct elements
    → (N : ℕ) (cert : Certificate (List Step)) → IsWritten (presentation (written d)) (comparison (written d)) elements N cert
    → ((x : ElemEntry (List Step)) → Mem x cert.elems → BlockShows d x.element x.cofactors) → HoldsOver d N cert
