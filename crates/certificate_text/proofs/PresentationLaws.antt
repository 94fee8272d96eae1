-- What the laws of presentations say of trees, elements and documents.
use Rattle.std.proofs.Common.{ℕ, List}
use Rattle.prime_field.specs.Primes.{IsFieldPrime}
use Rattle.symmetric_trees.specs.Generators.{IsTable}
use Rattle.presentation_text.specs.Accepted.{ElementsAreAccepted, TreesAreAccepted}
use Rattle.presentation_text.specs.Presentations.{IsReadAs}
use Rattle.presentation_text.specs.declared.document.Document.{Document}
use Rattle.presentation_text.proofs.ElementsAccepted.{elements_accepted}
use Rattle.presentation_text.proofs.TreesAccepted.{all_accepted}
use Rattle.presentation_text.proofs.WritableDocuments.{read_writable}

pub trees_are_accepted : TreesAreAccepted
trees_are_accepted = all_accepted

pub elements_are_accepted : ElementsAreAccepted
elements_are_accepted = elements_accepted all_accepted

-- a document that was read has a field and a table
pub document_sound : (bytes : List ℕ) (document : Document) → IsReadAs bytes document → IsFieldPrime document.field × IsTable document.gens
document_sound bytes document read = let may = read_writable elements_are_accepted bytes document read in (may.field, may.table)
