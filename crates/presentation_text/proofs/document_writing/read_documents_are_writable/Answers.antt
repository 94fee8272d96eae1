use Rattle.presentation_text.proofs.ElementsAccepted.{elements_accepted}
use Rattle.presentation_text.proofs.TreesAccepted.{all_accepted}
use Rattle.presentation_text.proofs.WritableDocuments.{read_writable}
use Rattle.presentation_text.proofs.document_writing.read_documents_are_writable.Goals as goal

pub returns : goal.returns
returns c = record { law = read_writable (elements_accepted all_accepted) }
