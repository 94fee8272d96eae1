use Rattle.presentation_text.proofs.AcceptedDocuments.{documents_accepted}
use Rattle.presentation_text.proofs.ElementsAccepted.{elements_accepted}
use Rattle.presentation_text.proofs.PrintedWhole.{printed_document}
use Rattle.presentation_text.proofs.TreesAccepted.{all_accepted}
use Rattle.presentation_text.proofs.document_writing.printed_documents_are_read_back.Goals as goal

pub returns : goal.returns
returns c = record { law = λ document formed. printed_document document formed (documents_accepted (elements_accepted all_accepted)) }
