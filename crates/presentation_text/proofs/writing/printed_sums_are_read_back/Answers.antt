use Rattle.presentation_text.proofs.PrintedSums.{read_back}
use Rattle.presentation_text.proofs.writing.printed_sums_are_read_back.Goals as goal

pub returns : goal.returns
returns c = record { law = read_back }
