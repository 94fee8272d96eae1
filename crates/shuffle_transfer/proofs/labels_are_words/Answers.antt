use Rattle.shuffle_transfer.proofs.Labels.{labels_are_words as the_law}
use Rattle.shuffle_transfer.proofs.labels_are_words.Goals as goal

pub returns : goal.returns
returns c = record { law = the_law }
