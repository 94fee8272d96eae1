use Rattle.shuffle_transfer.proofs.LabelCounts.{labels_counted as the_law}
use Rattle.shuffle_transfer.proofs.labels_counted.Goals as goal

pub returns : goal.returns
returns c = record { law = the_law }
