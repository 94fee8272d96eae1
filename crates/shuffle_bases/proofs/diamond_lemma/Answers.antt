use Rattle.shuffle_bases.proofs.Laws.{diamond}
use Rattle.shuffle_bases.proofs.diamond_lemma.Goals as goal

pub returns : goal.returns
returns c = record { law = diamond }
