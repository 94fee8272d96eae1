use Rattle.normal_listing.proofs.TreeWords as words
use Rattle.normal_listing.proofs.trees.words_spell.Goals as goal

pub returns : goal.returns
returns c = record { law = words.words_spell }
