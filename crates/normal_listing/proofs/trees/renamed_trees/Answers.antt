use Rattle.normal_listing.proofs.TreeWords as words
use Rattle.normal_listing.proofs.trees.renamed_trees.Goals as goal

pub returns : goal.returns
returns c = record { law = words.renamed_trees }
