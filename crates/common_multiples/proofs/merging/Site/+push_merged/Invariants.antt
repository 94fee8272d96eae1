use Rattle.common_multiples.proofs.merging.Site.+push_merged.Given as goal

abbrev pub decreases-push_merged : goal.decreases-push_merged
decreases-push_merged l = l.left
