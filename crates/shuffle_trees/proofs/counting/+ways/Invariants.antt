use Rattle.shuffle_trees.proofs.counting.+ways.Given as goal

abbrev pub decreases-ways : goal.decreases-ways
decreases-ways l = l.things
