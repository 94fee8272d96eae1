use Rattle.rows.proofs.printing.+write_plain.Given as goal

abbrev pub decreases-write_plain : goal.decreases-write_plain
decreases-write_plain l = goal.size-write_plain l
