use Rattle.std.specs.List.{All}
use Rattle.normal_listing.specs.WordTexts.{SpellsTree}
use Rattle.log_rows.proofs.words.take_all.Given as goal

abbrev pub invariant-loop-at : goal.invariant-loop-at
invariant-loop-at l = All (SpellsTree l.trees.table.now) l.trees.words.now
