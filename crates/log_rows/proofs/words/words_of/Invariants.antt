use Rattle.std.specs.List.{All}
use Rattle.normal_listing.specs.WordTexts.{SpellsTree}
use Rattle.log_rows.proofs.words.words_of.Given as goal

abbrev pub invariant-loop-text : goal.invariant-loop-text
invariant-loop-text l = All (SpellsTree l.table) l.words.items
