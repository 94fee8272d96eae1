use Rattle.std.proofs.Common.{drop}
use Rattle.normal_listing.proofs.Lines.{IsWritingLines}
use Rattle.normal_listing.proofs.writing.write_words.Given as goal

abbrev pub invariant-loop-word : goal.invariant-loop-word
invariant-loop-word l = IsWritingLines l.table l.words (drop l.word-index l.words) l.out.items l.fn.out.items
