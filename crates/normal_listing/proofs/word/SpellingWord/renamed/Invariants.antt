use Rattle.std.proofs.Common.{slice_index}
use Rattle.normal_listing.proofs.Renaming.{IsRenaming}
use Rattle.normal_listing.proofs.word.SpellingWord.renamed.Given as goal

abbrev pub invariant-loop-at : goal.invariant-loop-at
invariant-loop-at l = IsRenaming (λ s. slice_index l.symbols s) l.fn.self l._at l.bits l.place l.left
