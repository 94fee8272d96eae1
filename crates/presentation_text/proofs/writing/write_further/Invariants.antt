use Rattle.std.proofs.Common.{◌≡◌, ◌++◌, drop}
use Rattle.symmetric_sums.specs.Terms.{terms_of}
use Rattle.presentation_text.specs.SumText.{further_text}
use Rattle.presentation_text.proofs.writing.write_further.Given as goal

abbrev pub invariant-loop-term : goal.invariant-loop-term
invariant-loop-term l = l.out.items ++ further_text l.field l.table (terms_of (drop l.term-index l.terms)) ≡ l.fn.out.items ++ further_text l.field l.table (terms_of l.terms)
