use Rattle.std.proofs.Common.{◌≡◌, take}
use Rattle.shuffle_transfer.specs.Transfer as math
use Rattle.symmetric_sums.specs.Terms.{FitsOver, HaveArity, terms_of}
use Rattle.shuffle_passage.proofs.relabelling.renamed.Given as goal

abbrev pub invariant-loop-term : goal.invariant-loop-term
invariant-loop-term l = record {
  terms : terms_of l.sum ≡ math.relabelled l.permutation (terms_of (take l.term-index l.term-items));
  fits : FitsOver l.fn.field l.table l.sum;
  arity : HaveArity l.arity l.sum;
}
