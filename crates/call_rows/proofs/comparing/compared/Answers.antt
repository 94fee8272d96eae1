use Rattle.std.proofs.Common.{◌≡◌, subst, sym}
use Rattle.shuffle_insertions.specs.ShuffleTrees.{IsShuffle}
use Rattle.call_rows.proofs.comparing.compared.Goals as goal

pub compare-requires : goal.compare-requires
compare-requires g c = record {
  comparable = (c.in-Some.arity, c.in-Some.ensures.shuffle, subst (λ m. IsShuffle m c.args.b.now) (sym c.if-arity-other.true) c.in-Some-arity.ensures.shuffle);
}
