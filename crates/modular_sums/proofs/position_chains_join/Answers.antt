use Rattle.modular_sums.proofs.PositionChains.{first_same, last_same, joined}
use Rattle.modular_sums.proofs.position_chains_join.Goals as goal

pub returns : goal.returns
returns c = record {
  law = λ q table. (
    λ d e steps f g h k chain. first_same q table steps d e g h (last_same q table steps e f g k chain),
    λ e first f second g c k. joined q table first second e f g c k,
  );
}
