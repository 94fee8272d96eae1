use Rattle.counted_runs.proofs.StoppedRuns.{stopped_chains_stop}
use Rattle.counted_runs.proofs.stopped_chains_stop_entries.Goals as goal

pub returns : goal.returns
returns c = record { law = stopped_chains_stop }
