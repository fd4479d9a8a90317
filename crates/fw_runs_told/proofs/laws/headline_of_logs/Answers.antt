use Rattle.fw_runs_told.proofs.Headline.{headline_of_logs}
use Rattle.fw_runs_told.proofs.laws.headline_of_logs.Goals as goal

pub returns : goal.returns
returns c = headline_of_logs c.logs_are_runs.ensures c.every_run_is_safe.ensures.activations c.every_run_is_safe.ensures.releases
