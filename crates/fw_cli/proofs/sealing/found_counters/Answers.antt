use Rattle.fw_cli.proofs.Linked.{old_keyed}
use Rattle.fw_cli.proofs.sealing.found_counters.Goals as goal

pub returns-in-Err : goal.returns-in-Err
returns-in-Err g c = λ options finds. old_keyed options c.in-Err.because.error c.not_found.result.error finds c.not_found.ensures.error
