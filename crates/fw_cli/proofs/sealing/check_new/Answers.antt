use Rattle.fw_cli.proofs.Linked.{new_keyed}
use Rattle.fw_cli.proofs.sealing.check_new.Goals as goal

pub returns-in-Err : goal.returns-in-Err
returns-in-Err g c = λ options makes. new_keyed options c.in-Err.because.error c.not_new.result.error makes c.not_new.ensures.error
