use Rattle.fw_audit.specs.Log.{log_of}
use Rattle.fw_audit.proofs.Lives.{died_stopped, lived_stopped}
use Rattle.fw_audit.proofs.life.Left.outlived.Goals as goal

pub returns-in-Err : goal.returns-in-Err
returns-in-Err c =
    died_stopped c.args.heads.now c.args.self.switched.items c.args.self.meter.meter (log_of c.args.items.now) c.in-Err.stop c.in-Err.ensures

pub returns-in-Err-lived : goal.returns-in-Err-lived
returns-in-Err-lived c =
    lived_stopped c.args.heads.now c.args.self.switched.items c.args.self.meter.meter (log_of c.args.items.now) c.in-Err-lived.stop c.in-Err-lived.ensures
