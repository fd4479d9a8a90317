use Rattle.fw_keys.proofs.Steps.{old_is_bad}
use Rattle.fw_keys.proofs.reading.link_of.Goals as goal

pub returns-in-Err : goal.returns-in-Err
returns-in-Err g c =
    old_is_bad g.N.EndName.names c.args.file.now.own c.args.file.now.entries c.args.line.now (record { end = c.in-Some-read.end; keys = c.in-Some.keys }) c.in-Err.why
    (record { name = c.in-Some.name.now; link = c.in-Some.ensures; named = c.in-Some-read.ensures }) c.in-Err.ensures
