use Rattle.std.proofs.Common.{rules}
use Rattle.fw_daemon.proofs.Tellings.{is_named}
use Rattle.fw_daemon.proofs.telling.refused.Goals as goal

pub returns-in-Initiate : goal.returns-in-Initiate
returns-in-Initiate c =
    let name = c.from_bytes-name.result in
    rw c.in-Initiate.is (name, is_named c.in-Initiate.identifier.now name c.from_bytes-name.ensures.found c.from_bytes-name.ensures.unique, search rules)
