-- Public vocabulary: what the daemon of a meter does to the outside, and what comes from there. It makes no reports.
use Rattle.fw_port.specs.Acts as port
use Rattle.fw_port.specs.declared.port.NoReport.{NoReport}

abbrev pub Act : Type 0
Act = port.Act NoReport
