-- Public vocabulary: what a port in memory lets through.
use Rattle.std.specs.Prelude.{List}
use Rattle.fw_daemon.specs.Acts.{Act}
use Rattle.fw_daemon.specs.Daemon.{Daemon}
use Rattle.fw_daemon.specs.Serving.{Serving}

-- this is what the daemon of some meter does
abbrev pub IsOfSome : List Act → Type 0
IsOfSome done = (start : Daemon) × (now : Daemon) × Serving start done now
