use Rattle.std.proofs.Common.{◌≡◌, ◌++◌, ◌∙◌, List, sym, ap, subst}
use Rattle.std.proofs.lemmas.List.{append-nil}
use Rattle.fw_daemon.specs.Acts.{Act}
use Rattle.fw_daemon.specs.Daemon.{daemon_of}
use Rattle.fw_port.specs.Lists.{acts_of}
use Rattle.fw_daemon.specs.Serving.{Serving}
use Rattle.fw_port.specs.declared.list.Deed.{Deed}
use Rattle.fw_port.specs.declared.port.NoReport.{NoReport}
use Rattle.fw_daemon.proofs.list.serve_list.Goals as goal

pub serve-requires : goal.serve-requires
serve-requires g c = λ honest done now served.
    let nothing_before = ap (λ (deeds : List (Deed NoReport)). done ++ acts_of deeds) c.new-port.ensures ∙ append-nil done in
    (daemon_of c.args.daemon.now, now, subst (λ (acts : List Act). Serving (daemon_of c.args.daemon.now) acts now) (sym nothing_before) served)
