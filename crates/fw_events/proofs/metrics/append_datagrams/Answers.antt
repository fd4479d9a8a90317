use Rattle.std.proofs.Common.{◌++◌}
use Rattle.std.proofs.lemmas.Result.{on_ok_weaker}
use Rattle.std.specs.Prelude.{codes, string_bytes}
use Rattle.fw_events.specs.Metrics.{heading, sample}
use Rattle.fw_events.proofs.Parts.{onto}
use Rattle.fw_events.proofs.metrics.append_datagrams.Goals as goal

pub returns : goal.returns
returns c =
    let t0 = string_bytes c.args.text.now in
    let t1 = string_bytes c.append_heading.new.text in
    let t2 = string_bytes c.append_sample.new.text in
    let t3 = string_bytes c.append_sample-2.new.text in
    let sent = sample (codes "dlmsfw_datagrams_total") c.args.head (codes ",direction=\"sent\"") c.args.sent in
    let received = sample (codes "dlmsfw_datagrams_total") c.args.head (codes ",direction=\"received\"") c.args.received in
    on_ok_weaker c.append_sample-2.result
    (λ it. onto t0 t1 t3 (heading (codes "dlmsfw_datagrams_total") (codes "Datagrams to and from meters of the list.") (codes "counter")) (sent ++ received)
    c.in_ok-append_heading.ensures (onto t1 t2 t3 sent received c.in_ok-append_sample.ensures it))
    c.append_sample-2.ensures
