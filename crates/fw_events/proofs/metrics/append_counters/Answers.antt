use Rattle.std.proofs.Common.{◌++◌}
use Rattle.std.proofs.lemmas.Result.{on_ok_weaker}
use Rattle.std.specs.Prelude.{codes, string_bytes}
use Rattle.fw_events.specs.Metrics.{counter_family, datagrams_family}
use Rattle.fw_events.proofs.Parts.{onto}
use Rattle.fw_events.proofs.metrics.append_counters.Goals as goal

pub returns : goal.returns
returns c =
    let t0 = string_bytes c.args.text.now in
    let t1 = string_bytes c.append_datagrams.new.text in
    let t2 = string_bytes c.append_counter.new.text in
    let t3 = string_bytes c.append_counter-2.new.text in
    let t4 = string_bytes c.append_counter-3.new.text in
    let t5 = string_bytes c.append_counter-4.new.text in
    let head = c.args.head in
    let figures = c.args.figures in
    let went = datagrams_family head figures.sent figures.received in
    let resends = counter_family (codes "dlmsfw_resends_total") (codes "Rows asked again since no answer came.") head figures.resends in
    let strangers = counter_family (codes "dlmsfw_strangers_total") (codes "Datagrams from addresses that are not in the list.") head figures.strangers in
    let unopened = counter_family (codes "dlmsfw_unopened_total") (codes "Datagrams of sealed links that did not open.") head figures.unopened in
    let faults = counter_family (codes "dlmsfw_socket_faults_total") (codes "Failures of the socket.") head figures.faults in
    on_ok_weaker c.append_counter-4.result
    (λ it. onto t0 t1 t5 went (resends ++ (strangers ++ (unopened ++ faults))) c.in_ok-append_datagrams.ensures
    (onto t1 t2 t5 resends (strangers ++ (unopened ++ faults)) c.in_ok-append_counter.ensures
    (onto t2 t3 t5 strangers (unopened ++ faults) c.in_ok-append_counter-2.ensures
    (onto t3 t4 t5 unopened faults c.in_ok-append_counter-3.ensures it))))
    c.append_counter-4.ensures
