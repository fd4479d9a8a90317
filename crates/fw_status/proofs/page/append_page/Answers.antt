use Rattle.std.proofs.Common.{◌++◌, refl}
use Rattle.std.proofs.lemmas.Result.{on_ok_weaker}
use Rattle.std.specs.Prelude.{string_bytes}
use Rattle.fw_status.proofs.Told.{onto}
use Rattle.fw_status.proofs.page.append_page.Goals as goal

pub returns : goal.returns
returns c =
    let t0 = string_bytes c.args.text.now in
    let t1 = string_bytes c.append_campaigns_page.new.text in
    let t2 = string_bytes c.append_table.new.text in
    let t3 = string_bytes c.append_table-2.new.text in
    let t4 = string_bytes c.append_table-3.new.text in
    let t5 = string_bytes c.append_table-4.new.text in
    let bars = c.in_ok-append_campaigns_page.ensures in
    let failed = c.in_ok-append_table.ensures in
    let live = c.in_ok-append_table-2.ensures in
    let done = c.in_ok-append_table-3.ensures in
    on_ok_weaker c.append_table-4.result
    (λ cancelled. (
      bars.0 ++ (failed.0 ++ (live.0 ++ (done.0 ++ cancelled.0))),
      record {
        bars = bars.0;
        failed = failed.0;
        live = live.0;
        done = done.0;
        cancelled = cancelled.0;
        has_bars = bars.1;
        has_failed = failed.1;
        has_live = live.1;
        has_done = done.1;
        has_cancelled = cancelled.1;
        whole = refl;
      },
      onto t0 t1 t5 bars.0 (failed.0 ++ (live.0 ++ (done.0 ++ cancelled.0))) bars.2
          (onto t1 t2 t5 failed.0 (live.0 ++ (done.0 ++ cancelled.0)) failed.2
          (onto t2 t3 t5 live.0 (done.0 ++ cancelled.0) live.2 (onto t3 t4 t5 done.0 cancelled.0 done.2 cancelled.2))),
    ))
    c.append_table-4.ensures
