use Rattle.std.proofs.Common.{◌∙◌, ap, Bool, sym, subst, string_bytes}
use Rattle.fw_world.specs.Runs.{events_of}
use Rattle.fw_cli.specs.Rehearsing.{TellsOfWorkers, TracesWorkers}
use Rattle.fw_cli.proofs.Rehearsed.{with_trace, without_trace}
use Rattle.fw_cli.proofs.workers.tell_report.Goals as goal
use Rattle.fw_cli.proofs.workers.tell_report.Goals.{then-trace+in_ok-append_run, else-trace}

pub returns : goal.returns
returns c =
    let setup = c.args.setup.now in
    let given = events_of c.args.given.now in
    let report = c.args.report.now in
    let text = string_bytes c.append_board.new.text in
    elim c.if-trace.branch [
      | then-trace+in_ok-append_run w ↦
          subst (λ (b : Bool). TellsOfWorkers b setup given report.world report.board report.receipts.items text) (sym w.if-trace.true)
          (with_trace setup given report.world report.board report.receipts.items _ (string_bytes c.if-trace.text) (string_bytes c.append_report.new.text) text
          c.new-text.ensures.bytes (subst (λ t. TracesWorkers setup given report.world report.receipts.items _ (string_bytes t)) (sym w.text-is) w.in_ok-append_run.ensures)
          c.in_ok-append_report.ensures c.in_ok-append_board.ensures)
      | else-trace w ↦
          subst (λ (b : Bool). TellsOfWorkers b setup given report.world report.board report.receipts.items text) (sym w.if-trace.false)
          (without_trace setup given report.world report.board report.receipts.items (string_bytes c.if-trace.text) (string_bytes c.append_report.new.text) text
          (ap string_bytes w.text-is ∙ c.new-text.ensures.bytes) c.in_ok-append_report.ensures c.in_ok-append_board.ensures)
    ]
