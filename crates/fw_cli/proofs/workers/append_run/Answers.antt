use Rattle.std.proofs.Common.{List, ap, sym, subst}
use Rattle.std.proofs.lemmas.Result.{IfOk-weaker}
use Rattle.fw_air.specs.Events.{Receipt}
use Rattle.fw_world.specs.Runs.{events_of}
use Rattle.fw_world.specs.Step.{Event}
use Rattle.fw_accounts.specs.Accounts.{IsRecordOf}
use Rattle.fw_report.specs.Trace.{TellsTrace}
use Rattle.fw_cli.proofs.workers.append_run.Goals as goal

pub returns : goal.returns
returns c =
    let setup = c.args.setup.now in
    let given = events_of c.args.given.now in
    let world = c.args.report.now.world in
    let receipts = c.args.report.now.receipts.items in
    let made = events_of c.deref-2.result.now in
    let is_record : IsRecordOf given receipts made =
    subst (IsRecordOf given receipts) (ap events_of (sym c.deref-2.ensures.value))
    (subst (λ (rs : List (List Receipt)). IsRecordOf given rs (events_of c.in_ok-events.events.items)) c.deref.ensures.value c.in_ok-events.ensures.record) in
    IfOk-weaker c.append_trace_of.result _ _
    (λ done told. λ events numbered. (
      told.0,
      subst (λ (es : List Event). TellsTrace setup es world.sent told.0) (sym (is_record events numbered))
          (subst (λ ds. TellsTrace setup made ds told.0) c.sent.ensures.sent told.1),
      told.2,
    ))
    c.append_trace_of.ensures
