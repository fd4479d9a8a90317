use Rattle.std.proofs.Common.{Some, ◌∙◌}
use Rattle.fw_cli.proofs.Sayings.{said_round}
use Rattle.fw_cli.proofs.meter.TellerFleetWatch.round_of.Goals as goal

pub returns : goal.returns
returns g c = record {
  tells = λ start happenings was. (
    c.tell_dropped.ensures.lines ∙ (c.tell_event.ensures.lines ∙ was.0),
    c.tell_dropped.ensures.writer ∙ (c.tell_event.ensures.writer ∙ was.1),
    said_round happenings (Some c.args.number) c.args.event c.tell_dropped.ensures.told.0 c.args.dropped c.args.faults c.args.unopened c.tell_event.new.self.limit.left_out _ _ _ _ _ _ _ _ was.2
        c.tell_event.ensures.told c.tell_dropped.ensures.told.1,
  );
}
