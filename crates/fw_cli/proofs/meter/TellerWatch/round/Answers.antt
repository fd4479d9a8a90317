use Rattle.std.proofs.Common.{◌∙◌}
use Rattle.fw_cli.proofs.Sayings.{said_alone}
use Rattle.fw_cli.proofs.meter.TellerWatch.round.Goals as goal

pub returns : goal.returns
returns g c = record {
  tells = λ start events was. (
    c.tell_dropped.ensures.lines ∙ (c.tell_event.ensures.lines ∙ was.0),
    c.tell_dropped.ensures.writer ∙ (c.tell_event.ensures.writer ∙ was.1),
    said_alone events c.args.event c.tell_dropped.ensures.told.0 c.args.dropped c.args.faults c.args.unopened c.tell_event.new.self.limit.left_out _ _ _ _ _ _ _ _ was.2 c.tell_event.ensures.told
        c.tell_dropped.ensures.told.1,
  );
}
