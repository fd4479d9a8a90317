use Rattle.std.proofs.Common.{◌∙◌}
use Rattle.fw_host.proofs.Tellings.{told_row}
use Rattle.fw_host.proofs.head_port_calls.UdpHeadPortHeadPort.tell.Goals as goal

pub returns-clause-tells : goal.returns-clause-tells
returns-clause-tells g c = λ start rows was.
    (c.tell_timed.ensures.lines ∙ was.0, c.tell_timed.ensures.writer ∙ was.1, told_row rows c.args.ended _ _ _ _ _ _ was.2 c.tell_timed.ensures.told)
