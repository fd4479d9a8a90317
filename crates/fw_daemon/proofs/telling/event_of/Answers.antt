use Rattle.std.proofs.Common.{sym, ◌∙◌}
use Rattle.fw_daemon.proofs.Tellings.{event_answered, event_judged, event_switched}
use Rattle.fw_daemon.proofs.telling.event_of.Goals as goal

pub returns-in-Some : goal.returns-in-Some
returns-in-Some g c = λ datagram has. event_switched _ _ _ _ _ _ c.in-Some.is

pub returns-in-Some-judged_event : goal.returns-in-Some-judged_event
returns-in-Some-judged_event g c = λ datagram has. event_judged _ _ _ _ _ _ c.in-None.is (sym c.in-Some-judged_event.ensures)

pub returns-in-None-judged_event : goal.returns-in-None-judged_event
returns-in-None-judged_event g c = λ datagram has.
    event_answered _ _ _ _ _ _ _ c.in-None.is (sym c.in-None-judged_event.ensures) (c.answer_event.view_is ∙ c.active.ensures)
    (c.answer_event-in-None-judged_event.ensures datagram has)
