use Rattle.fw_host.proofs.Listings.{looked_up, none_asked}
use Rattle.fw_host.proofs.meter_list.address_of.Goals as goal

pub returns-in-Ok-2 : goal.returns-in-Ok-2
returns-in-Ok-2 g c = none_asked _ _ c.in-Ok.address c.in-Ok.ensures.value (λ asked. absurd (cc (c.if-can_be_asked.false, c.can_be_asked.ensures.1 asked)))

pub returns-in-Err : goal.returns-in-Err
returns-in-Err g c = looked_up _ _ _ c.in-Err.ensures.value c.host_address.ensures
