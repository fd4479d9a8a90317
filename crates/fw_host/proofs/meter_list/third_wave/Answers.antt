use Rattle.fw_host.proofs.Listings.{third_bad, third_named}
use Rattle.fw_host.proofs.meter_list.third_wave.Goals as goal

pub returns-in_default : goal.returns-in_default
returns-in_default c = third_bad _ c.requires c.in_default.ensures.none

pub returns : goal.returns
returns c = third_named _ c.in-Some.text.now _ c.requires c.in-Some.ensures.found c.wave_named.ensures
