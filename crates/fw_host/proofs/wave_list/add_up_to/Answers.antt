use Rattle.fw_host.proofs.Sublists.{later_adds_none, within_adds_one}
use Rattle.fw_host.proofs.wave_list.add_up_to.Goals as goal

pub returns-then-wave-planned : goal.returns-then-wave-planned
returns-then-wave-planned c = later_adds_none c.args.wave c.args.planned c.args.meters.now c.if-wave-planned.true

pub returns : goal.returns
returns c = within_adds_one c.args.wave c.args.planned _ c.args.meters.now c.add.new.self c.if-wave-planned.false c.in_ok-add.ensures.added c.requires
