use Rattle.std.proofs.Common.{List, subst, sym, ◌∙◌}
use Rattle.fw_rollout.specs.Daemon.{IsList}
use Rattle.fw_host.specs.Waves.{listed_in}
use Rattle.fw_host.specs.declared.wave_list.Planned.{Planned}
use Rattle.fw_host.proofs.wave_list.WaveList.up_to.Goals as goal

pub meters_up_to-requires : goal.meters_up_to-requires
meters_up_to-requires c =
    subst (λ (l : List Planned). IsList (listed_in l)) (sym (c.deref.ensures.value ∙ c.self.view_is)) c.meters-meters.ensures.list
