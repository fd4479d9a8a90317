use Rattle.std.proofs.Common.{◌∷◌, [], ◌++◌, List, ap, subst, sym, ◌∙◌}
use Rattle.fw_rollout.specs.declared.link.Listed.{Listed}
use Rattle.fw_rollout.specs.Daemon.{IsList}
use Rattle.fw_host.specs.Waves.{up_to_wave}
use Rattle.fw_host.proofs.Sublists.{next_is_list, up_to_next}
use Rattle.fw_host.proofs.wave_list.meters_up_to.Goals as goal

pub add_up_to-requires : goal.add_up_to-requires
add_up_to-requires c =
    let wave = c.args.wave in
    let planned = c.planned-item.result in
    subst (λ (l : List Listed). IsList (l ++ up_to_wave wave (planned ∷ []))) (sym c.loop-planned.invariant)
    (next_is_list wave c.args.list.now c.loop-planned.planned-index planned c.loop-planned-test.true c.planned-item.is c.requires)

pub loop-planned-preserved : goal.loop-planned-preserved
loop-planned-preserved c =
    let wave = c.args.wave in
    let planned = c.planned-item.result in
    c.in_ok-add_up_to.ensures
    ∙ ap (λ (l : List Listed). l ++ up_to_wave wave (planned ∷ [])) c.loop-planned.invariant
    ∙ sym (up_to_next wave c.args.list.now c.loop-planned.planned-index planned c.loop-planned-test.true c.planned-item.is)
