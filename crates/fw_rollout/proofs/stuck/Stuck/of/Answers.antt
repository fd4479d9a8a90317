use Rattle.std.proofs.Common.{Option, Some, sym, ap, ◌∙◌}
use Rattle.std.specs.Option.{option_copied, option_map}
use Rattle.fw_names.specs.Name.{Campaign, Name}
use Rattle.fw_head.specs.Row.{Row}
use Rattle.fw_rollout.specs.declared.stuck.Stuck.{Stuck}
use Rattle.fw_rollout.proofs.stuck.Stuck.of.Goals as goal

pub returns-in-Some : goal.returns-in-Some
returns-in-Some c =
    let told : Campaign → Option Stuck = λ (k : Campaign). (let stuck : Stuck = record { campaign = k; meter = c.args.meter; from = c.args.from } in Some stuck) in
    ap told (ap (λ (n : Name). n.campaign) (c.result.view_is ∙ c.name.ensures))
    ∙ sym (ap (λ o. option_map (λ (row : Row). (let stuck : Stuck = record { campaign = row.name.campaign; meter = c.args.meter; from = c.args.from } in stuck)) o) (sym c.row.ensures ∙ ap option_copied c.in-Some.is))

pub returns-in-None : goal.returns-in-None
returns-in-None c =
    sym (ap (λ o. option_map (λ (row : Row). (let stuck : Stuck = record { campaign = row.name.campaign; meter = c.args.meter; from = c.args.from } in stuck)) o) (sym c.row.ensures ∙ ap option_copied c.in-None.is))
