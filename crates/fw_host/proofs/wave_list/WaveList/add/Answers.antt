use Rattle.std.proofs.Common.{◌≡◌, ◌++◌, ◌∷◌, [], List, ap, subst, sym, ◌∙◌}
use Rattle.fw_rollout.specs.declared.link.Listed.{Listed}
use Rattle.fw_rollout.specs.Daemon.{IsList}
use Rattle.fw_host.specs.Waves.{listed_in}
use Rattle.fw_host.specs.declared.wave_list.Planned.{Planned}
use Rattle.fw_host.proofs.Sublists.{listed_more}
use Rattle.fw_host.proofs.wave_list.WaveList.add.Goals as goal

pub returns-else-is_new-clause-added : goal.returns-else-is_new-clause-added
returns-else-is_new-clause-added c =
    let known = rw c.if-is_new.false at c.in_ok-is_new.ensures.added in
    let planned = c.args.planned in
    let same : listed_in (c.args.self.now ++ planned ∷ []) ≡ c.self.inside.meters ++ planned.at ∷ [] =
    listed_more c.args.self.now planned
    ∙ ap (λ (l : List Listed). l ++ planned.at ∷ []) (ap listed_in (sym c.self.view_is) ∙ sym c.self.invariant) in
    (cc (c.reserve.ensures.items, c.self.view_is), λ is_list. known.1 (subst IsList same is_list))

pub invariant_of-self-then-is_new : goal.invariant_of-self-then-is_new
invariant_of-self-then-is_new c =
    let known = rw c.if-is_new.true at c.in_ok-is_new.ensures.added in
    let planned = c.args.planned in
    let items : c.push.new.self.items ≡ c.self.inside.planned.items ++ planned ∷ [] =
    c.in_ok-push.ensures.items ∙ ap (λ (l : List Planned). l ++ planned ∷ []) c.reserve.ensures.items in
    known ∙ ap (λ (l : List Listed). l ++ planned.at ∷ []) c.self.invariant ∙ sym (listed_more c.self.inside.planned.items planned) ∙ ap listed_in (sym items)
