use Rattle.std.proofs.Common.{◌≡◌, nat_eq, Some, sym, ap, ◌∙◌}
use Rattle.std.specs.Map.{lookup}
use Rattle.std.specs.Option.{option_copied_mut}
use Rattle.fw_head.specs.Head.{Head}
use Rattle.fw_world.proofs.Places.{head_found, head_set}
use Rattle.fw_world.proofs.Keeping.{with_head, keeps_head}
use Rattle.fw_world.proofs.world.World.restart_head.Goals as goal

pub invariant_of-self-2 : goal.invariant_of-self-2
invariant_of-self-2 c =
    let key = c.number.result in
    let found : lookup (nat_eq key) c.self.inside.heads ≡ Some c.in-Some.core.now = sym c.get_mut.ensures.value ∙ ap option_copied_mut c.in-Some.is in
    keeps_head _ c.self.invariant key _ c.restart.new.self found (ap (λ (h : Head). h.book.head) c.restart.ensures)

pub returns-clause-stepped : goal.returns-clause-stepped
returns-clause-stepped c =
    let key = c.number.result in
    let head = c.in-Some.core.now in
    let found : lookup (nat_eq key) c.self.inside.heads ≡ Some head = sym c.get_mut.ensures.value ∙ ap option_copied_mut c.in-Some.is in
    let set = with_head _ c.self.invariant key _ c.restart.new.self found (ap (λ (h : Head). h.book.head) c.restart.ensures) in
    (head, head_found _ _ c.self.view_is key c.args.head c.number.ensures.value head found, head_set _ _ c.self.view_is key c.args.head c.number.ensures.value _ _ _ set c.restart.ensures)
