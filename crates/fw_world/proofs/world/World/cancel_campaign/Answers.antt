use Rattle.std.proofs.Common.{◌≡◌, nat_eq, Some, None, refl, sym, ap, subst, ◌∙◌}
use Rattle.std.specs.Map.{lookup}
use Rattle.std.specs.Option.{option_copied_mut}
use Rattle.fw_names.specs.Name.{Campaign}
use Rattle.fw_book.specs.Changes.{cancel_refusal}
use Rattle.fw_head.specs.Head.{Head, cancelled_head}
use Rattle.fw_world.proofs.Places.{told_err, head_found, head_set, head_same}
use Rattle.fw_world.proofs.Refusing.{own_campaign}
use Rattle.fw_world.proofs.Keeping.{with_head, keeps_head}
use Rattle.fw_world.proofs.world.World.cancel_campaign.Goals as goal

pub returns-in_err-cancel-clause-same : goal.returns-in_err-cancel-clause-same
returns-in_err-cancel-clause-same c =
    let key = c.head_number.result in
    let found : lookup (nat_eq key) c.self.inside.heads ≡ Some c.in-Some.head.now = sym c.get_mut.ensures.value ∙ ap option_copied_mut c.in-Some.is in
    told_err c.from_residual.result _ (head_same _ _ c.self.view_is key _ _ _ _ found (with_head _ c.self.invariant key _ c.cancel.new.self found (ap (λ (h : Head). h.book.head) c.in_err-cancel.ensures.same)) c.in_err-cancel.ensures.same refl)

pub invariant_of-self-in_err-cancel : goal.invariant_of-self-in_err-cancel
invariant_of-self-in_err-cancel c =
    let key = c.head_number.result in
    let found : lookup (nat_eq key) c.self.inside.heads ≡ Some c.in-Some.head.now = sym c.get_mut.ensures.value ∙ ap option_copied_mut c.in-Some.is in
    keeps_head _ c.self.invariant key _ c.cancel.new.self found (ap (λ (h : Head). h.book.head) c.in_err-cancel.ensures.same)

pub invariant_of-self-2 : goal.invariant_of-self-2
invariant_of-self-2 c =
    let key = c.head_number.result in
    let found : lookup (nat_eq key) c.self.inside.heads ≡ Some c.in-Some.head.now = sym c.get_mut.ensures.value ∙ ap option_copied_mut c.in-Some.is in
    keeps_head _ c.self.invariant key _ c.cancel.new.self found (ap (λ (h : Head). h.book.head) c.in_ok-cancel.ensures.cancelled)

pub returns-clause-stepped : goal.returns-clause-stepped
returns-clause-stepped c =
    let key = c.head_number.result in
    let campaign = c.args.campaign in
    let head = c.in-Some.head.now in
    let found : lookup (nat_eq key) c.self.inside.heads ≡ Some head = sym c.get_mut.ensures.value ∙ ap option_copied_mut c.in-Some.is in
    let own = own_campaign head campaign key c.serial.result (c.self.invariant.state.own key head found) c.head_number.ensures.value c.serial.ensures in
    let set = with_head _ c.self.invariant key _ c.cancel.new.self found (ap (λ (h : Head). h.book.head) c.in_ok-cancel.ensures.cancelled) in
    record {
      head = head;
      there = head_found _ _ c.self.view_is key campaign.head c.head_number.ensures.value head found;
      admitted = subst (λ (x : Campaign). cancel_refusal head.book x ≡ None) own c.in_ok-cancel.ensures.admitted;
      new_is = head_set _ _ c.self.view_is key campaign.head c.head_number.ensures.value _ _ _ set (c.in_ok-cancel.ensures.cancelled ∙ ap (cancelled_head head) c.serial.ensures);
    }
