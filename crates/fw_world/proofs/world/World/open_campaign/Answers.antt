use Rattle.std.proofs.Common.{◌≡◌, ◌≤◌, ℕ, nat_eq, Some, None, refl, sym, ap, subst, ◌∙◌}
use Rattle.std.specs.Map.{lookup}
use Rattle.std.specs.Option.{option_copied_mut}
use Rattle.fw_names.specs.Name.{Campaign}
use Rattle.fw_book.specs.Changes.{opening_refusal}
use Rattle.fw_head.specs.Head.{Head, opened_head}
use Rattle.fw_world.specs.Step.{open_campaign}
use Rattle.fw_world.specs.Refusals.{of_book, IsRefused}
use Rattle.fw_world.proofs.Places.{told_err, head_found, head_set, head_same}
use Rattle.fw_world.proofs.Keeping.{with_head, keeps_head}
use Rattle.fw_world.proofs.Refusing.{refused_by, own_campaign, unknown_meters, opening_admitted, opening_refused}
use Rattle.fw_world.proofs.world.World.open_campaign.Goals as goal

pub returns-then-not-all_there-clause-refused : goal.returns-then-not-all_there-clause-refused
returns-then-not-all_there-clause-refused c =
    let key = c.head_number.result in
    let found : lookup (nat_eq key) c.self.inside.heads ≡ Some c.in-Some.head.now = sym c.get_mut.ensures.value ∙ ap option_copied_mut c.in-Some.is in
    unknown_meters _ _ c.self.view_is c.args.campaign key c.head_number.ensures.value c.in-Some.head.now found c.args.release c.args.image.now c.args.meters.now c.all_there.result c.all_there.ensures c.if-not-all_there.true

pub returns-then-not-all_there-clause-same : goal.returns-then-not-all_there-clause-same
returns-then-not-all_there-clause-same c =
    let key = c.head_number.result in
    let found : lookup (nat_eq key) c.self.inside.heads ≡ Some c.in-Some.head.now = sym c.get_mut.ensures.value ∙ ap option_copied_mut c.in-Some.is in
    head_same _ _ c.self.view_is key _ _ _ _ found (with_head _ c.self.invariant key _ c.in-Some.head.now found refl) refl refl

pub invariant_of-self-in_err-open_campaign : goal.invariant_of-self-in_err-open_campaign
invariant_of-self-in_err-open_campaign c =
    let key = c.head_number.result in
    let found : lookup (nat_eq key) c.self.inside.heads ≡ Some c.in-Some.head.now = sym c.get_mut.ensures.value ∙ ap option_copied_mut c.in-Some.is in
    keeps_head _ c.self.invariant key _ c.open_campaign.new.self found (ap (λ (h : Head). h.book.head) c.in_err-open_campaign.ensures.same)

pub returns-in_err-open_campaign-clause-same : goal.returns-in_err-open_campaign-clause-same
returns-in_err-open_campaign-clause-same c =
    let key = c.head_number.result in
    let found : lookup (nat_eq key) c.self.inside.heads ≡ Some c.in-Some.head.now = sym c.get_mut.ensures.value ∙ ap option_copied_mut c.in-Some.is in
    told_err c.from_residual.result _ (head_same _ _ c.self.view_is key _ _ _ _ found (with_head _ c.self.invariant key _ c.open_campaign.new.self found (ap (λ (h : Head). h.book.head) c.in_err-open_campaign.ensures.same)) c.in_err-open_campaign.ensures.same refl)

pub returns-in_err-open_campaign-clause-refused : goal.returns-in_err-open_campaign-clause-refused
returns-in_err-open_campaign-clause-refused c =
    let key = c.head_number.result in
    let campaign = c.args.campaign in
    let head = c.in-Some.head.now in
    let found : lookup (nat_eq key) c.self.inside.heads ≡ Some head = sym c.get_mut.ensures.value ∙ ap option_copied_mut c.in-Some.is in
    let own = own_campaign head campaign key c.serial.result (c.self.invariant.state.own key head found) c.head_number.ensures.value c.serial.ensures in
    let refusal = c.in_err-open_campaign.field-0.0 in
    refused_by c.from_residual.result (of_book refusal) (IsRefused c.args.self.now (open_campaign campaign c.args.release c.args.image.now c.args.meters.now)) c.from_residual.ensures.1
    (opening_refused _ _ c.self.view_is campaign key c.head_number.ensures.value head found c.args.release c.args.image.now c.args.meters.now c.all_there.result c.all_there.ensures c.if-not-all_there.false c.serial.result own
    refusal c.in_err-open_campaign.ensures.refused)

pub returns-clause-admitted : goal.returns-clause-admitted
returns-clause-admitted c =
    let key = c.head_number.result in
    let campaign = c.args.campaign in
    let head = c.in-Some.head.now in
    let found : lookup (nat_eq key) c.self.inside.heads ≡ Some head = sym c.get_mut.ensures.value ∙ ap option_copied_mut c.in-Some.is in
    let own = own_campaign head campaign key c.serial.result (c.self.invariant.state.own key head found) c.head_number.ensures.value c.serial.ensures in
    opening_admitted _ _ c.self.view_is campaign key c.head_number.ensures.value head found c.args.release c.args.image.now c.args.meters.now c.all_there.result c.all_there.ensures c.if-not-all_there.false c.serial.result own
    c.in_ok-open_campaign.ensures.admitted

pub invariant_of-self-2 : goal.invariant_of-self-2
invariant_of-self-2 c =
    let key = c.head_number.result in
    let found : lookup (nat_eq key) c.self.inside.heads ≡ Some c.in-Some.head.now = sym c.get_mut.ensures.value ∙ ap option_copied_mut c.in-Some.is in
    keeps_head _ c.self.invariant key _ c.open_campaign.new.self found (ap (λ (h : Head). h.book.head) c.in_ok-open_campaign.ensures.opened)

pub returns-clause-stepped : goal.returns-clause-stepped
returns-clause-stepped c =
    let key = c.head_number.result in
    let campaign = c.args.campaign in
    let head = c.in-Some.head.now in
    let found : lookup (nat_eq key) c.self.inside.heads ≡ Some head = sym c.get_mut.ensures.value ∙ ap option_copied_mut c.in-Some.is in
    let at : head.book.head ≡ key = c.self.invariant.state.own key head found in
    let own = own_campaign head campaign key c.serial.result at c.head_number.ensures.value c.serial.ensures in
    let set = with_head _ c.self.invariant key _ c.open_campaign.new.self found (ap (λ (h : Head). h.book.head) c.in_ok-open_campaign.ensures.opened) in
    record {
      is_opened = c.head_number.ensures.opened (subst (λ (n : ℕ). 1 ≤ n) at c.view-view.ensures.is_book.head_begins);
      head = head;
      there = head_found _ _ c.self.view_is key campaign.head c.head_number.ensures.value head found;
      admitted = subst (λ (x : Campaign). opening_refusal head.book x c.args.image.now c.args.meters.now ≡ None) own c.in_ok-open_campaign.ensures.admitted;
      new_is = head_set _ _ c.self.view_is key campaign.head c.head_number.ensures.value _ _ _ set
          (c.in_ok-open_campaign.ensures.opened ∙ ap (λ (serial : ℕ). opened_head head serial c.args.release c.args.image.now c.args.meters.now) c.serial.ensures);
    }

pub invariant_of-self-then-not-all_there : goal.invariant_of-self-then-not-all_there
invariant_of-self-then-not-all_there c =
    let key = c.head_number.result in
    let found : lookup (nat_eq key) c.self.inside.heads ≡ Some c.in-Some.head.now = sym c.get_mut.ensures.value ∙ ap option_copied_mut c.in-Some.is in
    keeps_head _ c.self.invariant key _ c.in-Some.head.now found refl
