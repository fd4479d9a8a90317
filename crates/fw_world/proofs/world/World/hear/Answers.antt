use Rattle.std.proofs.Common.{◌≡◌, ◌↔◌, ℕ, nat_eq, List, Some, refl, sym, ap, subst, ◌∙◌, slice_get}
use Rattle.std.specs.Map.{lookup}
use Rattle.std.specs.Option.{option_copied, option_copied_mut}
use Rattle.fw_names.specs.Name.{Campaign}
use Rattle.fw_head.specs.declared.news.News.TheVariants.{Done}
use Rattle.fw_head.specs.Head.{Head, HeadHears, IsDoneBy}
use Rattle.fw_world.specs.declared.datagram.Direction.TheVariants.{ToHead}
use Rattle.fw_world.specs.World.{Datagram}
use Rattle.fw_world.specs.Step.{deliver}
use Rattle.fw_world.proofs.Places.{told_err, head_found, head_set, head_same, hears_keeps}
use Rattle.fw_world.proofs.Keeping.{with_head, keeps_head}
use Rattle.fw_world.proofs.Delivered.{sent_here, way_of, delivers_to_head}
use Rattle.fw_world.proofs.Refusing.{wants_memory, delivered_to_head, head_may_want}
use Rattle.fw_world.proofs.world.World.hear.Goals as goal

pub returns-in_err-hear-clause-same : goal.returns-in_err-hear-clause-same
returns-in_err-hear-clause-same c =
    let key = c.number.result in
    let found : lookup (nat_eq key) c.self.inside.heads ≡ Some c.in-Some-get_mut.head.now = sym c.get_mut.ensures.value ∙ ap option_copied_mut c.in-Some-get_mut.is in
    told_err c.from_residual.result _ (head_same _ _ c.self.view_is key _ _ _ _ found (with_head _ c.self.invariant key _ c.hear.new.self found (ap (λ (h : Head). h.book.head) c.in_err-hear.ensures.same)) c.in_err-hear.ensures.same refl)

pub returns-in_err-hear-clause-refused : goal.returns-in_err-hear-clause-refused
returns-in_err-hear-clause-refused c =
    let key = c.number.result in
    let d = c.in-Some.datagram.now in
    let head = c.in-Some-get_mut.head.now in
    let found : lookup (nat_eq key) c.self.inside.heads ≡ Some head = sym c.get_mut.ensures.value ∙ ap option_copied_mut c.in-Some-get_mut.is in
    let at : slice_get c.self.inside.sent.items c.args.number ≡ Some d = ap (λ (xs : List Datagram). slice_get xs c.args.number) (sym c.deref.ensures.value) ∙ sym c.sent_at.ensures ∙ ap option_copied c.in-Some.is in
    let here : slice_get c.args.self.now.sent c.args.number ≡ Some d = sent_here _ _ c.self.view_is c.deref.result.now c.args.number d c.deref.ensures.value (sym c.sent_at.ensures ∙ ap option_copied c.in-Some.is) in
    let same : key ≡ d.head = c.number.ensures.value ∙ ap (λ (x : Datagram). x.head) c.datagram.view_is in
    let by : c.datagram.inside.meter ≡ d.meter = ap (λ (x : Datagram). x.meter) c.datagram.view_is in
    let carried : c.deref-2.result.now ≡ d.bytes = c.deref-2.ensures.value ∙ ap (λ (x : Datagram). x.bytes) c.datagram.view_is in
    let way = way_of c.args.self.now.sent c.args.number ToHead d c.requires here in
    let there = head_found _ _ c.self.view_is key d.head same head found in
    wants_memory c.from_residual.result c.args.self.now (deliver c.args.number) c.from_residual.ensures.1
    (delivered_to_head _ _ c.self.view_is c.args.number d at head way there)
    (head_may_want _ _ c.self.view_is c.args.number d at head way there c.datagram.inside.meter c.deref-2.result.now by carried c.in_err-hear.ensures.memory)

pub invariant_of-self-2 : goal.invariant_of-self-2
invariant_of-self-2 c =
    let key = c.number.result in
    let head = c.in-Some-get_mut.head.now in
    let found : lookup (nat_eq key) c.self.inside.heads ≡ Some head = sym c.get_mut.ensures.value ∙ ap option_copied_mut c.in-Some-get_mut.is in
    keeps_head _ c.self.invariant key head c.hear.new.self found (hears_keeps head c.hear.new.self _ _ _ c.in_ok-hear.ensures.heard)

pub returns-clause-stepped : goal.returns-clause-stepped
returns-clause-stepped c =
    let key = c.number.result in
    let d = c.in-Some.datagram.now in
    let head = c.in-Some-get_mut.head.now in
    let found : lookup (nat_eq key) c.self.inside.heads ≡ Some head = sym c.get_mut.ensures.value ∙ ap option_copied_mut c.in-Some-get_mut.is in
    let at : slice_get c.args.self.now.sent c.args.number ≡ Some d = sent_here _ _ c.self.view_is c.deref.result.now c.args.number d c.deref.ensures.value (sym c.sent_at.ensures ∙ ap option_copied c.in-Some.is) in
    let same : key ≡ d.head = c.number.ensures.value ∙ ap (λ (x : Datagram). x.head) c.datagram.view_is in
    let by : c.datagram.inside.meter ≡ d.meter = ap (λ (x : Datagram). x.meter) c.datagram.view_is in
    let carried : c.deref-2.result.now ≡ d.bytes = c.deref-2.ensures.value ∙ ap (λ (x : Datagram). x.bytes) c.datagram.view_is in
    let Q : ℕ → List ℕ → Type 0 = λ from bytes. HeadHears head from bytes c.in_ok-hear.field-0 c.hear.new.self in
    let R : Campaign → ℕ → ℕ → List ℕ → Type 0 = λ campaign meter from bytes. (c.in_ok-hear.field-0 ≡ Done campaign meter) ↔ ((meter ≡ from) × IsDoneBy head meter bytes campaign) in (
      d,
      at,
      delivers_to_head _ _ d (way_of c.args.self.now.sent c.args.number ToHead d c.requires at) (record {
        before = head;
        after = c.hear.new.self;
        told = c.in_ok-hear.field-0;
        there = head_found _ _ c.self.view_is key d.head same head found;
        is_head = c.view-view.ensures.live;
        hears = subst (λ (from : ℕ). Q from d.bytes) by (subst (Q c.datagram.inside.meter) carried c.in_ok-hear.ensures.heard);
        done = λ campaign meter. subst (λ (from : ℕ). R campaign meter from d.bytes) by (subst (R campaign meter c.datagram.inside.meter) carried (c.in_ok-hear.ensures.done campaign meter));
        new_is = head_set _ _ c.self.view_is key d.head same _ _ _ (with_head _ c.self.invariant key head c.hear.new.self found (hears_keeps head c.hear.new.self _ _ _ c.in_ok-hear.ensures.heard)) refl;
      }),
    )

pub returns-clause-admitted : goal.returns-clause-admitted
returns-clause-admitted c =
    let key = c.number.result in
    let d = c.in-Some.datagram.now in
    let head = c.in-Some-get_mut.head.now in
    let found : lookup (nat_eq key) c.self.inside.heads ≡ Some head = sym c.get_mut.ensures.value ∙ ap option_copied_mut c.in-Some-get_mut.is in
    let at : slice_get c.self.inside.sent.items c.args.number ≡ Some d = ap (λ (xs : List Datagram). slice_get xs c.args.number) (sym c.deref.ensures.value) ∙ sym c.sent_at.ensures ∙ ap option_copied c.in-Some.is in
    let same : key ≡ d.head = c.number.ensures.value ∙ ap (λ (x : Datagram). x.head) c.datagram.view_is in
    let here : slice_get c.args.self.now.sent c.args.number ≡ Some d = sent_here _ _ c.self.view_is c.deref.result.now c.args.number d c.deref.ensures.value (sym c.sent_at.ensures ∙ ap option_copied c.in-Some.is) in
    delivered_to_head _ _ c.self.view_is c.args.number d at head (way_of c.args.self.now.sent c.args.number ToHead d c.requires here) (head_found _ _ c.self.view_is key d.head same head found)

pub invariant_of-self-in_err-hear : goal.invariant_of-self-in_err-hear
invariant_of-self-in_err-hear c =
    let key = c.number.result in
    let found : lookup (nat_eq key) c.self.inside.heads ≡ Some c.in-Some-get_mut.head.now = sym c.get_mut.ensures.value ∙ ap option_copied_mut c.in-Some-get_mut.is in
    keeps_head _ c.self.invariant key _ c.hear.new.self found (ap (λ (h : Head). h.book.head) c.in_err-hear.ensures.same)
