-- What a departure means, and what a change does.
use Rattle.std.proofs.Common.{◌≡◌, ◌++◌, ◌+◌, ◌<◌, ◌≤◌, ℕ, List, [], ◌∷◌, Some, length, refl, sym, ap, subst, ◌∙◌, arith, append-nil}
use Rattle.std.specs.Prelude.{Contains}
use Rattle.std.specs.declared.net.socket_addr.SocketAddr.{SocketAddr}
use Rattle.std.proofs.lemmas.List.Elements.{Contains-append_left}
use Rattle.fw_audit.specs.Log.{Item, came, sent}
use Rattle.fw_order.specs.Order.{End, IsEnd, Step, address_of, items_of, log_at}
use Rattle.fw_order.specs.Laws.{EachWasSent, OneBegins, OrderDeparts}
use Rattle.fw_order.proofs.Lists.{got_inside, no_cons, none_in}
use Rattle.fw_order.proofs.Orders.{find_step, has_address, items_append, items_cons_own}

pub order_departs : OrderDeparts
order_departs ends d departs (order, is, causal) =
    let fronts = departs.departs order (λ number. ([], sym (is number) ∙ sym (append-nil (items_of order number)))) causal in
    let inside : d.at < length (log_at ends d.end) = got_inside (log_at ends d.end) d.at (came departs.from departs.bytes) departs.there in
    let size : length (items_of order d.end) ≡ length (log_at ends d.end) = ap length (is d.end) in
    omega (arith, fronts, inside, size)

pub each_was_sent : EachWasSent
each_was_sent ends number from to bytes (order, is, causal) c own of_end =
    let found = find_step order number (came from bytes) (subst (λ (l : List Item). Contains l (came from bytes)) (sym (is number)) c) in
    let there : address_of ends found.step.end ≡ Some to = ap (address_of ends) found.own ∙ own in
    let earlier = causal found.before found.after found.step found.split from to bytes found.is there of_end in
    let other : ℕ = earlier.0 in
    let whole : log_at ends other ≡ items_of found.before other ++ items_of (found.step ∷ found.after) other =
    sym (is other) ∙ ap (λ (l : List Step). items_of l other) found.split ∙ items_append found.before (found.step ∷ found.after) other in (
      other,
      earlier.1,
      subst (λ (l : List Item). Contains l (sent to bytes)) (sym whole)
          (Contains-append_left (items_of found.before other) (items_of (found.step ∷ found.after) other) (sent to bytes) earlier.2),
    )

pub one_begins : OneBegins
one_begins ends number any later ([], is, causal) e = absurd (no_cons any later (sym (is number ∙ e)))
one_begins ends number any later (step ∷ order, is, causal) e =
    let log : log_at ends step.end ≡ step.item ∷ items_of order step.end = sym (is step.end) ∙ items_cons_own step order step.end refl in
    let at = has_address ends step.end step.item (items_of order step.end) log in (
      step.end,
      step.item,
      items_of order step.end,
      log,
      λ from bytes is_came of_end. none_in (sent at.0 bytes) (causal [] order step refl from at.0 bytes is_came at.1 of_end).2,
    )
