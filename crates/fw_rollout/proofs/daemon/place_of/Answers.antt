use Rattle.std.proofs.Common.{Option, Some, None, IfNone, sym, ap, ◌∙◌}
use Rattle.std.specs.declared.net.socket_addr.SocketAddr.{SocketAddr}
use Rattle.fw_rollout.specs.declared.link.Listed.{Listed}
use Rattle.fw_rollout.specs.Schedule.{links_of}
use Rattle.fw_rollout.proofs.Lives.{address_at, has_address, listed_at}
use Rattle.fw_rollout.proofs.daemon.place_of.Goals as goal

at_none : {X P : Type 0} (o : Option X) → P → IfNone o P
at_none None p = p
at_none (Some x) p = tt

pub returns-in_err-place-clause-none : goal.returns-in_err-place-clause-none
returns-in_err-place-clause-none c = λ s.
    at_none c.from_residual.result
    (λ meter listed. c.in_err-place.ensures.none s (has_address (links_of c.args.schedule.now) (record { meter = meter; address = c.args.address }) listed))

pub returns-clause-found : goal.returns-clause-found
returns-clause-found c = λ s.
    let links = links_of c.args.schedule.now in
    let place = c.in_ok-place.place in
    let at : Listed = c.in_ok-at.at in
    let is = sym c.at.ensures ∙ c.in_ok-at.was in
    listed_at links place at is
    ∙ ap (λ (x : SocketAddr). Some (record { meter = at.meter; address = x }))
    (address_at links c.args.address place at (c.in_ok-place.ensures.found s) is)
