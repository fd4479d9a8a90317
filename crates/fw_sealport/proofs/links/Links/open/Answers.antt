use Rattle.std.proofs.Common.{◌≡◌, ℕ, MatchOption, Option, Some, None, refl, sym, ap, subst, ◌∙◌}
use Rattle.std.specs.Option.{option_copied_mut}
use Rattle.fw_sealport.proofs.Cases.{err_weaker, ok_weaker}
use Rattle.fw_sealport.proofs.LinkFacts.{lets_from, same_peers}
use Rattle.fw_sealport.specs.Peers.{LetsThrough, Refuses, peer_at}
use Rattle.fw_sealport.specs.Windows.{width_of}
use Rattle.fw_sealport.specs.declared.dropped.Unopened.TheVariants.{Stranger}
use Rattle.fw_sealport.specs.declared.peer.Peer.{Peer}
use Rattle.fw_sealport.proofs.links.Links.open.Goals as goal

pub returns-in-Some-clause-opened : goal.returns-in-Some-clause-opened
returns-in-Some-clause-opened c =
    let old = c.args.self.now in
    let peer = c.in-Some.peer.now in
    let found : peer_at old c.args.from ≡ Some peer = sym c.get_mut.ensures.value ∙ ap option_copied_mut c.in-Some.is in
    ok_weaker c.open.result _ _
    (λ plain lets. lets_from old (record old { peers = c.get_mut.follows.lender c.open.new.self }) c.args.from peer c.open.new.self found (c.get_mut.follows.holds c.open.new.self) c.args.wire.now plain.items
    (subst (λ (w : ℕ). LetsThrough w peer c.args.wire.now plain.items c.open.new.self) c.width-width.ensures.width lets))
    c.open.ensures.opened

pub returns-in-Some-clause-refused : goal.returns-in-Some-clause-refused
returns-in-Some-clause-refused c =
    let old = c.args.self.now in
    let peer = c.in-Some.peer.now in
    let wire = c.args.wire.now in
    let found : peer_at old c.args.from ≡ Some peer = sym c.get_mut.ensures.value ∙ ap option_copied_mut c.in-Some.is in
    err_weaker c.open.result _ _
    (λ e refused. subst (λ (o : Option Peer). MatchOption o (e ≡ Stranger) (λ p. Refuses (width_of old.order) p wire e)) (sym found)
    (subst (λ (w : ℕ). Refuses w peer wire e) c.width-width.ensures.width refused))
    c.open.ensures.refused

pub returns-in-Some-clause-same : goal.returns-in-Some-clause-same
returns-in-Some-clause-same c =
    let old = c.args.self.now in
    let peer = c.in-Some.peer.now in
    let found : peer_at old c.args.from ≡ Some peer = sym c.get_mut.ensures.value ∙ ap option_copied_mut c.in-Some.is in
    err_weaker c.open.result _ _ (λ e same. same_peers old (record old { peers = c.get_mut.follows.lender c.open.new.self }) c.args.from peer c.open.new.self found (c.get_mut.follows.holds c.open.new.self) same)
    c.open.ensures.same

pub returns-in-None-clause-refused : goal.returns-in-None-clause-refused
returns-in-None-clause-refused c =
    let old = c.args.self.now in
    let absent : peer_at old c.args.from ≡ None = sym c.get_mut.ensures.value ∙ ap option_copied_mut c.in-None.is in
    subst (λ (o : Option Peer). MatchOption o (Stranger ≡ Stranger) (λ p. Refuses (width_of old.order) p c.args.wire.now Stranger)) (sym absent) refl
