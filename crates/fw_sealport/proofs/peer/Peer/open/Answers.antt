use Rattle.std.proofs.Common.{rules, ◌≡◌, ◌≤◌, ℕ, List, length, IfErr, Err, refl, subst, sym}
use Rattle.fw_sealport.proofs.LinkFacts.{peer_refuses}
use Rattle.fw_sealport.proofs.WireFacts.{opens_may}
use Rattle.fw_sealport.specs.Counts.{opening_error}
use Rattle.fw_sealport.specs.Peers.{Refuses}
use Rattle.fw_sealport.specs.Sealed.{plain_of}
use Rattle.fw_sealport.specs.declared.dropped.Unopened.TheVariants.{OutOfMemory}
use Rattle.fw_sealport.proofs.peer.Peer.open.Goals as goal

pub returns-in_err-counter-clause-refused : goal.returns-in_err-counter-clause-refused
returns-in_err-counter-clause-refused c =
    let peer = c.args.self.now in
    let wire = c.args.wire.now in
    let error = c.in_err-counter.field-0.0 in
    let same : c.from_residual.result ≡ Err (opening_error error) = search rules in
    subst (λ r. IfErr r (λ e. Refuses c.args.width peer wire e)) (sym same) (peer_refuses c.args.width peer wire error c.in_err-counter.ensures.refused)

pub returns-in_err-plain-clause-refused : goal.returns-in_err-plain-clause-refused
returns-in_err-plain-clause-refused c =
    let peer = c.args.self.now in
    let wire = c.args.wire.now in
    let opened = c.in_ok-counter.field-0 in
    let same : c.from_residual-in_err-plain.result ≡ Err OutOfMemory = search rules in
    subst (λ r. IfErr r (λ e. Refuses c.args.width peer wire e)) (sym same)
    (opens_may peer.link.keys peer.link.other wire opened.counter opened.apdu.items c.in_ok-counter.ensures.opens)

pub returns-clause-opened : goal.returns-clause-opened
returns-clause-opened c =
    let opened = c.in_ok-counter.field-0 in
    record {
      counter = opened.counter;
      apdu = opened.apdu.items;
      opens = c.in_ok-counter.ensures.opens;
      plain_is = search rules;
      is_new = λ seen r. (c.is_new.ensures seen r).0 (search rules);
      remembers = λ seen r. c.take.ensures seen r;
      link = refl;
    }

pub returns-clause-fits : goal.returns-clause-fits
returns-clause-fits c =
    let opened = c.in_ok-counter.field-0 in
    let plain_is : c.in_ok-plain.plain.items ≡ plain_of opened.apdu.items = search rules in
    subst (λ (l : List ℕ). length l ≤ length c.args.wire.now) (sym plain_is) c.in_ok-counter.ensures.fits
