-- What ports give: what they let through was sent, and what they sealed.
use Rattle.std.proofs.Common.{◌≡◌, refl, inl, inr, ℕ, List, [], ◌∷◌, Contains, sym, ap, subst}
use Rattle.std.specs.declared.net.socket_addr.SocketAddr.{SocketAddr}
use Rattle.fw_port.specs.Acts.{came, quiet, sent, told}
use Rattle.fw_rollout.specs.Acts.{Act}
use Rattle.fw_rollout.specs.Leading.{IsListed, Step, hears, idles, ticks, sends, saves, tells, acts_of}
use Rattle.fw_seal.specs.Sealing.{Ends}
use Rattle.fw_wrapper.specs.Wrapper.{wrapped, wport}
use Rattle.fw_world.specs.World.{Datagram}
use Rattle.fw_world.specs.declared.datagram.Direction.{Direction}
use Rattle.fw_world.specs.declared.datagram.Direction.TheVariants.{ToMeter, ToHead}
use Rattle.fw_field.specs.Moves.{to_meter, to_head}
use Rattle.fw_field.specs.Laws.{LeadingIsMoves, ServingIsMoves, ToldIsTrue}
use Rattle.fw_sealed.specs.Links.{Links, CameSealed, Opens, plain_of}
use Rattle.fw_sealed.specs.Ports.{Peer, OpensAs}
use Rattle.fw_sealed.specs.Moves.{field_moves}
use Rattle.fw_sealed.specs.Laws.{AnswersAreSealed, LinksStaySealed, PortsKeepMeters, PortsKeepHeads, PortsOpenOnly, RequestsAreSealed, SealedLeadingIsMoves, SealedMovesAreMoves, SealedServingIsMoves, SealedToldIsTrue}
use Rattle.fw_sealed.proofs.Lists.{none_there, later, first_is, first_or}
use Rattle.fw_sealed.proofs.Sealed.{was_sent}

-- ---- what a port let through

-- what opened as a peer's opened on the link that the peer is at the other end of
pub came_as : (links : Links) (arrived : List (List ℕ)) (head meter : ℕ) (direction : Direction) (peer : Peer) (own datagram : List ℕ)
    → peer.ends ≡ (let e : Ends = record { keys = links.keys head meter; own = own; other = links.title head meter direction } in e)
    → OpensAs peer arrived datagram → CameSealed links arrived head meter direction datagram
came_as links arrived head meter direction peer own datagram is o = record {
  wire = o.wire;
  there = o.there;
  counter = o.counter;
  apdu = o.apdu;
  opens = subst (λ (e : Ends). Opens e.keys e.other o.counter o.apdu o.wire) is o.opens;
  plain = o.plain;
}

pub ports_keep_meters : PortsKeepMeters
ports_keep_meters addresses links s number heads peers acts is of_meter through from datagram there may =
    let t = through from datagram there in
    let p = of_meter t.0 t.1 in (
      p.0,
      record {
        at = subst (λ (a : SocketAddr). Contains (addresses p.0) a) (sym t.2) p.1;
        sent = was_sent links s.seals s.arrived s.field p.0 number ToMeter datagram is.sent is.genuine
            (came_as links s.arrived p.0 number ToMeter t.0 (links.title p.0 number ToHead) datagram p.2 t.3);
      },
    )

-- what a sealing port let through
pub ports_open_only : (Report : Type 0) → PortsOpenOnly Report
ports_open_only Report links peers below arrived acts opened are_peers has_arrived from datagram has =
    let o = opened from datagram has in
    let sealing = o.opens in (
      record { address = from; ends = o.ends },
      are_peers from o.ends o.there,
      refl,
      record {
        wire = o.wire;
        there = has_arrived from o.wire o.has_come;
        counter = o.counter;
        apdu = o.apdu;
        opens = record { source = sealing.source; dest = sealing.dest; sealing = sealing.sealing; wraps = sealing.wraps; opens = sealing.opens };
        plain = o.plain_is;
      },
    )

-- ---- the acts of steps

abbrev IsHearing : Step → Type 0
IsHearing (hears from datagram) = Unit {0}
IsHearing made = ⊥

-- what came by it
abbrev coming : Step → Act
coming (hears from datagram) = came from datagram
coming made = quiet

skip : (made : Step) (steps : List Step) (from : SocketAddr) (datagram : List ℕ) → (IsHearing made → ⊥) → Contains (made ∷ steps) (hears from datagram)
    → Contains steps (hears from datagram)
skip made steps from datagram not has = elim (first_or made (hears from datagram) steps has) [
  | inl same ↦ absurd (not (subst IsHearing (sym same) tt))
  | inr there ↦ there
]

pub came_by : (steps : List Step) (from : SocketAddr) (datagram : List ℕ) → Contains steps (hears from datagram) → Contains (acts_of steps) (came from datagram)
came_by [] from datagram has = absurd (none_there (hears from datagram) has)
came_by (hears at bytes ∷ steps) from datagram has = elim (first_or (hears at bytes) (hears from datagram) steps has) [
  | inl same ↦ subst (λ (a : Act). Contains (came at bytes ∷ acts_of steps) a) (ap coming same) (first_is (came at bytes) (acts_of steps))
  | inr there ↦ later (came at bytes) (came from datagram) (acts_of steps) (came_by steps from datagram there)
]
came_by (idles ∷ steps) from datagram has = later quiet (came from datagram) (acts_of steps) (came_by steps from datagram (skip idles steps from datagram (λ x. x) has))
came_by (ticks meter ∷ steps) from datagram has = came_by steps from datagram (skip (ticks meter) steps from datagram (λ x. x) has)
came_by (sends to bytes ∷ steps) from datagram has =
    later (sent to bytes) (came from datagram) (acts_of steps) (came_by steps from datagram (skip (sends to bytes) steps from datagram (λ x. x) has))
came_by (saves ∷ steps) from datagram has = came_by steps from datagram (skip saves steps from datagram (λ x. x) has)
came_by (tells ended ∷ steps) from datagram has =
    later (told ended) (came from datagram) (acts_of steps) (came_by steps from datagram (skip (tells ended) steps from datagram (λ x. x) has))

pub ports_keep_heads : PortsKeepHeads
ports_keep_heads links s number leader peers steps is of_head through from datagram heard meter listed =
    let t = through from datagram (came_by steps from datagram heard) in
    let ends = of_head t.0 t.1 meter (subst (λ (a : SocketAddr). IsListed leader meter a) t.2 listed) in
    was_sent links s.seals s.arrived s.field number meter ToHead datagram is.sent is.genuine
    (came_as links s.arrived number meter ToHead t.0 (links.title number meter ToMeter) datagram ends t.3)

-- ---- what a port sealed

pub answers_are_sealed : AnswersAreSealed
answers_are_sealed addresses f number acts s answers is =
    let a = answers is.to (wrapped wport wport s.apdu) is.was_sent in
    let heads : a.0 ≡ s.head = is.only a.0 a.1 in
    let meters : number ≡ s.meter = sym is.meter_is in
    let ways : ToHead ≡ s.direction = sym is.way in
    let same : to_head a.0 number (wrapped wport wport s.apdu) ≡ plain_of s = λ i. record { head = heads i; meter = meters i; direction = ways i; bytes = wrapped wport wport s.apdu } in
    subst (λ (d : Datagram). Contains f.sent d) same a.2

pub requests_are_sealed : RequestsAreSealed
requests_are_sealed f number start steps s does is =
    let a = does.sent_all is.to (wrapped wport wport s.apdu) is.was_sent in
    let heads : number ≡ s.head = sym is.head_is in
    let meters : a.0 ≡ s.meter = is.only a.0 a.1 in
    let ways : ToMeter ≡ s.direction = sym is.way in
    let same : to_meter number a.0 (wrapped wport wport s.apdu) ≡ plain_of s = λ i. record { head = heads i; meter = meters i; direction = ways i; bytes = wrapped wport wport s.apdu } in
    subst (λ (d : Datagram). Contains f.sent d) same a.2

-- ---- what daemons do behind ports

pub sealed_serving : PortsKeepMeters → ServingIsMoves → SealedServingIsMoves
sealed_serving keeps law addresses links s number start now peers acts there serving is of_meter through =
    law addresses s.field number start now acts there serving (keeps addresses links s number start.heads peers acts is of_meter through)

pub sealed_leading : PortsKeepHeads → LeadingIsMoves → SealedLeadingIsMoves
sealed_leading keeps law addresses links s number start now peers steps there rests leading is of_head through =
    law addresses s.field number start now steps there rests leading (keeps links s number start peers steps is of_head through)

pub sealed_told : PortsKeepHeads → LinksStaySealed → SealedMovesAreMoves → ToldIsTrue → SealedToldIsTrue
sealed_told keeps stay moves_law law addresses links beginning s moves number start now peers steps is made there rests leading of_head through =
    law addresses beginning.field s.field (field_moves moves) number start now steps is.field (moves_law addresses links beginning s moves is made) there rests leading
    (keeps links s number start peers steps (stay addresses links beginning s moves is made) of_head through)
