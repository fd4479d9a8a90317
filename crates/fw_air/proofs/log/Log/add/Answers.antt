use Rattle.std.proofs.Common.{◌≡◌, ◌+◌, ◌-◌, ◌^◌, min, List, length, ap, ◌∙◌}
use Rattle.fw_world.specs.World.{Datagram}
use Rattle.fw_air.specs.declared.log.Part.{Part}
use Rattle.fw_air.specs.Parts.{parts}
use Rattle.fw_air.proofs.Adding.{sent_is, entries_are, adds}
use Rattle.fw_air.proofs.log.Log.add.Goals as goal

pub invariant_of-self : goal.invariant_of-self
invariant_of-self c =
    let p : Part = record { event = c.args.event; sent = c.room.inside.sent } in
    let is : c.saturating_add-self-inside-2.result ≡ min (c.self.inside.datagrams + length c.room.inside.sent.items) (2 ^ 64 - 1) =
    c.saturating_add-self-inside-2.ensures ∙ ap (λ (xs : List Datagram). min (c.self.inside.datagrams + length xs) (2 ^ 64 - 1)) c.as_slice.ensures.value in
    rw c.replace.ensures.value
    (adds c.self.inside.sent.items c.self.inside.entries.items (parts c.self.inside.newer.chain) p c.self.inside.events c.self.inside.datagrams _ _ c.self.invariant c.saturating_add-self-inside.ensures is)

pub returns-clause-log : goal.returns-clause-log
returns-clause-log c =
    let p : Part = record { event = c.args.event; sent = c.room.inside.sent } in
    rw (c.replace.ensures.value, ← c.self.view_is, ← c.room.view_is)
    (λ i. record {
      sent = sent_is c.self.inside.sent.items (parts c.self.inside.newer.chain) p i;
      entries = entries_are c.self.inside.entries.items (parts c.self.inside.newer.chain) p i;
    })

pub returns-clause-counted : goal.returns-clause-counted
returns-clause-counted c = (invariant_of-self c).counted
