use Rattle.std.proofs.Common.{rules, ◌≡◌, ◌∙◌, ◌∷◌, Bool, IsTrue, inl, inr, refl, sym, ap, subst, take}
use Rattle.fw_port.specs.Acts.{came}
use Rattle.fw_sealport.proofs.port.SealedPort.receive_opened.Goals as goal

-- what the port below received is let through
pub returns-clause-arrives : goal.returns-clause-arrives
returns-clause-arrives g c =
    let arrival = c.in-Some.arrival in
    record {
      wire = take arrival.count c.receive.new.buffer;
      below = λ honest.
          let is : g.P.Port.acts c.receive.new.self ≡ came arrival.from (take arrival.count c.receive.new.buffer) ∷ g.P.Port.acts c.args.self.now.port = search rules in
          subst (λ p. g.P.Port.acts p ≡ came arrival.from (take arrival.count c.receive.new.buffer) ∷ g.P.Port.acts c.args.self.now.port) (sym c.open_in_place.ensures.port) is;
      lets = c.in-Some-open_in_place.ensures.lets;
      uncounted = c.in-Some-open_in_place.ensures.uncounted;
      sealer = c.open_in_place.ensures.sealer;
    }

-- nothing of it is, and the port below is told
pub returns-in_default-open_in_place-clause-nothing : goal.returns-in_default-open_in_place-clause-nothing
returns-in_default-open_in_place-clause-nothing g c =
    let arrival = c.in-Some.arrival in
    let wire = take arrival.count c.receive.new.buffer in
    inl (record {
      from = arrival.from;
      wire = wire;
      below = λ honest.
          let is : g.P.Port.acts c.receive.new.self ≡ came arrival.from wire ∷ g.P.Port.acts c.args.self.now.port = search rules in
          let still : IsTrue (g.P.Port.honest c.receive.new.self) = subst (λ (b : Bool). IsTrue b) (sym c.receive.ensures.honesty) honest in
          let port : c.open_in_place.new.self.port ≡ c.receive.new.self = c.open_in_place.ensures.port in
          c.note_unopened.ensures.acts (subst (λ p. IsTrue (g.P.Port.honest p)) (sym port) still) ∙ ap (λ p. g.P.Port.acts p) port ∙ is;
      drops = c.in_default-open_in_place.ensures.drops;
      sealer = c.open_in_place.ensures.sealer;
    })

-- it received none
pub returns-in_default-clause-nothing : goal.returns-in_default-clause-nothing
returns-in_default-clause-nothing g c = inr (record { below = λ honest. search rules; others = refl })
