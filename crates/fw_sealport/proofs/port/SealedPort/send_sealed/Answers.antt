use Rattle.std.proofs.Common.{rules, ◌≡◌, ◌∷◌, ℕ, List, MatchOption, Option, inl, inr, refl, sym, subst}
use Rattle.fw_port.specs.Acts.{sent}
use Rattle.fw_seal.specs.Sealing.{Ends}
use Rattle.fw_sealport.specs.Sealed.{SealsPlain}
use Rattle.fw_sealport.specs.Sealing.{WhyUnsealed, next_of}
use Rattle.fw_sealport.specs.declared.unsealed.Unsealed.TheVariants.{Stranger}
use Rattle.fw_sealport.proofs.port.SealedPort.send_sealed.Goals as goal

pub send_sealing-requires : goal.send_sealing-requires
send_sealing-requires g c =
    let shown : c.deref.result.now ≡ c.in-Ok.wire.items = search rules in
    record {
      ends = c.in-Some.link.now;
      there = c.in-Some.ensures;
      counter = next_of c.args.self.now.sealer;
      datagram = c.args.datagram.now;
      seals = subst (λ (l : List ℕ). SealsPlain c.in-Some.link.now (next_of c.args.self.now.sealer) c.args.datagram.now l) (sym shown) c.in-Ok.ensures.sealed;
    }

pub returns-in-Ok-clause-sends : goal.returns-in-Ok-clause-sends
returns-in-Ok-clause-sends g c =
    let port = c.args.self.now.port in
    let shown : c.deref.result.now ≡ c.in-Ok.wire.items = search rules in
    inl (record {
      ends = c.in-Some.link.now;
      there = c.in-Some.ensures;
      wire = c.in-Ok.wire.items;
      seals = c.in-Ok.ensures.sealed;
      uses = c.in-Ok.ensures.uses;
      below = λ honest.
          subst (λ (l : List ℕ). g.P.Port.acts c.send_sealing.new.self ≡ sent c.args.to l ∷ g.P.Port.acts port) shown (c.send_sealing.ensures.sent honest);
      links = refl;
      uncounted = refl;
    })

pub returns-in-Err-clause-sends : goal.returns-in-Err-clause-sends
returns-in-Err-clause-sends g c =
    let reason = c.in-Err.field-0 in
    inr (record {
      reason = reason;
      unsent = subst (λ (o : Option Ends). MatchOption o (reason ≡ Stranger) (λ ends. WhyUnsealed g.D.JournalDevice ends c.args.self.now.sealer c.args.datagram.now reason))
          (sym c.in-Some.ensures) c.in-Err.ensures.refused;
      unused = c.in-Err.ensures.unused;
      counted = c.count_unsealed-in-Err.ensures;
      port = refl;
      links = refl;
    })

pub returns-in_default-clause-sends : goal.returns-in_default-clause-sends
returns-in_default-clause-sends g c =
    inr (record {
      reason = Stranger;
      unsent = subst (λ (o : Option Ends). MatchOption o (Stranger ≡ Stranger) (λ ends. WhyUnsealed g.D.JournalDevice ends c.args.self.now.sealer c.args.datagram.now Stranger))
          (sym c.in_default.ensures) refl;
      unused = record { used = inl refl; kept = λ k. k; fault = refl };
      counted = c.count_unsealed.ensures;
      port = refl;
      links = refl;
    })
