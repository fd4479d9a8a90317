use Rattle.std.proofs.Common.{rules, ◌≡◌, ℕ, IfErr, Err, inl, subst, sym}
use Rattle.fw_sealport.proofs.Cases.{err_weaker, ok_weaker, on_ok}
use Rattle.fw_sealport.proofs.SealerFacts.{used_for_nothing, why_unsealed}
use Rattle.fw_sealport.proofs.WireFacts.{no_plain}
use Rattle.fw_sealport.specs.Sealed.{Seals}
use Rattle.fw_sealport.specs.Sealing.{Unused, WhyUnsealed}
use Rattle.fw_sealport.specs.declared.unsealed.Unsealed.TheVariants.{Counter}
use Rattle.fw_sealport.proofs.sealer.Sealer.seal.Goals as goal

pub returns-in_err-number-clause-refused : goal.returns-in_err-number-clause-refused
returns-in_err-number-clause-refused g c =
    let ends = c.args.link.now in
    let old = c.args.self.now in
    let datagram = c.args.datagram.now in
    let error = c.in_err-number.field-0.0 in
    let same : c.from_residual.result ≡ Err (Counter error) = search rules in
    subst (λ r. IfErr r (λ e. WhyUnsealed g.D.JournalDevice ends old datagram e)) (sym same) ((c.in-Some.apdu.now, c.in-Some.ensures.found), c.in_err-number.ensures.why)

pub returns-in_err-number-clause-unused : goal.returns-in_err-number-clause-unused
returns-in_err-number-clause-unused g c =
    let old = c.args.self.now in
    let error = c.in_err-number.field-0.0 in
    let same : c.from_residual.result ≡ Err (Counter error) = search rules in
    subst (λ r. IfErr r (λ e. Unused g.D.JournalDevice old e c.take.new.self)) (sym same)
    (record { used = inl c.in_err-number.ensures.same; kept = c.take.ensures.kept; fault = c.in_err-number.ensures.fault })

pub returns-clause-sealed : goal.returns-clause-sealed
returns-clause-sealed g c =
    ok_weaker c.seal_apdu.result _ _
    (λ wire seals. record {
      apdu = c.in-Some.apdu.now;
      plain_is = c.in-Some.ensures.found.bytes;
      seals = subst (λ (n : ℕ). Seals c.args.link.now n c.in-Some.apdu.now wire.items) c.in_ok-number.ensures.given seals;
    })
    c.seal_apdu.ensures.sealed

pub returns-clause-uses : goal.returns-clause-uses
returns-clause-uses g c = on_ok c.seal_apdu.result _ c.in_ok-number.ensures.uses

pub returns-clause-refused : goal.returns-clause-refused
returns-clause-refused g c =
    err_weaker c.seal_apdu.result _ _
    (λ e is. why_unsealed g.D.JournalDevice c.args.link.now c.args.self.now c.args.datagram.now c.in-Some.apdu.now c.one_frame.ensures c.in-Some.ensures.found e is)
    c.seal_apdu.ensures.refused

pub returns-clause-unused : goal.returns-clause-unused
returns-clause-unused g c =
    err_weaker c.seal_apdu.result _ _
    (λ e is. used_for_nothing g.D.JournalDevice _ c.args.self.now c.take.new.self e c.in_ok-number.ensures.uses is)
    c.seal_apdu.ensures.refused

pub returns-in_default-clause-refused : goal.returns-in_default-clause-refused
returns-in_default-clause-refused g c = no_plain c.args.link.now c.args.datagram.now c.in_default.ensures.none
