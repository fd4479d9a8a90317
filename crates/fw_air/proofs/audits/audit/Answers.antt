use Rattle.std.proofs.Common.{◌≡◌, sym, subst, ◌∙◌, inl, inr}
use Rattle.fw_world.specs.Headline.{InitiatesAreOffered}
use Rattle.fw_world.specs.State.{State, world_of}
use Rattle.fw_air.specs.declared.audits.AuditError.TheVariants as audit
use Rattle.fw_air.specs.Audits.{AreOtherParts}
use Rattle.fw_air.proofs.Refused.{broken_off}
use Rattle.fw_air.proofs.audits.audit.Goals as goal

pub returns-in-Err-clause-mismatch : goal.returns-in-Err-clause-mismatch
returns-in-Err-clause-mismatch c =
    λ is. let told : c.refusal.result ≡ audit.Mismatch = cc in
    let broken = broken_off c.args.setup.now c.args.events.now c.in-Err.error c.in-Err.ensures.stopped (sym c.refusal.ensures ∙ told) c.in-Err.ensures.made in
    (broken.0, inl broken.1)

pub returns-then-not-are_same_parts-clause-mismatch : goal.returns-then-not-are_same_parts-clause-mismatch
returns-then-not-are_same_parts-clause-mismatch c =
    let other = c.are_same_parts.ensures.other c.if-not-are_same_parts.true in
    λ is. (
      c.in-Ok.ensures.made,
      inr (c.in-Ok.world, c.in-Ok.ensures.runs, subst (λ (w : State). AreOtherParts w c.args.heads.now c.args.meters.now c.args.sent.now) c.into_parts-parts.ensures.parts other),
    )

pub returns-clause-initiates : goal.returns-clause-initiates
returns-clause-initiates c =
    subst (λ (w : State). InitiatesAreOffered (world_of w)) (sym (c.from_parts.ensures ∙ c.into_parts-parts.ensures.parts)) c.in-Ok.ensures.initiates
