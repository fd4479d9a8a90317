use Rattle.std.proofs.Common.{◌≡◌, List, take, sym, subst, arith}
use Rattle.std.proofs.lemmas.List.{take_all}
use Rattle.fw_audit.specs.Log.{log_of}
use Rattle.fw_audit.specs.Departures.{IsDeparture}
use Rattle.fw_audit.specs.Private.{IsPast, stand_of}
use Rattle.fw_audit.specs.declared.error.Rule.{Rule}
use Rattle.fw_audit.specs.declared.item.LogItem.{LogItem}
use Rattle.fw_audit.proofs.Lives.{departs_at, past_at, past_none}
use Rattle.fw_audit.proofs.life.run.Goals as goal

pub loop-at-init : goal.loop-at-init
loop-at-init c = past_none c.args.heads.now c.args.start c.requires.sound

pub step-requires-clause-going : goal.step-requires-clause-going
step-requires-clause-going c = c.requires.going c.loop-at.at _ (omega (arith, c.loop-at-test.true))

pub loop-at-preserved : goal.loop-at-preserved
loop-at-preserved c =
    past_at c.args.heads.now c.args.start.switched.items (stand_of c.args.start) c.args.items.now c.loop-at.at _ c.loop-at.going c.in-Ok.next
    (omega (arith, c.loop-at-test.true)) c.requires.going c.loop-at.invariant c.in-Ok.ensures

pub returns-in-Err-Departs : goal.returns-in-Err-Departs
returns-in-Err-Departs c =
    subst (λ (r : Rule). IsDeparture c.args.heads.now (stand_of c.args.start) (log_of c.args.items.now) (record { at = c.loop-at.at; rule = r })) (sym c.in-Err-Departs.rule-is)
    (departs_at c.args.heads.now c.args.start.switched.items (stand_of c.args.start) c.args.items.now c.loop-at.at _ c.in-Err-Departs.rule c.in-Err-Departs.field-0 c.loop-at.going
    (omega (arith, c.loop-at-test.true)) c.requires.going c.loop-at.invariant c.in-Err-Departs.field-0-is c.in-Err-Departs.ensures)

pub returns : goal.returns
returns c =
    let items = c.args.items.now in
    let all : take c.loop-at.at items ≡ items = take_all c.loop-at.at items (omega arith) in
    subst (λ (l : List LogItem). IsPast c.args.heads.now c.args.start.switched.items (stand_of c.args.start) (log_of l) c.loop-at.going) all c.loop-at.invariant
