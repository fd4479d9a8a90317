use Rattle.std.proofs.Common.{subst, arith}
use Rattle.std.specs.Prelude.{All}
use Rattle.std.proofs.lemmas.List.{take_all}
use Rattle.std.proofs.lemmas.List.Elements.{All-more, All-nil}
use Rattle.fw_fleet_audit.specs.Rows.{IsBorneOut}
use Rattle.fw_fleet_audit.proofs.Passing.{lacking_at}
use Rattle.fw_fleet_audit.proofs.rows.first_lacking.Goals as goal

pub loop-row-init : goal.loop-row-init
loop-row-init c = All-nil (IsBorneOut c.args.meters.now c.args.name)

pub loop-row-preserved : goal.loop-row-preserved
loop-row-preserved c =
    All-more (IsBorneOut c.args.meters.now c.args.name) c.args.rows.now c.loop-row.row-index c.row-item.result (omega (arith, c.loop-row-test.true)) c.loop-row.invariant
    (subst (IsBorneOut c.args.meters.now c.args.name) c.row-item.is (c.is_borne_out.ensures.some c.if-not-is_borne_out.false))

pub returns-then-not-is_borne_out-clause-some : goal.returns-then-not-is_borne_out-clause-some
returns-then-not-is_borne_out-clause-some c =
    let unborne = c.is_borne_out.ensures.none c.if-not-is_borne_out.true in
    lacking_at c.args.meters.now c.args.name c.args.rows.now c.loop-row.row-index c.row-item.result c.lack.result (omega (arith, c.loop-row-test.true)) c.row-item.is
    c.loop-row.invariant unborne (c.lack.ensures c.args.name unborne.1)

pub returns-clause-none : goal.returns-clause-none
returns-clause-none c =
    subst (All (IsBorneOut c.args.meters.now c.args.name)) (take_all c.loop-row.row-index c.args.rows.now (omega (arith, c.loop-row-test.false))) c.loop-row.invariant
