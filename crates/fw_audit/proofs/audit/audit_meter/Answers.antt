use Rattle.std.proofs.Common.{rules, ◌≡◌, ◌≤◌, List, Err, length, subst, arith}
use Rattle.fw_image.specs.Meter.{reopened}
use Rattle.fw_audit.specs.Log.{Item, log_of}
use Rattle.fw_audit.specs.Private.{IsChosen, IsFollowed, StartsAt}
use Rattle.fw_audit.specs.declared.life.Stop.{Stop}
use Rattle.fw_audit.proofs.Audits.{begins_started, chosen_err, chosen_ok, no_items}
use Rattle.fw_audit.proofs.Items.{log_size}
use Rattle.fw_audit.proofs.audit.audit_meter.Goals as goal

pub returns-then-is_empty-clause-is : goal.returns-then-is_empty-clause-is
returns-then-is_empty-clause-is c =
    let heads = c.args.heads.now in
    let begin = reopened c.args.begin.meter in
    let end = c.args.end.now.meter in
    let result = c.never_started.result in
    let none : length c.args.items.now ≡ 0 = search rules in
    chosen_ok heads begin end (log_of c.args.items.now) result
    (subst (λ (l : List Item). IsChosen heads begin l end result) (no_items c.args.items.now none) (c.never_started.ensures heads))

pub returns-then-is_empty-clause-refused : goal.returns-then-is_empty-clause-refused
returns-then-is_empty-clause-refused c =
    let heads = c.args.heads.now in
    let begin = reopened c.args.begin.meter in
    let end = c.args.end.now.meter in
    let result = c.never_started.result in
    let none : length c.args.items.now ≡ 0 = search rules in
    chosen_err heads begin end (log_of c.args.items.now) result
    (subst (λ (l : List Item). IsChosen heads begin l end result) (no_items c.args.items.now none) (c.never_started.ensures heads))

pub returns-in-Ok-clause-is : goal.returns-in-Ok-clause-is
returns-in-Ok-clause-is c =
    let begin = reopened c.args.begin.meter in
    let log = log_of c.args.items.now in
    chosen_ok c.args.heads.now begin c.args.end.now.meter log c.chosen.result (c.chosen.ensures c.args.heads.now begin log c.in-Ok.ensures)

pub returns-in-Ok-clause-refused : goal.returns-in-Ok-clause-refused
returns-in-Ok-clause-refused c =
    let begin = reopened c.args.begin.meter in
    let log = log_of c.args.items.now in
    chosen_err c.args.heads.now begin c.args.end.now.meter log c.chosen.result (c.chosen.ensures c.args.heads.now begin log c.in-Ok.ensures)

pub returns-in-Err-Departs-clause-refused : goal.returns-in-Err-Departs-clause-refused
returns-in-Err-Departs-clause-refused c =
    subst (λ (s : Stop). IsFollowed c.args.heads.now (reopened c.args.begin.meter) (log_of c.args.items.now) (Err s)) c.in-Err-Departs.field-0-is c.in-Err-Departs.ensures

pub returns-in-Err-OutOfMemory-clause-refused : goal.returns-in-Err-OutOfMemory-clause-refused
returns-in-Err-OutOfMemory-clause-refused c =
    let items = c.args.items.now in
    let some : 1 ≤ length items = search rules in
    let starts : StartsAt (log_of items) 0 =
    subst (λ (s : Stop). IsFollowed c.args.heads.now (reopened c.args.begin.meter) (log_of items) (Err s)) c.in-Err-OutOfMemory.field-0-is c.in-Err-OutOfMemory.ensures in
    begins_started (log_of items) (omega (arith, some, log_size items)) starts
