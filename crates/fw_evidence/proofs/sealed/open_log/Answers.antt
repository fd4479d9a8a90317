use Rattle.std.proofs.Common.{◌∙◌, subst, sym, arith}
use Rattle.fw_audit.specs.Log.{log_of}
use Rattle.fw_evidence.specs.Private.{IsUnopened}
use Rattle.fw_evidence.specs.Sealed.{items_in, marks_in}
use Rattle.fw_evidence.specs.declared.sealed.SealedLogError.{SealedLogError}
use Rattle.fw_evidence.proofs.Logs.{opens_all, opens_more, unopened_at}
use Rattle.fw_evidence.proofs.sealed.open_log.Goals as goal

pub returns-in-Err-read-clause-refused : goal.returns-in-Err-read-clause-refused
returns-in-Err-read-clause-refused g c =
    let hears = g.K.EndKeys.hears c.args.keys.now in
    let seals = g.K.EndKeys.seals c.args.keys.now in
    let wire = c.args.wire.now in
    let at = c.args.marks.now in
    let so_far = c.loop-at.invariant in
    subst (λ (e : SealedLogError). IsUnopened hears seals (log_of wire) at e) (sym c.refusal_at.ensures)
    (unopened_at hears seals so_far.first c.loop-at.opening wire at c.loop-at.at _ _ (items_in c.loop-at.log) (marks_in c.loop-at.log) c.in-Err-read.why
    so_far.begins (omega (arith, c.loop-at-test.true)) (omega (arith, c.loop-at-test.true, c.requires)) so_far.opens c.in-Err-read.ensures.unsaid)

pub loop-at-preserved : goal.loop-at-preserved
loop-at-preserved g c =
    let so_far = c.loop-at.invariant in
    record {
      first = so_far.first;
      begins = so_far.begins;
      opens = opens_more (g.K.EndKeys.hears c.args.keys.now) so_far.first c.loop-at.opening c.read.new.self c.args.wire.now c.args.marks.now c.loop-at.at _ _
          (items_in c.loop-at.log) (items_in c.add.new.self) _ (marks_in c.loop-at.log) (marks_in c.add.new.self)
          (omega (arith, c.loop-at-test.true)) (omega (arith, c.loop-at-test.true, c.requires)) so_far.opens c.in-Ok-read.ensures.says
          c.in-Ok-add.ensures.items c.in-Ok-add.ensures.marks;
      count = c.in-Ok-add.ensures.count ∙ so_far.count;
    }

pub returns-clause-opened : goal.returns-clause-opened
returns-clause-opened g c =
    let so_far = c.loop-at.invariant in
    record {
      first = so_far.first;
      begins = so_far.begins;
      last = c.loop-at.opening;
      opens = opens_all (g.K.EndKeys.hears c.args.keys.now) so_far.first c.loop-at.opening c.args.wire.now c.args.marks.now c.loop-at.at (items_in c.loop-at.log) (marks_in c.loop-at.log)
          c.requires (omega (arith, c.loop-at-test.false)) so_far.opens;
    }
