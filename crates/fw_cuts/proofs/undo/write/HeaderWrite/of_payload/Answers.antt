use Rattle.std.proofs.Common.{rules, ◌≡◌, []}
use Rattle.fw_cuts.specs.Reading.{IsNoPayload}
use Rattle.fw_cuts.proofs.Spellings.{Places, end_none, more_none, told_none}
use Rattle.fw_cuts.proofs.undo.write.HeaderWrite.of_payload.Goals as goal

pub returns-in_err-last_before-clause-none : goal.returns-in_err-last_before-clause-none
returns-in_err-last_before-clause-none c =
    let places : Places c.args.bytes.now c.in_ok-at.at c.in_ok-last_at.last_at c.in_ok-last_at.rest.now = record {
      marked = c.in_ok-after_mark.field-0.now;
      is = c.in_ok-after_mark.ensures.found;
      between = c.in_ok-at.rest.now;
      first = c.in_ok-at.ensures.found;
      second = c.in_ok-last_at.ensures.found;
      at_fits = c.in_ok-at.ensures.fits;
      last_at_fits = c.in_ok-last_at.ensures.fits;
    } in
    told_none c.from_residual-in_err-last_before.result (IsNoPayload c.args.bytes.now)
    (end_none c.args.bytes.now c.in_ok-last_at.rest.now c.in_ok-before.rest.now c.in_ok-before.before.now c.in_ok-before.after.now c.in_ok-at.at c.in_ok-last_at.last_at places
    c.in_ok-before.ensures.found c.in_ok-before.ensures.first c.in_ok-before.ensures.second c.in_err-last_before.ensures.none)

pub returns-then-not-is_empty-clause-none : goal.returns-then-not-is_empty-clause-none
returns-then-not-is_empty-clause-none c =
    let places : Places c.args.bytes.now c.in_ok-at.at c.in_ok-last_at.last_at c.in_ok-last_at.rest.now = record {
      marked = c.in_ok-after_mark.field-0.now;
      is = c.in_ok-after_mark.ensures.found;
      between = c.in_ok-at.rest.now;
      first = c.in_ok-at.ensures.found;
      second = c.in_ok-last_at.ensures.found;
      at_fits = c.in_ok-at.ensures.fits;
      last_at_fits = c.in_ok-last_at.ensures.fits;
    } in
    let rest = c.in_ok-last_before.rest.now in
    let some : rest ≡ [] → ⊥ = λ e. search rules in
    more_none c.args.bytes.now c.in_ok-last_at.rest.now c.in_ok-before.rest.now c.in_ok-before.before.now c.in_ok-before.after.now
    c.in_ok-last_before.last_before.now c.in_ok-last_before.last_after.now rest c.in_ok-at.at c.in_ok-last_at.last_at places
    c.in_ok-before.ensures.found c.in_ok-before.ensures.first c.in_ok-before.ensures.second
    c.in_ok-last_before.ensures.found c.in_ok-last_before.ensures.first c.in_ok-last_before.ensures.second some
