use Rattle.fw_keys.proofs.Fields.{no_key, no_last, no_title}
use Rattle.fw_keys.proofs.line.parts_of.Goals as goal

pub returns-in_err-keyed : goal.returns-in_err-keyed
returns-in_err-keyed c = rw c.from_residual.ensures (no_last c.args.line.now c.in_err-keyed.ensures)

pub returns-in_err-titled : goal.returns-in_err-titled
returns-in_err-titled c =
    rw c.from_residual-in_err-titled.ensures (no_key c.args.line.now c.in_ok-keyed.keyed.now _ c.in_ok-keyed.ensures c.in_err-titled.ensures)

pub returns-in_err-name : goal.returns-in_err-name
returns-in_err-name c =
    rw c.from_residual-in_err-name.ensures
    (no_title c.args.line.now c.in_ok-keyed.keyed.now c.in_ok-titled.titled.now _ _ c.in_ok-keyed.ensures c.in_ok-titled.ensures c.in_err-name.ensures)
