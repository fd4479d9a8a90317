use Rattle.std.proofs.Common.{◌∙◌}
use Rattle.fw_host.proofs.Tellings.{told_line, told_nothing}
use Rattle.fw_host.proofs.lines.Lines.tell.Goals as goal

pub returns-in-Ok-clause-told : goal.returns-in-Ok-clause-told
returns-in-Ok-clause-told g c = λ bytes is.
    told_line _ _ _ _ _ _ (c.as_bytes.ensures.value ∙ rw c.in-Ok.is at is) c.put.ensures.told

pub returns-in-Err-clause-told : goal.returns-in-Err-clause-told
returns-in-Err-clause-told g c = λ bytes _. told_nothing bytes _ _
