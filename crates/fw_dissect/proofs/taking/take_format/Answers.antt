use Rattle.std.proofs.Common.{ℕ, List, subst}
use Rattle.fw_dissect.specs.Private.{Opens}
use Rattle.fw_dissect.proofs.Taken.{start_of}
use Rattle.fw_dissect.proofs.taking.take_format.Goals as goal

pub returns-in-Ok-clause-opens : goal.returns-in-Ok-clause-opens
returns-in-Ok-clause-opens g c =
    (c.in-Ok.header.items, c.in-Ok.ensures.header, subst (λ (x : List ℕ). Opens x c.format_of.result) c.deref.ensures.value c.format_of.ensures)

pub returns-in-Err-clause-faults : goal.returns-in-Err-clause-faults
returns-in-Err-clause-faults g c = rw c.of_stream.ensures (start_of 0 c.in-Err.error c.in-Err.ensures.faults)
