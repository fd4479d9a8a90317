use Rattle.std.proofs.Common.{append_assoc}
use Rattle.fw_report.proofs.report.append_report.Goals as goal

pub returns : goal.returns
returns c =
    simp (c.in_ok-append_activations.ensures, c.in_ok-append_meters.ensures, c.in_ok-append_heads.ensures, c.deref.ensures.value, c.deref-2.ensures.value, c.activations.ensures, append_assoc)
