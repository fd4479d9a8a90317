use Rattle.std.proofs.Common.{Contains, subst}
use Rattle.fw_keys.proofs.file.KeyFile.link_with.Goals as goal

pub returns : goal.returns
returns g c = (
  c.in_ok-entry.entry.now,
  subst (λ es. Contains es c.in_ok-entry.entry.now) c.entries.ensures.entries c.in_ok-entry.ensures.0,
  c.in_ok-entry.ensures.1,
  rw (← c.self.view_is) c.in-Some.ensures.1,
)
