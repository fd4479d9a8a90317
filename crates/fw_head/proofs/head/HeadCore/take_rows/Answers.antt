use Rattle.std.proofs.Common.{subst}
use Rattle.std.specs.Map.{values_of}
use Rattle.fw_head.specs.Head.{Head}
use Rattle.fw_head.specs.Parts.{AreLiveRows}
use Rattle.fw_head.proofs.ByMeter.{taken_live}
use Rattle.fw_head.proofs.head.HeadCore.take_rows.Goals as goal

pub returns-clause-live : goal.returns-clause-live
returns-clause-live c =
    let P : Head → Type 0 = λ h. AreLiveRows h.book (values_of h.rows) in
    subst P c.self.view_is (taken_live c.self.inside.book c.self.inside.width c.self.inside.rows.rows.entries c.self.invariant)
