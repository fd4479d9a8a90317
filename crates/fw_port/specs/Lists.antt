-- Public vocabulary: what a port in memory did.
use Rattle.std.specs.Prelude.{List, map, reverse}
use Rattle.fw_port.specs.Acts.{Act, came, quiet, sent, told}
use Rattle.fw_port.specs.declared.list.Deed.{Deed}
use Rattle.fw_port.specs.declared.list.Deed.TheVariants as deed

-- what was done, without where it lies in memory
abbrev pub act_of : {Report : Type 0} → Deed Report → Act Report
act_of (deed.Came d) = came d.address d.bytes.items
act_of deed.Quiet = quiet
act_of (deed.Sent d) = sent d.address d.bytes.items
act_of (deed.Told report) = told report

-- a port keeps what was done with the oldest first
abbrev pub acts_of : {Report : Type 0} → List (Deed Report) → List (Act Report)
acts_of deeds = reverse (map act_of deeds)
