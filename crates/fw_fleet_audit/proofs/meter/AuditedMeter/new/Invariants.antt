use Rattle.std.proofs.Common.{◌≡◌, take}
use Rattle.fw_fleet_audit.specs.Rows.{names_of}
use Rattle.fw_fleet_audit.proofs.meter.AuditedMeter.new.Given as goal

-- the names of the images so far
abbrev pub invariant-loop-image : goal.invariant-loop-image
invariant-loop-image l = l.names.items ≡ names_of (take l.image-index l.images)
