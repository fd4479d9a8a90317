use Rattle.std.proofs.Common.{◌≡◌, take}
use Rattle.fw_audit.proofs.switched.shared.Given as goal

-- those so far are there
abbrev pub invariant-loop-image : goal.invariant-loop-image
invariant-loop-image l = l.all.items ≡ take l.image-index l.images
