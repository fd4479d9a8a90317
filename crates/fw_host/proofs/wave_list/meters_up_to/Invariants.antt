use Rattle.std.proofs.Common.{◌≡◌, take}
use Rattle.fw_host.specs.Waves.{up_to_wave}
use Rattle.fw_host.proofs.wave_list.meters_up_to.Given as goal

-- those of the meters so far that are of these waves are there
abbrev pub invariant-loop-planned : goal.invariant-loop-planned
invariant-loop-planned l = l.meters ≡ up_to_wave l.wave (take l.planned-index l.list)
