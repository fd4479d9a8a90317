use Rattle.std.proofs.Common.{◌≡◌, take}
use Rattle.std.specs.Prelude.{All}
use Rattle.fw_key_files.specs.Making.{IsFileOf, all_owners, owners_of}
use Rattle.fw_key_files.proofs.making.files_of.Given as goal

-- the head end's file and those of the meters so far
abbrev pub invariant-loop-meter : goal.invariant-loop-meter
invariant-loop-meter l = record {
  owners : owners_of l.files.items ≡ all_owners (take l.meter-index l.making.meters.now);
  are : All (λ file. IsFileOf l.making l.keys file) l.files.items;
}
