use Rattle.std.proofs.Common.{◌+◌, ◌≤◌, length, refl, arith}
use Rattle.fw_store.specs.StoreLaws.{SpliceStands}
use Rattle.fw_store.proofs.SliceLemmas.{length-splice, take-splice, drop-splice, slice_there, take_of_splice}
use Rattle.fw_store.proofs.laws.splice_stands.Goals as goal

stands : SpliceStands
stands old at bytes within =
    let here : at ≤ at = omega arith in
    let end : at + length bytes ≤ at + length bytes = omega arith in
    record {
      size = length-splice old at bytes within;
      before = take-splice old at bytes at here (omega arith);
      there = slice_there old at bytes (at + length bytes) refl within;
      behind = drop-splice old at bytes (at + length bytes) end within;
      front = λ n inside fits. take_of_splice old at bytes n inside fits;
    }

pub returns : goal.returns
returns c = stands
