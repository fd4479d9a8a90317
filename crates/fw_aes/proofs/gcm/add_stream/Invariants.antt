use Rattle.std.proofs.Common.{◌≡◌, ◌≢◌, ◌+◌, ◌*◌, ◌/◌, ◌%◌, ◌++◌, take, drop}
use Rattle.fw_aes.specs.Gcm.{stream_byte, sum_from}
use Rattle.fw_aes.specs.Schedule.{IsStream}
use Rattle.fw_aes.proofs.gcm.add_stream.Given as goal

abbrev pub invariant-loop-k : goal.invariant-loop-k
invariant-loop-k l = record {
  added : l.text ≡ sum_from (stream_byte l.cipher l.iv 2) 0 (take l.k l.fn.text) ++ drop l.k l.fn.text;
  stream : l.k % 64 ≢ 0 → IsStream l.cipher l.iv (2 + 4 * (l.k / 64)) l.stream;
}
