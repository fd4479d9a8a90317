use Rattle.std.proofs.Common.{◌≡◌, ◌≤◌, length, arith}
use Rattle.std.proofs.lemmas.Result.{err_from_is_err_and}
use Rattle.fw_axdr.specs.Bits.{bytes_for}
use Rattle.fw_axdr.proofs.Wants.{counted_takes, bytes_there}
use Rattle.fw_axdr.proofs.reading.bits.Goals as goal

pub returns-in_err-copied-clause-memory : goal.returns-in_err-copied-clause-memory
returns-in_err-copied-clause-memory c =
    let p = err_from_is_err_and c.from_residual-in_err-copied.result c.from_residual-in_err-copied.ensures.1 in
    let as_many : bytes_for c.in_ok-len.len ≡ c.div_ceil.result = omega (arith, c.div_ceil.ensures) in
    let some : 1 ≤ c.in_ok-len.len = omega (arith, as_many, c.in_err-copied.ensures.memory, c.in_ok-bytes.ensures.len) in
    let there = bytes_there c.div_ceil.result c.length.new.self _ _ c.in_ok-bytes.ensures.gives in
    rw (p.1, p.2) (counted_takes (λ n rest. bytes_for n ≤ length rest) c.args.reader.now c.in_ok-len.len c.length.new.self c.in_ok-len.ensures.gives some (omega (arith, as_many, there)))
