use Rattle.std.proofs.Common.{◌-◌, ◌/◌, ◌∙◌, length, take, replicate, length-append, arith}
use Rattle.std.proofs.lemmas.List.{length-take-le, length-replicate}
use Rattle.fw_store.specs.StoreLaws.{TornSize}
use Rattle.fw_store.proofs.laws.torn_size.Goals as goal

size : TornSize
size bytes torn =
    let n = length bytes in
    let front = length-take-le (n / 2) bytes (omega arith) in
    let rest = length-replicate (n - n / 2) torn in
    length-append (take (n / 2) bytes) (replicate (n - n / 2) torn) ∙ omega (arith, front, rest)

pub returns : goal.returns
returns c = size
