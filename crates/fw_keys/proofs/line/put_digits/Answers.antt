use Rattle.std.proofs.Common.{arith, length, refl}
use Rattle.hex.proofs.HexLemmas.{decode_sized-encode_lower}
use Rattle.fw_keys.proofs.Fields.{on_ok}
use Rattle.fw_keys.proofs.line.put_digits.Goals as goal

pub returns-clause-written : goal.returns-clause-written
returns-clause-written c =
    on_ok c.extend_from_slice.result _
    (decode_sized-encode_lower c.args.bytes.now (length c.args.bytes.now) refl (λ i. omega (arith, c.type_inv.bytes i)))
