use Rattle.std.proofs.Common.{◌*◌, length, refl}
use Rattle.hex.specs.Hex.{decode_sized}
use Rattle.fw_keys.proofs.Fields.{decoded_err, not_spelled}
use Rattle.fw_keys.proofs.line.take_field.Goals as goal

pub returns-in-Err : goal.returns-in-Err
returns-in-Err c =
    let size = length c.args.out.now in
    let field = c.in_ok-front.digits.now in
    not_spelled size (2 * size) c.args.line.now c.in_ok-front.front.now field c.in-Err.field-0 refl c.in_ok-front.ensures.0 c.in_ok-front.ensures.1
    (decoded_err (decode_sized field size) c.decode_to_slice.result c.decode_to_slice.new.out c.in-Err.field-0 c.decode_to_slice.ensures.value c.in-Err.is)
