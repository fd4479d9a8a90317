use Rattle.std.proofs.Common.{◌≡◌, ◌%◌, ◌/◌, length, ◌∙◌, arith}
use Rattle.fw_text.proofs.Digits.{decoded_digits, is_err}
use Rattle.fw_text.proofs.hexadecimal.put_bytes.Goals as goal

pub returns-then-not-is_hexadecimal-clause-none : goal.returns-then-not-is_hexadecimal-clause-none
returns-then-not-is_hexadecimal-clause-none c =
    is_err _ (λ ok. let yes = c.is_hexadecimal.ensures.1 ok in cc (yes, c.if-not-is_hexadecimal.true))
