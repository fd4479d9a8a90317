use Rattle.std.proofs.Common.{◌≡◌, ◌%◌, length, sym, ◌∙◌, arith}
use Rattle.fw_text.proofs.Digits.{digits_decode, decoded_digits}
use Rattle.fw_text.proofs.hexadecimal.is_hexadecimal.Goals as goal

pub returns-then-text-eq0 : goal.returns-then-text-eq0
returns-then-text-eq0 c =
    let even : length c.args.text.now % 2 ≡ 0 = omega arith in (
      λ all. digits_decode c.args.text.now even (sym c.are_digits.ensures ∙ all),
      λ ok. c.are_digits.ensures ∙ (decoded_digits c.args.text.now ok).1,
    )
