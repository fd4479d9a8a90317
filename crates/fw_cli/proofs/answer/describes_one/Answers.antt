use Rattle.fw_cli.proofs.Described.{described, no_digits, no_setup}
use Rattle.fw_cli.proofs.answer.describes_one.Goals as goal

pub returns-then-is_hexadecimal-clause-one : goal.returns-then-is_hexadecimal-clause-one
returns-then-is_hexadecimal-clause-one c = λ yes.
    described c.args.options.now c.as_bytes.result.now c.as_bytes.ensures.value (c.is_hexadecimal.ensures.0 c.if-is_hexadecimal.true) (λ bytes size. (c.is_setup.ensures bytes size).0 yes)

pub returns-then-is_hexadecimal-clause-none : goal.returns-then-is_hexadecimal-clause-none
returns-then-is_hexadecimal-clause-none c = λ no. no_setup c.args.options.now (λ bytes size setup. let yes = (c.is_setup.ensures bytes size).1 setup in cc (yes, no))

pub returns-else-is_hexadecimal-clause-none : goal.returns-else-is_hexadecimal-clause-none
returns-else-is_hexadecimal-clause-none c = λ _.
    no_digits c.args.options.now c.as_bytes.result.now c.as_bytes.ensures.value (λ ok. let yes = c.is_hexadecimal.ensures.1 ok in cc (yes, c.if-is_hexadecimal.false))
